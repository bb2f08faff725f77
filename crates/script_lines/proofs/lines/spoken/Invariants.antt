-- The lines so far, and those not yet read.
use Rattle.std.proofs.Common.{◌≡◌, ◌+◌, ◌++◌, drop, map}
use Rattle.script_lines.specs.Lines.{texts, plain_line, spoken}
use Rattle.script_lines.proofs.lines.spoken.Given as goal

abbrev pub invariant-loop-index : goal.invariant-loop-index
invariant-loop-index l = map plain_line l.lines.items ++ spoken (l.index + 1) (texts (drop l.index l.all)) ≡ spoken 1 (texts l.all)
