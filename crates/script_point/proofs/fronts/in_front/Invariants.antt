use Rattle.std.proofs.Common.{◌≡◌, ◌++◌, true, drop}
use Rattle.script_point.specs.Fronts.{in_front}
use Rattle.script_point.proofs.fronts.in_front.Given as goal

abbrev pub invariant-loop-byte : goal.invariant-loop-byte
invariant-loop-byte l = l.out.items ++ in_front l.name l.begins (drop l.byte-index l.lines) ≡ in_front l.name true l.lines
