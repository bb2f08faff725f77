-- Adding all lines gives the same as adding the remaining lines to the script so far.
use Rattle.std.proofs.Common.{◌≡◌, drop, map}
use Rattle.script_lines.specs.Lines.{plain_line}
use Rattle.pool_soak.specs.Scripts.{plain_soak, empty, read}
use Rattle.pool_soak.proofs.script.all_added.Given as goal

abbrev pub invariant-loop-line : goal.invariant-loop-line
invariant-loop-line l = read empty (map plain_line l.lines) ≡ read (plain_soak l.soak) (map plain_line (drop l.line-index l.lines))
