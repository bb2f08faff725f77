-- The settings and the rest that all lines yield are those that the lines from here on yield.
use Rattle.std.proofs.Common.{◌≡◌, drop, map}
use Rattle.script_lines.specs.Lines.{plain_line}
use Rattle.script_lines.specs.Scripts.{defaults, after_head}
use Rattle.script_lines.proofs.settings.head_of.Given as goal

abbrev pub invariant-loop-index : goal.invariant-loop-index
invariant-loop-index l = after_head defaults (map plain_line l.lines) ≡ after_head l.settings (map plain_line (drop l.index l.lines))
