-- The line numbers found so far.
use Rattle.std.proofs.Common.{◌≡◌}
use Rattle.script_covered.specs.Lcov.{line_at}
use Rattle.script_covered.proofs.Printing.{AreSo}
use Rattle.script_covered.proofs.line_numbers.lines_of.Given as goal

abbrev pub invariant-loop-octet : goal.invariant-loop-octet
invariant-loop-octet l = record {
  line : l.line ≡ line_at l.text l.octet-index;
  so : AreSo l.text l.lines.items l.octet-index;
}
