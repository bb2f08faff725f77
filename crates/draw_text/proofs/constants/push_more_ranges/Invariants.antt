use Rattle.std.proofs.Common.{◌≡◌, ◌++◌, drop}
use Rattle.std.specs.List.{flat_map}
use Rattle.std.specs.Prelude.{codes}
use Rattle.draw_text.specs.Statements.{range_text}
use Rattle.draw_text.proofs.constants.push_more_ranges.Given as goal

abbrev pub invariant-loop-range : goal.invariant-loop-range
invariant-loop-range l = l.text.items ++ flat_map (λ r. codes ", " ++ range_text r) (drop l.range-index l.ranges) ≡ l.initial.text.items ++ flat_map (λ r. codes ", " ++ range_text r) (l.ranges)
