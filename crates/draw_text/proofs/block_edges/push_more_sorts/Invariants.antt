use Rattle.std.proofs.Common.{◌≡◌, ◌++◌, drop}
use Rattle.std.specs.List.{flat_map}
use Rattle.std.specs.Prelude.{codes}
use Rattle.draw_text.specs.Statements.{sort_text}
use Rattle.draw_text.proofs.block_edges.push_more_sorts.Given as goal

abbrev pub invariant-loop-sort : goal.invariant-loop-sort
invariant-loop-sort l = l.text.items ++ flat_map (λ s. codes ", " ++ sort_text s) (drop l.sort-index l.sorts) ≡ l.initial.text.items ++ flat_map (λ s. codes ", " ++ sort_text s) (l.sorts)
