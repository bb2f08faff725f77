use Rattle.std.proofs.Common.{◌≡◌, ◌++◌, drop, map}
use Rattle.std.specs.List.{flat_map}
use Rattle.draw_diff.specs.Items.{item_of, side_line}
use Rattle.draw_diff.proofs.lines.push_side.Given as goal

abbrev pub invariant-loop-item : goal.invariant-loop-item
invariant-loop-item l =
    l.text.items ++ flat_map (λ i. side_line l.side i (map item_of l.others)) (map item_of (drop l.item-index l.items)) ≡ l.initial.text.items ++ flat_map (λ i. side_line l.side i (map item_of l.others)) (map item_of l.items)
