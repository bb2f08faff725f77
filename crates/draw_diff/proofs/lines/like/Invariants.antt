use Rattle.std.proofs.Common.{◌≡◌, ◌++◌, drop, map}
use Rattle.std.specs.List.{flat_map}
use Rattle.draw_diff.specs.Items.{item_of, like}
use Rattle.draw_diff.proofs.lines.like.Given as goal

abbrev pub invariant-loop-other : goal.invariant-loop-other
invariant-loop-other l =
    like (item_of l.item) (map item_of (drop l.other-index l.others)) ≡ like (item_of l.item) (map item_of l.others)
