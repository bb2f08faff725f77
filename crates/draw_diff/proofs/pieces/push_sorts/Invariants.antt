use Rattle.std.proofs.Common.{◌≡◌, ◌++◌, drop, map}
use Rattle.std.specs.List.{flat_map}
use Rattle.draw_diff.specs.Items.{more_sorts}
use Rattle.draw_diff.proofs.pieces.push_sorts.Given as goal

abbrev pub invariant-loop-sort : goal.invariant-loop-sort
invariant-loop-sort l =
    l.text.items ++ flat_map more_sorts (drop l.sort-index l.sorts) ≡ l.initial.text.items ++ flat_map more_sorts l.sorts
