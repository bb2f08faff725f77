use Rattle.std.proofs.Common.{◌≡◌, ◌++◌, drop, map}
use Rattle.std.specs.List.{flat_map}
use Rattle.draw_diff.specs.Items.{item_of, save_item}
use Rattle.draw_diff.proofs.items.push_saves.Given as goal

abbrev pub invariant-loop-trigger : goal.invariant-loop-trigger
invariant-loop-trigger l =
    map item_of l.items.items ++ map (save_item l.draft l.process l.state) (drop l.trigger-index l.saves) ≡ map item_of l.initial.items.items ++ map (save_item l.draft l.process l.state) l.saves
