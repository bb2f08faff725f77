use Rattle.std.proofs.Common.{◌≡◌, ◌++◌, drop, map}
use Rattle.std.specs.List.{flat_map}
use Rattle.draw_diff.specs.Items.{item_of, route_item}
use Rattle.draw_diff.proofs.items.push_all_carried.Given as goal

abbrev pub invariant-loop-signal : goal.invariant-loop-signal
invariant-loop-signal l =
    map item_of l.items.items ++ map (route_item l.draft l.route) (drop l.signal-index l.signals) ≡ map item_of l.initial.items.items ++ map (route_item l.draft l.route) l.signals
