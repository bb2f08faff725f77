use Rattle.std.proofs.Common.{◌≡◌, ◌++◌, drop, map}
use Rattle.std.specs.List.{flat_map}
use Rattle.draw_diff.specs.Items.{item_of, route_items}
use Rattle.draw_diff.proofs.items.push_routes.Given as goal

abbrev pub invariant-loop-route : goal.invariant-loop-route
invariant-loop-route l =
    map item_of l.items.items ++ flat_map (route_items l.draft) (drop l.route-index l.routes) ≡ map item_of l.initial.items.items ++ flat_map (route_items l.draft) l.routes
