use Rattle.std.proofs.Common.{take}
use Rattle.std.specs.List.{flat_map}
use Rattle.turn_rules.specs.RouteTables.{mentions_of, Tells}
use Rattle.turn_rules.proofs.route_table.RouteTable.new.Given as goal

abbrev pub invariant-loop-route : goal.invariant-loop-route
invariant-loop-route l = Tells l.table (flat_map mentions_of (take l.route-index l.routes))
