use Rattle.std.proofs.Common.{◌++◌, List, map, take}
use Rattle.turn_rules.specs.RouteTables.{Mention, Tells}
use Rattle.turn_rules.proofs.route_table.RouteTable.add_route.Given as goal

abbrev pub invariant-loop-signal : goal.invariant-loop-signal
invariant-loop-signal l =
    (ms : List Mention) → Tells l.initial.self ms
    → Tells l.self (ms ++ map (λ n. record { from = l.route.from; to = l.route.to; signal = n }) (take l.signal-index l.signal-items))
