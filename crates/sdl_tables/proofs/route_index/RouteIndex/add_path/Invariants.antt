use Rattle.std.proofs.Common.{◌++◌, List, map, take}
use Rattle.sdl_tables.specs.RouteIndexes.{Mention, Indexes}
use Rattle.sdl_tables.proofs.route_index.RouteIndex.add_path.Given as goal

abbrev pub invariant-loop-signal : goal.invariant-loop-signal
invariant-loop-signal l =
    (ms : List Mention) → Indexes l.initial.self ms
    → Indexes l.self (ms ++ map (λ id. record { from = l.path.from; to = l.path.to; signal = id.name }) (take l.signal-index l.signal-items))
