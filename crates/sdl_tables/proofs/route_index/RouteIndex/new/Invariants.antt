use Rattle.std.proofs.Common.{map, take}
use Rattle.std.specs.List.{flat_map}
use Rattle.sdl_ast.specs.Views.{route_of}
use Rattle.sdl_tables.specs.RouteIndexes.{mentions_of, Indexes}
use Rattle.sdl_tables.proofs.route_index.RouteIndex.new.Given as goal

abbrev pub invariant-loop-route : goal.invariant-loop-route
invariant-loop-route l =
    Indexes l.index (flat_map mentions_of (flat_map (λ r. r.paths) (map (λ r. route_of r.now) (take l.route-index l.routes))))
