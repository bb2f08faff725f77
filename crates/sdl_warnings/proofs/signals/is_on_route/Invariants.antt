use Rattle.std.proofs.Common.{map, take, ◌≡◌}
use Rattle.sdl_ast.specs.Views.{route_of}
use Rattle.sdl_tables.specs.Names.{is_in}
use Rattle.std.specs.List.{flat_map, list_any}
use Rattle.sdl_warnings.proofs.signals.is_on_route.Given as goal

abbrev pub invariant-loop-route : goal.invariant-loop-route
invariant-loop-route l =
    l.any ≡ list_any (λ path. is_in path.signals l.signal) (flat_map (λ r. r.paths) (map (λ r. route_of r.now) (take l.route-index l.routes)))
