use Rattle.std.proofs.Common.{map, take, ◌++◌, ◌≡◌}
use Rattle.sdl_ast.specs.Views.{block_of, route_of}
use Rattle.sdl_warnings.specs.Warned.{untaken_in_path}
use Rattle.std.specs.List.{flat_map}
use Rattle.sdl_warnings.proofs.signals.push_routes.Given as goal

abbrev pub invariant-loop-route : goal.invariant-loop-route
invariant-loop-route l =
    l.found.items ≡ l.initial.found.items ++ flat_map (untaken_in_path (block_of l.block)) (flat_map (λ r. r.paths) (map (λ r. route_of r.now) (take l.route-index l.routes)))
