use Rattle.std.proofs.Common.{◌≡◌, map, take}
use Rattle.std.specs.List.{flat_map}
use Rattle.sdl_ast.specs.Views.{route_of, block_of}
use Rattle.sdl_compile.specs.Blocks.{drafted_path}
use Rattle.sdl_compile.proofs.block.compile_routes.Given as goal

abbrev pub invariant-loop-route : goal.invariant-loop-route
invariant-loop-route l =
    l.compiled.items ≡ map (drafted_path (block_of l.block)) (flat_map (λ r. r.paths) (map (λ r. route_of r.now) (take l.route-index l.routes)))
