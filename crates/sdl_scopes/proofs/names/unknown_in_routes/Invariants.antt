use Rattle.std.proofs.Common.{map, take}
use Rattle.std.specs.List.{flat_map}
use Rattle.sdl_sound.specs.Names.{route_unknown}
use Rattle.sdl_tables.specs.Scopes.{Marks}
use Rattle.sdl_ast.specs.Views.{block_of, entity_of}
use Rattle.sdl_tables.specs.Names.{routes_in}
use Rattle.sdl_scopes.proofs.names.unknown_in_routes.Given as goal

abbrev pub invariant-loop-entity : goal.invariant-loop-entity
invariant-loop-entity l =
    Marks l.place (flat_map (route_unknown (block_of l.block)) (flat_map routes_in (map entity_of (take l.entity-index l.entities))))
