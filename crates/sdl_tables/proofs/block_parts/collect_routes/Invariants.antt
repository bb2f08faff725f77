use Rattle.std.proofs.Common.{◌≡◌, map, take}
use Rattle.std.specs.List.{flat_map}
use Rattle.sdl_ast.specs.Views.{entity_of, route_of}
use Rattle.sdl_tables.specs.Names.{routes_in}
use Rattle.sdl_tables.proofs.block_parts.collect_routes.Given as goal

abbrev pub invariant-loop-entity : goal.invariant-loop-entity
invariant-loop-entity l =
    map (λ r. route_of r.now) l.rows.items ≡ flat_map routes_in (map entity_of (take l.entity-index l.entities))
