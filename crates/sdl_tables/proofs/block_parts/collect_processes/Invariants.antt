use Rattle.std.proofs.Common.{◌≡◌, map, take}
use Rattle.std.specs.List.{flat_map}
use Rattle.sdl_ast.specs.Views.{entity_of, process_of}
use Rattle.sdl_tables.specs.Names.{processes_in}
use Rattle.sdl_tables.proofs.block_parts.collect_processes.Given as goal

abbrev pub invariant-loop-entity : goal.invariant-loop-entity
invariant-loop-entity l =
    map (λ p. process_of p.now) l.rows.items ≡ flat_map processes_in (map entity_of (take l.entity-index l.entities))
