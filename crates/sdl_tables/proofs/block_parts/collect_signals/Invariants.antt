use Rattle.std.proofs.Common.{◌≡◌, map, take}
use Rattle.std.specs.List.{flat_map}
use Rattle.sdl_ast.specs.Views.{entity_of, signal_of}
use Rattle.sdl_tables.specs.Names.{signals_in}
use Rattle.sdl_tables.proofs.block_parts.collect_signals.Given as goal

abbrev pub invariant-loop-entity : goal.invariant-loop-entity
invariant-loop-entity l =
    map (λ s. signal_of s.now) l.rows.items ≡ flat_map signals_in (map entity_of (take l.entity-index l.entities))
