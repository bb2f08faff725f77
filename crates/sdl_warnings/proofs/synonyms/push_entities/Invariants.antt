use Rattle.std.proofs.Common.{map, take, ◌++◌, ◌≡◌}
use Rattle.std.specs.List.{flat_map}
use Rattle.sdl_ast.specs.Views.{entity_of, block_of}
use Rattle.sdl_warnings.specs.Warned.{unused_in_entity}
use Rattle.sdl_warnings.proofs.synonyms.push_entities.Given as goal

abbrev pub invariant-loop-entity : goal.invariant-loop-entity
invariant-loop-entity l =
    l.found.items ≡ l.initial.found.items ++ flat_map (unused_in_entity (block_of l.block)) (map entity_of (take l.entity-index l.entities))
