use Rattle.std.proofs.Common.{◌≡◌, map, take}
use Rattle.std.specs.List.{flat_map}
use Rattle.sdl_ast.specs.Views.{entity_of}
use Rattle.sdl_tables.specs.Names.{processes_in}
use Rattle.sdl_tables.specs.Scopes.{Marks}
use Rattle.sdl_rules.specs.Expansion.{expanded_entity}
use Rattle.sdl_rules.specs.Faults.{AreOf, all_places, process_doubles, process_places}
use Rattle.sdl_rules.specs.Views.{known_of}
use Rattle.sdl_rules.proofs.expansion.expand_entities.Given as goal

abbrev pub invariant-loop-entity : goal.invariant-loop-entity
invariant-loop-entity l =
    (map entity_of l.copies.items ≡ map (expanded_entity (known_of l.outer)) (map entity_of (take l.entity-index l.entities)))
    × Marks l.found.double (flat_map process_doubles (flat_map processes_in (map entity_of (take l.entity-index l.entities))))
    × AreOf (all_places (process_places (known_of l.outer)) (flat_map processes_in (map entity_of (take l.entity-index l.entities)))) l.found.strays
