use Rattle.std.proofs.Common.{map, take, ◌≡◌}
use Rattle.std.specs.List.{list_any, flat_map}
use Rattle.sdl_ast.specs.Views.{entity_of}
use Rattle.sdl_rules.specs.Expansion.{synonyms_in}
use Rattle.sdl_warnings.specs.Warned.{value_names}
use Rattle.sdl_warnings.proofs.uses.names_in_entities.Given as goal

abbrev pub invariant-loop-entity : goal.invariant-loop-entity
invariant-loop-entity l =
    l.any ≡ list_any (value_names l.name) (flat_map synonyms_in (map entity_of (take l.entity-index l.entities)))
