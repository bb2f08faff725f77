use Rattle.std.proofs.Common.{◌≡◌, map, take}
use Rattle.std.specs.List.{flat_map}
use Rattle.sdl_ast.specs.Views.{entity_of, synonym_of}
use Rattle.sdl_rules.specs.Expansion.{synonyms_in}
use Rattle.sdl_rules.proofs.declaring.block_synonyms.Given as goal

abbrev pub invariant-loop-entity : goal.invariant-loop-entity
invariant-loop-entity l =
    map (λ d. synonym_of d.now) l.synonyms.items ≡ flat_map synonyms_in (map entity_of (take l.entity-index l.entities))
