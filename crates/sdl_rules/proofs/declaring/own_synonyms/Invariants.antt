use Rattle.std.proofs.Common.{◌≡◌, map, take}
use Rattle.std.specs.List.{flat_map}
use Rattle.sdl_ast.specs.Views.{declaration_of, synonym_of}
use Rattle.sdl_rules.specs.Expansion.{own_synonyms_in}
use Rattle.sdl_rules.proofs.declaring.own_synonyms.Given as goal

abbrev pub invariant-loop-declaration : goal.invariant-loop-declaration
invariant-loop-declaration l =
    map (λ d. synonym_of d.now) l.synonyms.items ≡ flat_map own_synonyms_in (map declaration_of (take l.declaration-index l.declarations))
