use Rattle.std.proofs.Common.{◌≡◌, map, ◌++◌, take}
use Rattle.sdl_ast.specs.Views.{synonym_of}
use Rattle.sdl_rules.proofs.declaring.push_synonyms.Given as goal

abbrev pub invariant-loop-synonym : goal.invariant-loop-synonym
invariant-loop-synonym l =
    map (λ d. synonym_of d.now) l.synonyms.items ≡ map (λ d. synonym_of d.now) l.initial.synonyms.items ++ map synonym_of (take l.synonym-index l.list)
