use Rattle.std.proofs.Common.{◌≡◌, map, drop}
use Rattle.sdl_ast.specs.Heights.{first_of, high_in_synonym}
use Rattle.sdl_ast.specs.Views.{synonym_of}
use Rattle.sdl_ast.proofs.height.high_in_synonyms.Given as goal

abbrev pub invariant-loop-synonym : goal.invariant-loop-synonym
invariant-loop-synonym l = first_of high_in_synonym (map synonym_of l.synonyms) ≡ first_of high_in_synonym (map synonym_of (drop l.synonym-index l.synonyms))
