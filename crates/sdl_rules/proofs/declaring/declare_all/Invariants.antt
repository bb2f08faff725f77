use Rattle.std.proofs.Common.{◌≡◌, map, take}
use denote.Ref.{Bor}
use Rattle.sdl_ast.specs.declared.tree.Synonym.{Synonym}
use Rattle.sdl_ast.specs.Views.{synonym_of}
use Rattle.sdl_rules.specs.Synonyms.{and_synonyms}
use Rattle.sdl_rules.specs.Faults.{AreOf, synonyms_places}
use Rattle.sdl_rules.specs.Views.{sight_of}
use Rattle.sdl_rules.proofs.declaring.declare_all.Given as goal

abbrev pub invariant-loop-synonym : goal.invariant-loop-synonym
invariant-loop-synonym l =
    (sight_of l.sight ≡ and_synonyms (sight_of l.initial.sight) (map (λ (d : Bor Synonym). synonym_of d.now) (take l.synonym-index l.synonyms)))
    × AreOf (synonyms_places (sight_of l.initial.sight) (map (λ (d : Bor Synonym). synonym_of d.now) (take l.synonym-index l.synonyms))) l.found
