use Rattle.std.proofs.Common.{◌≡◌, map, take}
use denote.Ref.{Bor}
use Rattle.sdl_ast.specs.declared.tree.Synonym.{Synonym}
use Rattle.sdl_ast.specs.Views.{synonym_of}
use Rattle.sdl_rules.specs.Expansion.{synonym_names}
use Rattle.sdl_rules.proofs.declaring.names_of.Given as goal

abbrev pub invariant-loop-synonym : goal.invariant-loop-synonym
invariant-loop-synonym l =
    l.names.items ≡ synonym_names (map (λ (d : Bor Synonym). synonym_of d.now) (take l.synonym-index l.synonyms))
