use Rattle.std.proofs.Common.{◌≡◌, ◌++◌, map, take}
use Rattle.sdl_ast.specs.Views.{synonym_of}
use Rattle.sdl_rules.specs.Expansion.{synonym_names}
use Rattle.sdl_rules.proofs.declaring.push_names.Given as goal

abbrev pub invariant-loop-synonym : goal.invariant-loop-synonym
invariant-loop-synonym l =
    l.names.items ≡ l.initial.names.items ++ synonym_names (map synonym_of (take l.synonym-index l.synonyms))
