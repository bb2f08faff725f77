use Rattle.std.proofs.Common.{map, take, ◌≡◌}
use Rattle.std.specs.List.{list_any}
use Rattle.sdl_ast.specs.Views.{synonym_of}
use Rattle.sdl_warnings.specs.Warned.{value_names}
use Rattle.sdl_warnings.proofs.uses.names_in_synonyms.Given as goal

abbrev pub invariant-loop-synonym : goal.invariant-loop-synonym
invariant-loop-synonym l =
    l.any ≡ list_any (value_names l.name) (map synonym_of (take l.synonym-index l.synonyms))
