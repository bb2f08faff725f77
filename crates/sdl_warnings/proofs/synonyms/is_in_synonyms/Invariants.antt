use Rattle.std.proofs.Common.{map, take, ◌≡◌}
use Rattle.sdl_ast.specs.Views.{synonym_of}
use Rattle.sdl_tables.specs.Names.{is_in}
use Rattle.sdl_rules.specs.Expansion.{synonym_names}
use Rattle.sdl_warnings.proofs.synonyms.is_in_synonyms.Given as goal

abbrev pub invariant-loop-synonym : goal.invariant-loop-synonym
invariant-loop-synonym l =
    l.any ≡ is_in (synonym_names (map synonym_of (take l.synonym-index l.synonyms))) l.name
