use Rattle.std.proofs.Common.{map, take, ◌++◌, ◌≡◌}
use Rattle.std.specs.List.{flat_map}
use Rattle.sdl_ast.specs.Views.{synonym_of, process_of}
use Rattle.sdl_warnings.specs.Warned.{unused_own}
use Rattle.sdl_warnings.proofs.synonyms.push_all_own.Given as goal

abbrev pub invariant-loop-synonym : goal.invariant-loop-synonym
invariant-loop-synonym l =
    l.found.items ≡ l.initial.found.items ++ flat_map (unused_own (process_of l.process)) (map synonym_of (take l.synonym-index l.synonyms))
