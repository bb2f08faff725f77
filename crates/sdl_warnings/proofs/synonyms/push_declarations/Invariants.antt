use Rattle.std.proofs.Common.{map, take, ◌++◌, ◌≡◌}
use Rattle.std.specs.List.{flat_map}
use Rattle.sdl_ast.specs.Views.{declaration_of, process_of}
use Rattle.sdl_warnings.specs.Warned.{unused_in_declaration}
use Rattle.sdl_warnings.proofs.synonyms.push_declarations.Given as goal

abbrev pub invariant-loop-declaration : goal.invariant-loop-declaration
invariant-loop-declaration l =
    l.found.items ≡ l.initial.found.items ++ flat_map (unused_in_declaration (process_of l.process)) (map declaration_of (take l.declaration-index l.declarations))
