use Rattle.std.proofs.Common.{map, take, ◌++◌, ◌≡◌}
use Rattle.sdl_ast.specs.Views.{declaration_of, process_of}
use Rattle.sdl_warnings.specs.Warned.{idle_in_declaration}
use Rattle.std.specs.List.{flat_map}
use Rattle.sdl_warnings.proofs.timers.push_timers.Given as goal

abbrev pub invariant-loop-declaration : goal.invariant-loop-declaration
invariant-loop-declaration l =
    l.found.items ≡ l.initial.found.items ++ flat_map (idle_in_declaration (process_of l.process)) (map declaration_of (take l.declaration-index l.declarations))
