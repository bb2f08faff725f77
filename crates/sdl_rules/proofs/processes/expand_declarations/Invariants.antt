use Rattle.std.proofs.Common.{◌≡◌, map, take}
use Rattle.sdl_ast.specs.Views.{declaration_of}
use Rattle.sdl_rules.specs.Expansion.{expanded_declaration}
use Rattle.sdl_rules.specs.Views.{sight_of}
use Rattle.sdl_rules.proofs.processes.expand_declarations.Given as goal

abbrev pub invariant-loop-declaration : goal.invariant-loop-declaration
invariant-loop-declaration l =
    map declaration_of l.copies.items ≡ map (expanded_declaration (sight_of l.sight)) (map declaration_of (take l.declaration-index l.given))
