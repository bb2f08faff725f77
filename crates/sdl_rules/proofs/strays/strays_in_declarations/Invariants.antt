use Rattle.std.proofs.Common.{map, take}
use Rattle.std.specs.List.{flat_map}
use Rattle.sdl_ast.specs.Views.{declaration_of}
use Rattle.sdl_rules.specs.Faults.{AreOf, constants_places, declaration_constants}
use Rattle.sdl_rules.specs.Views.{sight_of}
use Rattle.sdl_rules.proofs.strays.strays_in_declarations.Given as goal

abbrev pub invariant-loop-declaration : goal.invariant-loop-declaration
invariant-loop-declaration l =
    AreOf (constants_places (sight_of l.sight) (flat_map declaration_constants (map declaration_of (take l.declaration-index l.declarations)))) l.found
