use Rattle.std.proofs.Common.{map, take}
use Rattle.std.specs.List.{flat_map}
use Rattle.sdl_sound.specs.Divisors.{assignment_divisors}
use Rattle.sdl_tables.specs.Scopes.{Marks}
use Rattle.sdl_ast.specs.Views.{assignment_of}
use Rattle.sdl_scopes.proofs.divisors.bad_in_assignments.Given as goal

abbrev pub invariant-loop-assignment : goal.invariant-loop-assignment
invariant-loop-assignment l =
    Marks l.place (flat_map assignment_divisors (map assignment_of (take l.assignment-index l.assignments)))
