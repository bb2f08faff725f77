use Rattle.std.proofs.Common.{map, take}
use Rattle.std.specs.List.{flat_map}
use Rattle.sdl_sound.specs.Sorts.{wrong_assignment}
use Rattle.sdl_tables.specs.Names.{variables_of}
use Rattle.sdl_tables.specs.Scopes.{Marks}
use Rattle.sdl_ast.specs.Views.{assignment_of, process_of}
use Rattle.sdl_scopes.proofs.operands.wrong_in_assignments.Given as goal

abbrev pub invariant-loop-assignment : goal.invariant-loop-assignment
invariant-loop-assignment l =
    Marks l.place (flat_map (wrong_assignment (variables_of (process_of l.process))) (map assignment_of (take l.assignment-index l.assignments)))
