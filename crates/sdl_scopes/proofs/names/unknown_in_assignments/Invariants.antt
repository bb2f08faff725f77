use Rattle.std.proofs.Common.{map, take}
use Rattle.std.specs.List.{flat_map}
use Rattle.sdl_sound.specs.Names.{unknown, assignment_names}
use Rattle.sdl_tables.specs.Scopes.{Marks}
use Rattle.sdl_ast.specs.Views.{assignment_of}
use Rattle.sdl_scopes.proofs.names.unknown_in_assignments.Given as goal

abbrev pub invariant-loop-assignment : goal.invariant-loop-assignment
invariant-loop-assignment l =
    Marks l.place (unknown l.names (flat_map assignment_names (map assignment_of (take l.assignment-index l.assignments))))
