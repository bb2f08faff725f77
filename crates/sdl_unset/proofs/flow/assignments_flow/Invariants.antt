use Rattle.std.proofs.Common.{map, take}
use Rattle.std.specs.List.{flat_map}
use Rattle.sdl_ast.specs.Views.{process_of, assignment_of}
use Rattle.sdl_unset.specs.Flows.{Does}
use Rattle.sdl_sound.specs.Paths.{assignment_events}
use Rattle.sdl_unset.proofs.flow.assignments_flow.Given as goal

abbrev pub invariant-loop-assignment : goal.invariant-loop-assignment
invariant-loop-assignment l =
    Does (process_of l.table) (flat_map assignment_events (map assignment_of (take l.assignment-index l.assignments))) l.flow
