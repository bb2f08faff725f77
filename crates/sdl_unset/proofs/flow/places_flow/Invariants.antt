use Rattle.std.proofs.Common.{take}
use Rattle.sdl_ast.specs.Views.{process_of}
use Rattle.sdl_unset.specs.Flows.{Does, place_events}
use Rattle.sdl_unset.proofs.flow.places_flow.Given as goal

abbrev pub invariant-loop-place : goal.invariant-loop-place
invariant-loop-place l =
    Does (process_of l.table) (place_events (take l.place-index l.places)) l.flow
