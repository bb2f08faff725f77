use Rattle.std.proofs.Common.{map, take}
use Rattle.std.specs.List.{flat_map}
use Rattle.sdl_ast.specs.Views.{process_of, sending_of}
use Rattle.sdl_unset.specs.Flows.{Does}
use Rattle.sdl_sound.specs.Paths.{sending_events}
use Rattle.sdl_unset.proofs.flow.sendings_flow.Given as goal

abbrev pub invariant-loop-sending : goal.invariant-loop-sending
invariant-loop-sending l =
    Does (process_of l.table) (flat_map sending_events (map sending_of (take l.sending-index l.sendings))) l.flow
