use Rattle.std.proofs.Common.{map, take}
use Rattle.std.specs.List.{flat_map}
use Rattle.sdl_tables.specs.Scopes.{Marks}
use Rattle.sdl_ast.specs.Views.{block_of, process_of, sending_of}
use Rattle.sdl_sound.specs.Names.{sending_unknown}
use Rattle.sdl_scopes.proofs.names.unknown_in_sendings.Given as goal

abbrev pub invariant-loop-sending : goal.invariant-loop-sending
invariant-loop-sending l =
    Marks l.place (flat_map (sending_unknown (block_of l.block) (process_of l.process)) (map sending_of (take l.sending-index l.sendings)))
