use Rattle.std.proofs.Common.{map, take}
use Rattle.std.specs.List.{flat_map}
use Rattle.sdl_sound.specs.Receivers.{doubtful_sending}
use Rattle.sdl_tables.specs.Scopes.{Marks}
use Rattle.sdl_ast.specs.Views.{block_of, process_of, sending_of}
use Rattle.sdl_rules.proofs.receivers.doubtful_sendings.Given as goal

abbrev pub invariant-loop-sending : goal.invariant-loop-sending
invariant-loop-sending l =
    Marks l.place (flat_map (doubtful_sending (block_of l.block) (process_of l.process) l.to) (map sending_of (take l.sending-index l.sendings)))
