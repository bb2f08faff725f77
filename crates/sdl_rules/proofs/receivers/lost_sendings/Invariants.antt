use Rattle.std.proofs.Common.{List, map, take}
use Rattle.std.specs.List.{flat_map}
use Rattle.sdl_sound.specs.Actions.{Origin}
use Rattle.sdl_sound.specs.Receivers.{lost_sending}
use Rattle.sdl_tables.specs.Scopes.{Marks}
use Rattle.sdl_ast.specs.Views.{block_of, process_of, sending_of}
use Rattle.sdl_scopes.specs.Known.{Knows}
use Rattle.sdl_rules.proofs.receivers.lost_sendings.Given as goal

abbrev pub invariant-loop-sending : goal.invariant-loop-sending
invariant-loop-sending l =
    (os : List Origin) → Knows (block_of l.block) (process_of l.process) l.from os
    → Marks l.place (flat_map (lost_sending (block_of l.block) (process_of l.process) os l.to) (map sending_of (take l.sending-index l.sendings)))
