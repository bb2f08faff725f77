use Rattle.std.proofs.Common.{map, take}
use Rattle.std.specs.List.{flat_map}
use Rattle.sdl_sound.specs.Sorts.{wrong_sending}
use Rattle.sdl_tables.specs.Names.{variables_of}
use Rattle.sdl_tables.specs.Scopes.{Marks}
use Rattle.sdl_ast.specs.Views.{block_of, process_of, sending_of}
use Rattle.sdl_scopes.proofs.operands.wrong_in_sendings.Given as goal

abbrev pub invariant-loop-sending : goal.invariant-loop-sending
invariant-loop-sending l =
    Marks l.place (flat_map (wrong_sending (block_of l.block) (variables_of (process_of l.process))) (map sending_of (take l.sending-index l.sendings)))
