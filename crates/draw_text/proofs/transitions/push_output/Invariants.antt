use Rattle.std.proofs.Common.{◌≡◌, ◌++◌, drop, map}
use Rattle.sdl_ast.specs.Views.{block_of, process_of, sending_of}
use Rattle.draw_text.specs.Parts.{part_of, sending_part}
use Rattle.draw_text.proofs.transitions.push_output.Given as goal

abbrev pub invariant-loop-sending : goal.invariant-loop-sending
invariant-loop-sending l =
    map part_of l.parts.items ++ map (sending_part (block_of l.names.block.now) (process_of l.names.process.now) l.output.to) (map sending_of (drop l.sending-index l.sending-items)) ≡ map part_of l.initial.parts.items ++ map (sending_part (block_of l.names.block.now) (process_of l.names.process.now) l.output.to) (map sending_of l.sending-items)
