use Rattle.std.proofs.Common.{◌≡◌, ◌++◌, drop, map}
use Rattle.std.specs.List.{flat_map}
use Rattle.sdl_ast.specs.Views.{block_of, process_of, state_of}
use Rattle.draw_text.specs.Parts.{part_of}
use Rattle.draw_text.specs.Pieces.{state_parts}
use Rattle.draw_text.proofs.pieces.push_states.Given as goal

abbrev pub invariant-loop-state : goal.invariant-loop-state
invariant-loop-state l =
    map part_of l.parts.items ++ flat_map (state_parts (block_of l.names.block.now) (process_of l.names.process.now)) (map state_of (drop l.state-index l.states)) ≡ map part_of l.initial.parts.items ++ flat_map (state_parts (block_of l.names.block.now) (process_of l.names.process.now)) (map state_of l.states)
