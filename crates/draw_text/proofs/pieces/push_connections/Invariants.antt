use Rattle.std.proofs.Common.{◌≡◌, ◌++◌, drop, map}
use Rattle.std.specs.List.{flat_map}
use Rattle.sdl_ast.specs.Views.{block_of, process_of, connection_of}
use Rattle.draw_text.specs.Parts.{part_of}
use Rattle.draw_text.specs.Pieces.{connection_parts}
use Rattle.draw_text.proofs.pieces.push_connections.Given as goal

abbrev pub invariant-loop-connection : goal.invariant-loop-connection
invariant-loop-connection l =
    map part_of l.parts.items ++ flat_map (connection_parts (block_of l.names.block.now) (process_of l.names.process.now)) (map connection_of (drop l.connection-index l.connections)) ≡ map part_of l.initial.parts.items ++ flat_map (connection_parts (block_of l.names.block.now) (process_of l.names.process.now)) (map connection_of l.connections)
