use Rattle.std.proofs.Common.{◌≡◌, ◌++◌, drop, map}
use Rattle.std.specs.List.{flat_map}
use Rattle.sdl_ast.specs.Views.{block_of, process_of}
use Rattle.draw_text.specs.BlockEdges.{node_text}
use Rattle.draw_text.proofs.block_edges.push_nodes.Given as goal

abbrev pub invariant-loop-process : goal.invariant-loop-process
invariant-loop-process l = l.text.items ++ flat_map (λ p. node_text (block_of l.block) p.name.name) (map process_of (drop l.process-index l.processes)) ≡ l.initial.text.items ++ flat_map (λ p. node_text (block_of l.block) p.name.name) (map process_of l.processes)
