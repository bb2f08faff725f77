use Rattle.std.proofs.Common.{◌≡◌, ◌++◌, drop}
use Rattle.std.specs.List.{flat_map}
use Rattle.sdl_ast.specs.Views.{block_of}
use Rattle.draw_text.specs.BlockEdges.{edge_text}
use Rattle.draw_text.proofs.block_edges.push_edges_from.Given as goal

abbrev pub invariant-loop-to : goal.invariant-loop-to
invariant-loop-to l = l.text.items ++ flat_map (edge_text (block_of l.block) l.from) (drop l.to-index l.parties) ≡ l.initial.text.items ++ flat_map (edge_text (block_of l.block) l.from) (l.parties)
