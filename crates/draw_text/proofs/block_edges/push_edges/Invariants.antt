use Rattle.std.proofs.Common.{◌≡◌, ◌++◌, drop}
use Rattle.std.specs.List.{flat_map}
use Rattle.sdl_ast.specs.Views.{block_of}
use Rattle.draw_text.specs.BlockEdges.{edge_text}
use Rattle.draw_text.proofs.block_edges.push_edges.Given as goal

abbrev pub invariant-loop-from : goal.invariant-loop-from
invariant-loop-from l = l.text.items ++ flat_map (λ from. flat_map (edge_text (block_of l.block) from) l.parties) (drop l.from-index l.parties) ≡ l.initial.text.items ++ flat_map (λ from. flat_map (edge_text (block_of l.block) from) l.parties) (l.parties)
