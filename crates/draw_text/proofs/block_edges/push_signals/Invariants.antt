use Rattle.std.proofs.Common.{◌≡◌, ◌++◌, drop}
use Rattle.std.specs.List.{flat_map}
use Rattle.sdl_ast.specs.Views.{block_of}
use Rattle.draw_text.specs.BlockEdges.{signal_text}
use Rattle.draw_text.proofs.block_edges.push_signals.Given as goal

abbrev pub invariant-loop-id : goal.invariant-loop-id
invariant-loop-id l = l.text.items ++ flat_map (λ id. signal_text (block_of l.block) id.name) (drop l.id-index l.signals) ≡ l.initial.text.items ++ flat_map (λ id. signal_text (block_of l.block) id.name) l.signals
