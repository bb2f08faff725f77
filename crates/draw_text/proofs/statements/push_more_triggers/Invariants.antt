use Rattle.std.proofs.Common.{◌≡◌, ◌++◌, drop}
use Rattle.std.specs.List.{flat_map}
use Rattle.std.specs.Prelude.{codes}
use Rattle.sdl_ast.specs.Views.{block_of, process_of}
use Rattle.draw_text.specs.Statements.{trigger_text}
use Rattle.draw_text.proofs.statements.push_more_triggers.Given as goal

abbrev pub invariant-loop-id : goal.invariant-loop-id
invariant-loop-id l = l.text.items ++ flat_map (λ id. codes ",\n" ++ trigger_text (block_of l.names.block.now) (process_of l.names.process.now) id.name) (drop l.id-index l.ids) ≡ l.initial.text.items ++ flat_map (λ id. codes ",\n" ++ trigger_text (block_of l.names.block.now) (process_of l.names.process.now) id.name) (l.ids)
