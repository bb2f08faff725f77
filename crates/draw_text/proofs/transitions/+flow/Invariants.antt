use Rattle.std.proofs.Common.{◌≡◌, ◌++◌, drop, map}
use Rattle.sdl_ast.specs.declared.tree.Decision.{out-Decision}
use Rattle.sdl_ast.specs.Views.{block_of, process_of, text_of, choice_of, statements_before, answers_before, end_text, else_choice}
use Rattle.draw_text.specs.Parts.{part_of, text_parts, choice_parts}
use Rattle.draw_text.proofs.transitions.+flow.Given as goal

abbrev pub invariant-push_transition-loop-statement : goal.invariant-push_transition-loop-statement
invariant-push_transition-loop-statement l =
    map part_of l.parts.items ++ text_parts (block_of l.names.block.now) (process_of l.names.process.now) (statements_before (drop l.statement-index l.statement-items) (end_text l.transition.end)) ≡ map part_of l.initial.parts.items ++ text_parts (block_of l.names.block.now) (process_of l.names.process.now) (text_of l.transition)

abbrev pub invariant-push_bodies-loop-answer : goal.invariant-push_bodies-loop-answer
invariant-push_bodies-loop-answer l =
    map part_of l.parts.items ++ choice_parts (block_of l.names.block.now) (process_of l.names.process.now) (answers_before (drop l.answer-index l.answer-items) (else_choice (out-Decision l.decision).otherwise)) ≡ map part_of l.initial.parts.items ++ choice_parts (block_of l.names.block.now) (process_of l.names.process.now) (choice_of l.decision)
