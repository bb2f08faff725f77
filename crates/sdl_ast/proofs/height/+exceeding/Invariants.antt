use Rattle.std.proofs.Common.{◌≡◌, drop}
use Rattle.std.specs.Prelude.{nat_lt}
use Rattle.sdl_ast.specs.declared.tree.Decision.{out-Decision}
use Rattle.sdl_ast.specs.Heights.{text_height, choice_height}
use Rattle.sdl_ast.specs.Views.{text_of, choice_of, statements_before, answers_before, end_text, else_choice}
use Rattle.sdl_ast.proofs.height.+exceeding.Given as goal

abbrev pub invariant-exceeds_in_transition-loop-statement : goal.invariant-exceeds_in_transition-loop-statement
invariant-exceeds_in_transition-loop-statement l =
    nat_lt l.limit (text_height (text_of l.transition)) ≡ nat_lt l.limit (text_height (statements_before (drop l.statement-index l.statement-items) (end_text l.transition.end)))

abbrev pub invariant-exceeds_in_bodies-loop-answer : goal.invariant-exceeds_in_bodies-loop-answer
invariant-exceeds_in_bodies-loop-answer l =
    nat_lt l.limit (choice_height (choice_of l.decision)) ≡ nat_lt l.limit (choice_height (answers_before (drop l.answer-index l.answer-items) (else_choice (out-Decision l.decision).otherwise)))
