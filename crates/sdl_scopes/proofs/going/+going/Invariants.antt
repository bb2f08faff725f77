use Rattle.std.proofs.Common.{◌≡◌, drop}
use Rattle.sdl_ast.specs.declared.tree.Decision.{out-Decision}
use Rattle.sdl_ast.specs.Views.{text_of, choice_of, statements_before, answers_before, end_text, else_choice}
use Rattle.sdl_sound.specs.Going.{goes_on, choice_goes_on}
use Rattle.sdl_scopes.proofs.going.+going.Given as goal

abbrev pub invariant-a_body_goes_on-loop-answer : goal.invariant-a_body_goes_on-loop-answer
invariant-a_body_goes_on-loop-answer l =
    choice_goes_on (choice_of l.decision) ≡ choice_goes_on (answers_before (drop l.answer-index l.answer-items) (else_choice (out-Decision l.decision).otherwise))

abbrev pub invariant-goes_on-loop-statement : goal.invariant-goes_on-loop-statement
invariant-goes_on-loop-statement l =
    goes_on (text_of l.transition) ≡ goes_on (statements_before (drop l.statement-index l.statement-items) (end_text l.transition.end))
