-- The marks of the part already walked, and those of the rest.
use Rattle.std.proofs.Common.{◌≡◌, ◌++◌, drop}
use Rattle.sdl_ast.specs.declared.tree.Decision.{out-Decision}
use Rattle.sdl_ast.specs.Views.{text_of, choice_of, statements_before, answers_before, else_choice, end_text}
use Rattle.script_covered.specs.Lcov.{text_marks, choice_marks}
use Rattle.script_covered.proofs.marks.+marking.Given as goal

abbrev pub invariant-push_text-loop-statement : goal.invariant-push_text-loop-statement
invariant-push_text-loop-statement l =
    l.marks.items ++ text_marks (statements_before (drop l.statement-index l.statement-items) (end_text l.transition.end)) ≡ l.initial.marks.items ++ text_marks (text_of l.transition)

abbrev pub invariant-push_answers-loop-answer : goal.invariant-push_answers-loop-answer
invariant-push_answers-loop-answer l = record {
  number : l.number ≡ l.answer-index;
  marks :
      l.marks.items ++ choice_marks (out-Decision l.decision).at l.number (answers_before (drop l.answer-index l.answer-items) (else_choice (out-Decision l.decision).otherwise))
      ≡ l.initial.marks.items ++ choice_marks (out-Decision l.decision).at 0 (choice_of l.decision);
}
