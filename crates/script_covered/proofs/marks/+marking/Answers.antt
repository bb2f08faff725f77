use Rattle.std.proofs.Common.{arith, refl, sym, ap, ◌∙◌, ◌++◌}
use Rattle.std.proofs.lemmas.Result.{on_ok_weaker}
use Rattle.sdl_ast.specs.declared.tree.Decision.{out-Decision}
use Rattle.sdl_ast.specs.Views.{end_text, else_choice, statements_before, answers_before}
use Rattle.sdl_ast.proofs.Views.{text_of-is}
use Rattle.script_covered.specs.Lcov.{text_marks, choice_marks}
use Rattle.script_covered.proofs.Marking.{statements_on, statements_past, answers_on}
use Rattle.script_covered.proofs.marks.+marking.Goals as goal

pub push_text-loop-statement-init : goal.push_text-loop-statement-init
push_text-loop-statement-init t c =
    let end = end_text c.args.transition.now.end in
    ap (λ t. c.args.marks.now.items ++ text_marks t)
    (ap (λ l. statements_before l end) c.deref-statement-items.ensures.value ∙ sym (text_of-is c.args.transition.now))

pub push_text-loop-statement-preserved : goal.push_text-loop-statement-preserved
push_text-loop-statement-preserved t c =
    statements_on _ _ _ c.deref-statement-items.result.now c.loop-statement.statement-index c.statement-item.result (end_text c.args.transition.now.end)
    c.loop-statement-test.true c.statement-item.is c.in_ok-push_statement.ensures c.loop-statement.invariant

pub push_text-returns : goal.push_text-returns
push_text-returns t c =
    on_ok_weaker c.push_end.result
    (λ f. f ∙ statements_past _ _ c.deref-statement-items.result.now c.loop-statement.statement-index (end_text c.args.transition.now.end) (omega arith) c.loop-statement.invariant)
    c.push_end.ensures

pub push_answers-loop-answer-init : goal.push_answers-loop-answer-init
push_answers-loop-answer-init t c = record {
  number = refl;
  marks =
      ap (λ l. c.args.marks.now.items ++ choice_marks (out-Decision c.args.decision.now).at 0 (answers_before l (else_choice (out-Decision c.args.decision.now).otherwise)))
      c.deref-answer-items.ensures.value;
}

pub push_answers-loop-answer-preserved : goal.push_answers-loop-answer-preserved
push_answers-loop-answer-preserved t c = record {
  number = omega (arith, c.loop-answer.invariant.number);
  marks =
      answers_on _ _ _ _ (out-Decision c.args.decision.now).at c.loop-answer.number c.deref-answer-items.result.now c.loop-answer.answer-index c.answer-item.result
      (else_choice (out-Decision c.args.decision.now).otherwise) c.loop-answer-test.true c.answer-item.is c.in_ok-push.ensures.items c.in_ok-push_text.ensures
      c.loop-answer.invariant.marks;
}
