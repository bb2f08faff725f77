use Rattle.std.proofs.Common.{arith, ◌++◌, ◌∙◌, ap, sym}
use Rattle.std.proofs.lemmas.Result.{on_ok_weaker}
use Rattle.sdl_ast.specs.declared.tree.Decision.{out-Decision}
use Rattle.sdl_ast.specs.Views.{end_text, else_choice, statements_before, answers_before}
use Rattle.sdl_ast.proofs.Views.{text_of-is}
use Rattle.sdl_measures.specs.JoinLists.{text_joins, choice_joins}
use Rattle.sdl_measures.proofs.Joining.{statements_on, statements_past, answers_on}
use Rattle.sdl_measures.proofs.joins.+joining.Goals as goal

pub push_joins-loop-statement-init : goal.push_joins-loop-statement-init
push_joins-loop-statement-init t c =
    let end = end_text c.args.transition.now.end in
    ap (λ t. c.args.joins.now.items ++ text_joins t)
    (ap (λ l. statements_before l end) c.deref-statement-items.ensures.value ∙ sym (text_of-is c.args.transition.now))

pub push_joins-loop-statement-preserved : goal.push_joins-loop-statement-preserved
push_joins-loop-statement-preserved t c =
    statements_on _ _ _ c.deref-statement-items.result.now c.loop-statement.statement-index c.statement-item.result (end_text c.args.transition.now.end)
    c.loop-statement-test.true c.statement-item.is c.in_ok-push_in_statement.ensures c.loop-statement.invariant

pub push_joins-returns : goal.push_joins-returns
push_joins-returns t c =
    on_ok_weaker c.push_end.result
    (λ f. f ∙ statements_past _ _ c.deref-statement-items.result.now c.loop-statement.statement-index (end_text c.args.transition.now.end) (omega arith) c.loop-statement.invariant)
    c.push_end.ensures

pub push_in_decision-loop-answer-init : goal.push_in_decision-loop-answer-init
push_in_decision-loop-answer-init t c =
    let others = else_choice (out-Decision c.args.decision.now).otherwise in
    ap (λ l. c.args.joins.now.items ++ choice_joins (answers_before l others)) c.deref-answer-items.ensures.value

pub push_in_decision-loop-answer-preserved : goal.push_in_decision-loop-answer-preserved
push_in_decision-loop-answer-preserved t c =
    answers_on _ _ _ c.deref-answer-items.result.now c.loop-answer.answer-index c.answer-item.result (else_choice (out-Decision c.args.decision.now).otherwise)
    c.loop-answer-test.true c.answer-item.is c.in_ok-push_joins.ensures c.loop-answer.invariant
