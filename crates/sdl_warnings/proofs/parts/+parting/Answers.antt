use Rattle.std.proofs.Common.{arith, ◌++◌, ◌∷◌, ◌∙◌, [], ap, sym, map, append_assoc}
use Rattle.std.proofs.lemmas.Result.{on_ok_weaker}
use Rattle.sdl_ast.specs.declared.tree.Decision.{out-Decision}
use Rattle.sdl_ast.specs.Views.{tree_of, choice_of, end_text, else_choice, statements_before, answers_before}
use Rattle.sdl_ast.proofs.Views.{text_of-is}
use Rattle.sdl_sound.specs.Parts.{question_of}
use Rattle.sdl_sound.specs.Statements.{statements_of, choice_statements}
use Rattle.sdl_warnings.specs.Standing.{part_of}
use Rattle.sdl_warnings.proofs.Parting.{statements_on, statements_past, answers_on, answers_past}
use Rattle.sdl_warnings.proofs.parts.+parting.Goals as goal

pub push_parts-loop-statement-init : goal.push_parts-loop-statement-init
push_parts-loop-statement-init t c =
    let end = end_text c.args.transition.now.end in
    ap (λ t. map part_of c.args.parts.now.items ++ statements_of t)
    (ap (λ l. statements_before l end) c.deref-statement-items.ensures.value ∙ sym (text_of-is c.args.transition.now))

pub push_parts-loop-statement-preserved : goal.push_parts-loop-statement-preserved
push_parts-loop-statement-preserved t c =
    statements_on _ _ _ c.deref-statement-items.result.now c.loop-statement.statement-index c.statement-item.result (end_text c.args.transition.now.end)
    c.loop-statement-test.true c.statement-item.is c.in_ok-push_statement.ensures c.loop-statement.invariant

pub push_parts-returns : goal.push_parts-returns
push_parts-returns t c =
    on_ok_weaker c.push_end.result
    (λ f. f ∙ statements_past _ _ c.deref-statement-items.result.now c.loop-statement.statement-index (end_text c.args.transition.now.end) (omega arith) c.loop-statement.invariant)
    c.push_end.ensures

pub push_decision-loop-answer-init : goal.push_decision-loop-answer-init
push_decision-loop-answer-init t c =
    let d = c.args.decision.now in
    let q = tree_of (out-Decision d).question in
    let others = else_choice (out-Decision d).otherwise in
    ap (λ l. map part_of c.push_question.new.parts.items ++ choice_statements q (answers_before l others)) c.deref-answer-items.ensures.value

pub push_decision-loop-answer-preserved : goal.push_decision-loop-answer-preserved
push_decision-loop-answer-preserved t c =
    let d = c.args.decision.now in
    answers_on _ _ _ _ (tree_of (out-Decision d).question) c.deref-answer-items.result.now c.loop-answer.answer-index c.answer-item.result (else_choice (out-Decision d).otherwise)
    c.loop-answer-test.true c.answer-item.is c.in_ok-push_values.ensures c.in_ok-push_parts.ensures c.loop-answer.invariant

pub push_decision-returns : goal.push_decision-returns
push_decision-returns t c =
    let d = c.args.decision.now in
    let q = tree_of (out-Decision d).question in
    let old = map part_of c.args.parts.now.items in
    on_ok_weaker c.push_else.result
    (λ f.
    f q
    ∙ (answers_past _ _ q c.deref-answer-items.result.now c.loop-answer.answer-index (else_choice (out-Decision d).otherwise) (omega arith) c.loop-answer.invariant
    ∙ (ap (λ l. l ++ choice_statements q (choice_of d)) c.in_ok-push_question.ensures ∙ append_assoc old (question_of d ∷ []) (choice_statements q (choice_of d)))))
    c.push_else.ensures
