use Rattle.std.proofs.Common.{arith, ◌++◌, ◌∙◌, ap, sym}
use Rattle.std.proofs.lemmas.Result.{on_ok_weaker}
use Rattle.sdl_ast.specs.declared.tree.Decision.{out-Decision}
use Rattle.sdl_ast.specs.Views.{end_text, else_choice, statements_before, answers_before}
use Rattle.sdl_ast.proofs.Views.{text_of-is}
use Rattle.sdl_meaning.specs.Code.{code_joins, answers_joins}
use Rattle.sdl_emit.specs.Scopes.{scope_in}
use Rattle.sdl_emit.proofs.Collecting.{decided, statement_on, statements_past, answer_on, answers_past}
use Rattle.sdl_emit.proofs.placing.+placing.Goals as goal

pub collect_answers-loop-answer-init : goal.collect_answers-loop-answer-init
collect_answers-loop-answer-init t c =
    let others = else_choice (out-Decision c.args.decision.now).otherwise in
    ap (λ l. c.args.found.now.items ++ answers_joins (scope_in c.args.names.now) (answers_before l others)) c.deref-answer-items.ensures.value

pub collect_answers-loop-answer-preserved : goal.collect_answers-loop-answer-preserved
collect_answers-loop-answer-preserved t c =
    answer_on (scope_in c.args.names.now) _ _ _ c.deref-answer-items.result.now c.loop-answer.answer-index c.answer-item.result
    (else_choice (out-Decision c.args.decision.now).otherwise) c.loop-answer-test.true c.answer-item.is c.in_ok-collect_joins.ensures c.loop-answer.invariant

pub collect_answers-returns : goal.collect_answers-returns
collect_answers-returns t c =
    answers_past (scope_in c.args.names.now) _ _ c.deref-answer-items.result.now c.loop-answer.answer-index (out-Decision c.args.decision.now).otherwise
    (omega arith) c.loop-answer.invariant

pub collect_statement-returns-in-Decide : goal.collect_statement-returns-in-Decide
collect_statement-returns-in-Decide t c =
    on_ok_weaker c.collect_decision.result
    (λ f. decided (scope_in c.args.names.now) c.args.statement.now c.in-Decide.decision c.in-Decide.is c.args.found.now.items c.collect_decision.new.found.items f)
    c.collect_decision.ensures

pub collect_joins-loop-statement-init : goal.collect_joins-loop-statement-init
collect_joins-loop-statement-init t c =
    let end = end_text c.args.transition.now.end in
    ap (λ t. c.args.found.now.items ++ code_joins (scope_in c.args.names.now) t)
    (ap (λ l. statements_before l end) c.deref-statement-items.ensures.value ∙ sym (text_of-is c.args.transition.now))

pub collect_joins-loop-statement-preserved : goal.collect_joins-loop-statement-preserved
collect_joins-loop-statement-preserved t c =
    statement_on (scope_in c.args.names.now) _ _ _ c.deref-statement-items.result.now c.loop-statement.statement-index c.statement-item.result
    (end_text c.args.transition.now.end) c.loop-statement-test.true c.statement-item.is c.in_ok-collect_statement.ensures c.loop-statement.invariant

pub collect_joins-returns : goal.collect_joins-returns
collect_joins-returns t c =
    let s = scope_in c.args.names.now in
    on_ok_weaker c.collect_end.result
    (λ f. f s ∙ statements_past s _ _ c.deref-statement-items.result.now c.loop-statement.statement-index (end_text c.args.transition.now.end) (omega arith) c.loop-statement.invariant)
    c.collect_end.ensures
