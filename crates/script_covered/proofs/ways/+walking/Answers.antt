use Rattle.std.proofs.Common.{arith, refl, sym, ap, ◌∙◌, subst}
use Rattle.sdl_ast.specs.declared.tree.Decision.{out-Decision}
use Rattle.sdl_ast.specs.declared.tree.Statement.{Statement}
use Rattle.sdl_ast.specs.Plain.{falls}
use Rattle.sdl_ast.specs.Views.{tree_of, statement_of, else_choice, end_text}
use Rattle.script_covered.specs.Ways.{stands, way_of, is_for}
use Rattle.sdl_meaning.specs.Valued.{valued}
use Rattle.script_covered.specs.OnWay.{IsOnWay}
use Rattle.script_covered.proofs.Walking.{on_start, on_part, first_statement, statement_ends, statement_goes, statements_past, statement_acts, statement_decides, decision_asked, answer_taken, answer_passed, answers_past, first_answer, else_taken}
use Rattle.script_covered.proofs.ways.+walking.Goals as goal

pub walk-loop-statement-init : goal.walk-loop-statement-init
walk-loop-statement-init t c =
    first_statement c.args.names.now c.args.transition.now c.deref-statement-items.result.now c.args.values.now.items c.args.counts.now c.deref-statement-items.ensures.value

pub walk-loop-statement-preserved : goal.walk-loop-statement-preserved
walk-loop-statement-preserved t c =
    statement_goes _ c.args.names.now c.deref-statement-items.result.now c.loop-statement.statement-index c.statement-item.result (end_text c.args.transition.now.end) c.go_by.result
    c.loop-statement.values.items c.go_by.new.values.items c.args.counts.now c.loop-statement.counts c.go_by.new.counts
    c.loop-statement-test.true c.statement-item.is c.in-None.is c.loop-statement.invariant c.go_by.ensures

pub walk-returns-in-Some : goal.walk-returns-in-Some
walk-returns-in-Some t c =
    statement_ends _ c.args.names.now c.deref-statement-items.result.now c.loop-statement.statement-index c.statement-item.result (end_text c.args.transition.now.end) c.go_by.result c.in-Some.end
    c.loop-statement.values.items c.go_by.new.values.items c.args.counts.now c.loop-statement.counts c.go_by.new.counts
    c.loop-statement-test.true c.statement-item.is c.in-Some.is c.loop-statement.invariant c.go_by.ensures

pub walk-returns : goal.walk-returns
walk-returns t c =
    on_part _ _ _ c.args.counts.now c.loop-statement.counts c.finish.new.counts
    (statements_past _ c.args.names.now c.deref-statement-items.result.now c.loop-statement.statement-index c.args.transition.now.end c.args.transition.now.end c.loop-statement.values.items
    c.args.counts.now c.loop-statement.counts (omega arith) refl c.loop-statement.invariant)
    (c.finish.ensures c.args.names.now c.loop-statement.values.items)

pub go_by-returns-in-Act : goal.go_by-returns-in-Act
go_by-returns-in-Act t c =
    subst (λ (s : Statement). IsOnWay (way_of c.args.names.now (statement_of s falls) c.args.values.now.items) (stands _ c.act.new.values.items) c.args.counts.now c.take_at.new.self) (sym c.in-Act.is)
    (statement_acts c.args.names.now c.in-Act.action c.args.values.now.items c.act.new.values.items c.action_place.result c.args.counts.now c.take_at.new.self c.action_place.ensures c.act.ensures c.take_at.ensures)

pub go_by-returns-in-Decide : goal.go_by-returns-in-Decide
go_by-returns-in-Decide t c =
    subst (λ (s : Statement). IsOnWay (way_of c.args.names.now (statement_of s falls) c.args.values.now.items) (stands c.decide.result c.decide.new.values.items) c.args.counts.now c.decide.new.counts) (sym c.in-Decide.is)
    (statement_decides c.args.names.now c.in-Decide.decision c.args.values.now.items _ c.args.counts.now c.decide.new.counts c.decide.ensures)

pub decide-returns-in-Some : goal.decide-returns-in-Some
decide-returns-in-Some t c =
    let d = c.args.decision.now in
    decision_asked c.args.names.now d c.args.values.now.items _ _ c.args.counts.now c.take_at.new.self c.choose.new.counts
    (sym c.in-Some.is ∙ (c.evaluate.ensures ∙ ap (valued c.args.names.now (tree_of (out-Decision d).question)) c.as_slice.ensures.value)) c.take_at.ensures c.choose.ensures

pub decide-returns-in-None : goal.decide-returns-in-None
decide-returns-in-None t c =
    let d = c.args.decision.now in
    decision_asked c.args.names.now d c.args.values.now.items _ _ c.args.counts.now c.take_at.new.self c.take_at.new.self
    (sym c.in-None.is ∙ (c.evaluate.ensures ∙ ap (valued c.args.names.now (tree_of (out-Decision d).question)) c.as_slice.ensures.value)) c.take_at.ensures
    (on_start _ _ c.take_at.new.self refl)

pub choose-loop-answer-init : goal.choose-loop-answer-init
choose-loop-answer-init t c =
    first_answer c.args.names.now c.args.decision.now c.deref-answer-items.result.now c.args.value c.args.values.now.items c.args.counts.now c.deref-answer-items.ensures.value

pub choose-returns-then-answers : goal.choose-returns-then-answers
choose-returns-then-answers t c =
    answer_taken _ c.args.names.now (out-Decision c.args.decision.now).at c.deref-answer-items.result.now c.loop-answer.answer-index c.answer-item.result
    (else_choice (out-Decision c.args.decision.now).otherwise) c.args.value c.answers.result c.loop-answer.values.items c.walk.new.values.items c.walk.result
    c.args.counts.now c.loop-answer.counts c.take_at.new.self c.walk.new.counts c.loop-answer-test.true c.answer-item.is
    (c.answers.ensures ∙ ap (λ rs. is_for rs c.args.value) c.deref.ensures.value) c.if-answers.true c.loop-answer.invariant c.take_at.ensures c.walk.ensures

pub choose-loop-answer-preserved : goal.choose-loop-answer-preserved
choose-loop-answer-preserved t c =
    answer_passed _ c.args.names.now (out-Decision c.args.decision.now).at c.deref-answer-items.result.now c.loop-answer.answer-index c.answer-item.result
    (else_choice (out-Decision c.args.decision.now).otherwise) c.args.value c.answers.result c.loop-answer.values.items
    c.args.counts.now c.loop-answer.counts c.loop-answer-test.true c.answer-item.is
    (c.answers.ensures ∙ ap (λ rs. is_for rs c.args.value) c.deref.ensures.value) c.if-answers.false c.loop-answer.invariant

pub choose-returns-in-Some : goal.choose-returns-in-Some
choose-returns-in-Some t c =
    else_taken _ c.args.names.now (out-Decision c.args.decision.now).at c.in-Some.body c.args.value c.loop-answer.values.items _
    c.args.counts.now c.loop-answer.counts c.take_else.new.self c.walk-in-Some.new.counts
    (answers_past _ c.args.names.now (out-Decision c.args.decision.now).at c.deref-answer-items.result.now c.loop-answer.answer-index (out-Decision c.args.decision.now).otherwise _
    c.args.value c.loop-answer.values.items c.args.counts.now c.loop-answer.counts (omega arith) c.in-Some.is c.loop-answer.invariant)
    c.take_else.ensures c.walk-in-Some.ensures

pub choose-returns-in-None : goal.choose-returns-in-None
choose-returns-in-None t c =
    answers_past _ c.args.names.now (out-Decision c.args.decision.now).at c.deref-answer-items.result.now c.loop-answer.answer-index (out-Decision c.args.decision.now).otherwise _
    c.args.value c.loop-answer.values.items c.args.counts.now c.loop-answer.counts (omega arith) c.in-None.is c.loop-answer.invariant
