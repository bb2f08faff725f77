use Rattle.std.proofs.Common.{arith, ◌≡◌, ◌+◌, ◌-◌, ◌<◌, suc, List, [], Option, length, drop, max, if◌then◌else◌, refl, ap, sym, ◌∙◌, subst}
use Rattle.sdl_ast.specs.declared.tree.Statement.{Statement}
use Rattle.sdl_ast.specs.declared.tree.Answer.{Answer}
use Rattle.sdl_ast.specs.declared.tree.Range.{Range}
use Rattle.sdl_ast.specs.declared.tree.Transition.{Transition}
use Rattle.sdl_ast.specs.declared.tree.Decision.{out-Decision}
use Rattle.sdl_ast.specs.Plain.{Text, Choice, PlainStatement, before}
use Rattle.sdl_ast.specs.Views.{tree_of, text_of, end_text, statement_of, statements_before, answers_before, else_choice, choice_of, process_of}
use Rattle.sdl_tables.specs.Names.{variables_of}
use Rattle.sdl_sound.specs.Longest.{budget, effects, tests_budget}
use Rattle.sdl_measures.specs.Measures.{capped}
use Rattle.sdl_measures.specs.Counting.{IsMeasured, AreMeasured, budget_named, effects_named, no_measure}
use Rattle.sdl_measures.specs.declared.measures.Measure.{Measure}
use Rattle.sdl_ast.proofs.Views.{text_of-is, statement_of-act, plain_decides, decision_of-is, answer_of-is}
use Rattle.sdl_measures.proofs.Measuring.{decision_measured, else_measured, none_measured, answer_measured, statement_first, answer_first, drop_past, drop_none}
use Rattle.sdl_measures.proofs.measures.+measuring.Goals as goal
use Rattle.sdl_measures.proofs.measures.+measuring.Goals.{measure_answers-in-None, measure_answers-in-Some}

pub measure_transition-loop-left-init : goal.measure_transition-loop-left-init
measure_transition-loop-left-init t c =
    let items = c.args.transition.now.statements.items in
    record {
      within = omega (arith, c.len-left.ensures);
      total = λ k e b.
          subst (λ (l : List Statement). IsMeasured (process_of c.args.process.now) c.args.measures.now (statements_before l (end_text c.args.transition.now.end)) k e c.measure_end-total.result)
          (sym (drop_past items c.len-left.result (omega (arith, c.len-left.ensures)))) (c.measure_end-total.ensures k e b);
    }

pub measure_transition-loop-left-preserved : goal.measure_transition-loop-left-preserved
measure_transition-loop-left-preserved t c =
    let p = process_of c.args.process.now in
    let ms = c.args.measures.now in
    let items = c.args.transition.now.statements.items in
    let end = end_text c.args.transition.now.end in
    let left = c.loop-left.left in
    let s = c.index.result.now in
    let within : left - 1 < length items = omega (arith, c.loop-left.invariant.within, c.loop-left-test.true) in
    let next : suc (left - 1) ≡ left = omega (arith, c.loop-left-test.true) in
    record {
      within = omega (arith, c.loop-left.invariant.within);
      total = λ k e b.
          let rest : IsMeasured p ms (statements_before (drop (suc (left - 1)) items) end) k e c.loop-left.total =
          subst (λ n. IsMeasured p ms (statements_before (drop n items) end) k e c.loop-left.total) (sym next) (c.loop-left.invariant.total k e b) in
          subst (λ (u : Text). IsMeasured p ms u k e c.measure_statement-total.result) (sym (statement_first items (left - 1) s end within c.index.ensures))
          (c.measure_statement-total.ensures (statements_before (drop (suc (left - 1)) items) end) k e rest);
    }

pub measure_transition-returns : goal.measure_transition-returns
measure_transition-returns t c = λ k e b.
    let p = process_of c.args.process.now in
    let ms = c.args.measures.now in
    let items = c.args.transition.now.statements.items in
    let end = end_text c.args.transition.now.end in
    subst (λ (u : Text). IsMeasured p ms u k e c.loop-left.total) (sym (text_of-is c.args.transition.now))
    (subst (λ (l : List Statement). IsMeasured p ms (statements_before l end) k e c.loop-left.total) (drop_none items c.loop-left.left c.loop-left-test.false) (c.loop-left.invariant.total k e b))

pub measure_statement-returns-in-Act : goal.measure_statement-returns-in-Act
measure_statement-returns-in-Act t c = λ u k e h.
    subst (λ (u : Text). IsMeasured (process_of c.args.process.now) c.args.measures.now u k e c.measure_action.result)
    (sym (ap (λ (s : Statement). statement_of s u) c.in-Act.is ∙ statement_of-act c.in-Act.action u)) (c.measure_action.ensures u k e h)

pub measure_statement-returns-in-Decide : goal.measure_statement-returns-in-Decide
measure_statement-returns-in-Decide t c = λ u k e h.
    subst (λ (u : Text). IsMeasured (process_of c.args.process.now) c.args.measures.now u k e c.measure_decision.result)
    (sym (ap (λ (s : Statement). statement_of s u) c.in-Decide.is ∙ ap (λ (s : PlainStatement). before s u) (plain_decides c.in-Decide.decision))) (c.measure_decision.ensures u k e h)

pub measure_decision-returns : goal.measure_decision-returns
measure_decision-returns t c = λ u k e h.
    let p = process_of c.args.process.now in
    let ms = c.args.measures.now in
    let d = out-Decision c.args.decision.now in
    let bodies = c.measure_answers-answers.ensures (budget (variables_of p) (budget_named p ms) u k) (effects (effects_named p ms) u e)
    (record { budget = omega (arith, c.saturating_add.ensures, h.budget); effects = h.effects }) in
    let r : Measure = record { budget = c.saturating_add-2.result; depth = c.max-2.result; effects = c.measure_answers-answers.result.effects; size = c.saturating_add-4.result; goes_on = c.both.result } in
    subst (λ (x : Text). IsMeasured p ms x k e r) (sym (decision_of-is c.args.decision.now u))
    (decision_measured p ms d.at (tree_of d.question) (choice_of c.args.decision.now) u k e c.is_truth-truth.result c.args.rest c.measure_answers-answers.result c.cost.result c.depth.result c.one_if.result r
    c.is_truth-truth.ensures c.one_if.ensures c.cost.ensures c.depth.ensures
    (omega (arith, c.saturating_add-question.ensures, c.saturating_add-2.ensures)) (omega (arith, c.max.ensures, c.max-2.ensures)) refl (omega (arith, c.saturating_add-question.ensures, c.saturating_add-3.ensures, c.saturating_add-4.ensures)) c.both.ensures bodies h)

pub measure_else-returns : goal.measure_else-returns
measure_else-returns t c = λ k e b.
    else_measured (process_of c.args.process.now) c.args.measures.now (text_of c.args.body.now) k e c.args.truth c.measure_transition-inside.result c.jump_size.result c.one_if-drop.result
    (record { budget = c.saturating_add.result; depth = c.measure_transition-inside.result.depth; effects = c.measure_transition-inside.result.effects; size = c.saturating_add-3.result; goes_on = c.measure_transition-inside.result.goes_on })
    c.jump_size.ensures c.one_if-drop.ensures c.saturating_add.ensures refl refl (omega (arith, c.saturating_add-2.ensures, c.saturating_add-3.ensures)) refl (c.measure_transition-inside.ensures (1 + k) e b)

pub measure_answer-returns : goal.measure_answer-returns
measure_answer-returns t c = λ ch k e b o.
    let p = process_of c.args.process.now in
    let a = c.args.answer.now in
    let r : Measure = record { budget = c.answer_budget.result; depth = c.max.result; effects = c.max-2.result; size = c.saturating_add-2.result; goes_on = c.one_of.result } in
    let tests : c.answer_tests-tests.result ≡ capped (if c.args.truth then 0 else length a.ranges.items) =
    c.answer_tests-tests.ensures ∙ ap (λ (l : List Range). capped (if c.args.truth then 0 else length l)) c.deref.ensures.value in
    subst (λ (x : Choice). AreMeasured p c.args.measures.now c.args.truth x k e r) (sym (answer_of-is a ch))
    (answer_measured p c.args.measures.now a.at a.ranges.items (text_of a.body) ch k e c.args.truth c.measure_transition-inside.result c.args.others c.jump_size.result c.answer_tests-tests.result r
    c.jump_size.ensures tests
    (λ x y h o. subst (λ (l : List Range). c.answer_budget.result ≡ capped (if c.args.truth then max x y else tests_budget l x y)) c.deref-2.ensures.value (c.answer_budget.ensures x y h o))
    c.max.ensures c.max-2.ensures (omega (arith, c.saturating_add-size.ensures, c.saturating_add.ensures, c.saturating_add-2.ensures)) c.one_of.ensures (c.measure_transition-inside.ensures (1 + k) e b) o)

pub measure_answers-loop-left-init : goal.measure_answers-loop-left-init
measure_answers-loop-left-init t c =
    let p = process_of c.args.process.now in
    let ms = c.args.measures.now in
    let d = out-Decision c.args.decision.now in
    let none : drop c.len-left.result d.answers.items ≡ [] = drop_past d.answers.items c.len-left.result (omega (arith, c.len-left.ensures)) in
    record {
      within = omega (arith, c.len-left.ensures);
      total = λ k e b.
          subst (λ (l : List Answer). AreMeasured p ms c.args.truth (answers_before l (else_choice d.otherwise)) k e c.match-decision.total) (sym none)
          (elim c.match-decision.branch [
            | measure_answers-in-None w ↦
                rw w.total-is
                (subst (λ (o : Option Transition). AreMeasured p ms c.args.truth (else_choice o) k e no_measure) (sym w.in-None.is) (none_measured p ms k e c.args.truth))
            | measure_answers-in-Some w ↦
                rw w.total-is
                (subst (λ (o : Option Transition). AreMeasured p ms c.args.truth (else_choice o) k e w.measure_else-total.result) (sym w.in-Some.is) (w.measure_else-total.ensures k e b))
          ]);
    }

pub measure_answers-loop-left-preserved : goal.measure_answers-loop-left-preserved
measure_answers-loop-left-preserved t c =
    let p = process_of c.args.process.now in
    let ms = c.args.measures.now in
    let d = out-Decision c.args.decision.now in
    let items = d.answers.items in
    let others = else_choice d.otherwise in
    let left = c.loop-left.left in
    let a = c.index.result.now in
    let within : left - 1 < length items = omega (arith, c.loop-left.invariant.within, c.loop-left-test.true) in
    let next : suc (left - 1) ≡ left = omega (arith, c.loop-left-test.true) in
    record {
      within = omega (arith, c.loop-left.invariant.within);
      total = λ k e b.
          let rest : AreMeasured p ms c.args.truth (answers_before (drop (suc (left - 1)) items) others) k e c.loop-left.total =
          subst (λ n. AreMeasured p ms c.args.truth (answers_before (drop n items) others) k e c.loop-left.total) (sym next) (c.loop-left.invariant.total k e b) in
          subst (λ (x : Choice). AreMeasured p ms c.args.truth x k e c.measure_answer-total.result) (sym (answer_first items (left - 1) a others within c.index.ensures))
          (c.measure_answer-total.ensures (answers_before (drop (suc (left - 1)) items) others) k e b rest);
    }

pub measure_answers-returns : goal.measure_answers-returns
measure_answers-returns t c = λ k e b.
    let d = out-Decision c.args.decision.now in
    subst (λ (l : List Answer). AreMeasured (process_of c.args.process.now) c.args.measures.now c.args.truth (answers_before l (else_choice d.otherwise)) k e c.loop-left.total)
    (drop_none d.answers.items c.loop-left.left c.loop-left-test.false) (c.loop-left.invariant.total k e b)
