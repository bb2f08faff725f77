use Rattle.std.proofs.Common.{◌∙◌, List, map, ap, sym, refl, take_all}
use Rattle.sdl_ast.specs.declared.tree.Answer.{Answer}
use Rattle.sdl_ast.specs.declared.tree.Range.{Range}
use Rattle.sdl_ast.specs.declared.tree.Statement.{Statement}
use Rattle.sdl_ast.specs.Views.{plain_statement, plain_answer}
use Rattle.sdl_rules.specs.Expansion.{expanded_range, expanded_statement, expanded_answer}
use Rattle.sdl_rules.specs.Views.{sight_of}
use Rattle.sdl_rules.proofs.Copying.{one_more}
use Rattle.sdl_rules.proofs.Expansions.{transition_expanded, decision_expanded, act_expanded, decide_expanded, answer_expanded}
use Rattle.sdl_rules.proofs.transitions.+expanding.Goals as goal

pub expand_decision-returns : goal.expand_decision-returns
expand_decision-returns t c =
    let list = c.deref-answer-items.result.now in
    let s = sight_of c.args.sight.now in
    decision_expanded s c.args.given.now list c.in_ok-question.question c.loop-answer.answers c.in_ok-otherwise.otherwise (sym c.deref-answer-items.ensures.value) c.in_ok-question.ensures
    (c.loop-answer.invariant ∙ ap (λ (l : List Answer). map (expanded_answer s) (map plain_answer l)) (take_all c.loop-answer.answer-index list c.loop-answer-test.false))
    c.in_ok-otherwise.ensures

pub expand_transition-returns : goal.expand_transition-returns
expand_transition-returns t c =
    let list = c.deref-statement-items.result.now in
    let s = sight_of c.args.sight.now in
    transition_expanded s c.args.given.now _ list (sym c.deref-statement-items.ensures.value)
    (c.loop-statement.invariant ∙ ap (λ (l : List Statement). map (expanded_statement s) (map plain_statement l)) (take_all c.loop-statement.statement-index list c.loop-statement-test.false))
    refl

pub expand_transition-loop-statement-preserved : goal.expand_transition-loop-statement-preserved
expand_transition-loop-statement-preserved t c =
    one_more plain_statement (expanded_statement (sight_of c.args.sight.now)) c.deref-statement-items.result.now c.loop-statement.statements.items _ c.loop-statement.statement-index
    c.statement-item.result _ c.loop-statement-test.true c.statement-item.is c.loop-statement.invariant c.in_ok-push.ensures.items c.in_ok-expand_statement.ensures

pub expand_decision-loop-answer-preserved : goal.expand_decision-loop-answer-preserved
expand_decision-loop-answer-preserved t c =
    one_more plain_answer (expanded_answer (sight_of c.args.sight.now)) c.deref-answer-items.result.now c.loop-answer.answers.items _ c.loop-answer.answer-index
    c.answer-item.result _ c.loop-answer-test.true c.answer-item.is c.loop-answer.invariant c.in_ok-push.ensures.items c.in_ok-expand_answer.ensures

pub expand_statement-returns-in_ok-copy-in-Act : goal.expand_statement-returns-in_ok-copy-in-Act
expand_statement-returns-in_ok-copy-in-Act t c =
    act_expanded (sight_of c.args.sight.now) c.args.given.now c.in-Act.action c.in_ok-copy-in-Act.copy c.in-Act.is c.in_ok-copy-in-Act.ensures

pub expand_statement-returns-in_ok-copy-in-Decide : goal.expand_statement-returns-in_ok-copy-in-Decide
expand_statement-returns-in_ok-copy-in-Decide t c =
    decide_expanded (sight_of c.args.sight.now) c.args.given.now c.in-Decide.decision c.in_ok-copy-in-Decide.copy c.in-Decide.is c.in_ok-copy-in-Decide.ensures

pub expand_answer-returns : goal.expand_answer-returns
expand_answer-returns t c =
    let copy : Answer = record { at = c.args.given.now.at; ranges = c.in_ok-ranges.ranges; body = c.in_ok-body.body } in
    answer_expanded (sight_of c.args.sight.now) c.args.given.now copy refl
    (c.in_ok-ranges.ensures ∙ ap (λ (l : List Range). map (expanded_range (sight_of c.args.sight.now)) l) c.deref.ensures.value) c.in_ok-body.ensures
