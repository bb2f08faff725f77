use Rattle.std.proofs.Common.{◌≡◌, ◌+◌, ◌-◌, ◌<◌, List, [], length, drop, get_or, sym, ap, subst, ◌∙◌, take_all, arith}
use Rattle.std.specs.List.{flat_map}
use Rattle.sdl_ast.specs.declared.tree.Answer.{Answer}
use Rattle.sdl_ast.specs.declared.tree.Statement.{Statement}
use Rattle.sdl_ast.specs.declared.tree.Decision.{out-Decision}
use Rattle.sdl_ast.specs.Plain.{Text}
use Rattle.sdl_ast.specs.Views.{tree_of, text_of, statement_of, choice_of, else_choice, statements_before, end_text}
use Rattle.sdl_tables.specs.Scopes.{Marks}
use Rattle.sdl_scopes.specs.Rests.{IsRest}
use Rattle.sdl_sound.specs.Ends.{strays}
use Rattle.sdl_scopes.proofs.Straying.{answers_strays, one_more}
use Rattle.sdl_ast.proofs.Views.{text_of-is, statement_of-decide}
use Rattle.sdl_scopes.proofs.ends.+strays.Goals as goal

pub from_statement-returns-in-Decide : goal.from_statement-returns-in-Decide
from_statement-returns-in-Decide t c at rest is =
    let ids = c.args.states.now in
    let d = c.in-Decide.decision in
    let given = c.from_decision.ensures ids at (tree_of (out-Decision d).question) (choice_of d) rest c.in_bodies-bodies.ensures c.a_body_goes_on.ensures is in
    let here = subst (λ (u : Text). IsRest ids at u c.from_decision.result) (sym (statement_of-decide d rest)) given in
    subst (λ (s : Statement). IsRest ids at (statement_of s rest) c.from_decision.result) (sym c.in-Decide.is) here

pub in_bodies-returns : goal.in_bodies-returns
in_bodies-returns t c =
    let ids = c.args.states.now in
    let d = out-Decision c.args.decision.now in
    let items = take_all c.loop-answer.answer-index c.deref-answer-items.result.now c.loop-answer-test.false ∙ c.deref-answer-items.ensures.value in
    let all = subst (λ (xs : List Answer). Marks c.loop-answer.place (flat_map (λ (a : Answer). strays ids [] (text_of a.body)) xs)) items c.loop-answer.invariant in
    subst (Marks c.earlier.result) (sym (answers_strays ids d.answers.items (else_choice d.otherwise))) (c.earlier.ensures _ _ all c.in_else.ensures)

pub in_transition-loop-behind-preserved : goal.in_transition-loop-behind-preserved
in_transition-loop-behind-preserved t c =
    let ids = c.args.states.now in
    let ss = c.args.transition.now.statements.items in
    let behind = c.loop-behind.behind in
    let i = length ss - (behind + 1) in
    let count : c.len-count.result ≡ length ss = c.len-count.ensures ∙ c.args.transition.now.statements.ok.0 in
    let within : behind < length ss = omega (arith, c.loop-behind-test.true, c.loop-behind.auto.behind-end, count) in
    let next : length ss - behind ≡ i + 1 = omega (arith, within) in
    let place : c.len-count.result - 1 - behind ≡ i = omega (arith, within, count) in
    let is = c.index.ensures ∙ ap (λ n. get_or ss n c.index.result.now) place in
    let given = subst (λ n. IsRest ids c.args.at (statements_before (drop n ss) (end_text c.args.transition.now.end)) c.loop-behind.rest) next c.loop-behind.invariant in
    one_more ids c.args.at ss i c.index.result.now (end_text c.args.transition.now.end) c.loop-behind.rest c.from_statement-rest.result (omega (arith, within)) is given
    (c.from_statement-rest.ensures c.args.at)

pub in_transition-returns : goal.in_transition-returns
in_transition-returns t c =
    let t = c.args.transition.now in
    let ss = t.statements.items in
    let count : c.len-count.result ≡ length ss = c.len-count.ensures ∙ t.statements.ok.0 in
    let none : length ss - c.loop-behind.behind ≡ 0 = omega (arith, c.loop-behind-test.false, count) in
    let all = subst (λ n. IsRest c.args.states.now c.args.at (statements_before (drop n ss) (end_text t.end)) c.loop-behind.rest) none c.loop-behind.invariant in
    subst (λ (u : Text). IsRest c.args.states.now c.args.at u c.loop-behind.rest) (sym (text_of-is t)) all
