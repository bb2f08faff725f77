use Rattle.std.proofs.Common.{◌∙◌, List, Option, map, take, sym, subst, take_all}
use Rattle.std.specs.List.{flat_map}
use Rattle.sdl_ast.specs.declared.tree.Range.{Range}
use Rattle.sdl_ast.specs.declared.tree.Constant.{Constant}
use Rattle.sdl_ast.specs.declared.tree.Decision.{out-Decision}
use Rattle.sdl_ast.specs.declared.tree.Transition.{Transition}
use Rattle.sdl_ast.specs.Plain.{PlainAnswer}
use Rattle.sdl_ast.specs.Views.{plain_statement, plain_answer, text_of, else_choice}
use Rattle.sdl_ast.proofs.Views.{plain_answer-is}
use Rattle.sdl_rules.specs.Faults.{AreOf, constants_places, range_constants, text_constants, choice_constants, statement_constants, answer_constants}
use Rattle.sdl_rules.specs.Views.{sight_of}
use Rattle.sdl_rules.proofs.FaultPlaces.{constants_both, constants_more, transition_constants, decision_constants, act_constants, decide_constants}
use Rattle.sdl_rules.proofs.strays.+straying.Goals as goal

pub strays_in_transition-loop-statement-preserved : goal.strays_in_transition-loop-statement-preserved
strays_in_transition-loop-statement-preserved t c =
    constants_more (sight_of c.args.sight.now) plain_statement statement_constants c.deref-statement-items.result.now c.loop-statement.statement-index c.statement-item.result
    c.loop-statement.found c.strays_in_statement.result c.first_of-found.result c.loop-statement-test.true c.statement-item.is c.loop-statement.invariant
    c.strays_in_statement.ensures c.first_of-found.ensures

pub strays_in_transition-returns : goal.strays_in_transition-returns
strays_in_transition-returns t c =
    let list = take c.loop-statement.statement-index c.deref-statement-items.result.now in
    let items = take_all c.loop-statement.statement-index c.deref-statement-items.result.now c.loop-statement-test.false ∙ c.deref-statement-items.ensures.value in
    subst (λ (cs : List Constant). AreOf (constants_places (sight_of c.args.sight.now) cs) c.loop-statement.found)
    (sym (transition_constants c.args.transition.now list (sym items))) c.loop-statement.invariant

pub strays_in_decision-loop-answer-preserved : goal.strays_in_decision-loop-answer-preserved
strays_in_decision-loop-answer-preserved t c =
    constants_more (sight_of c.args.sight.now) plain_answer answer_constants c.deref-answer-items.result.now c.loop-answer.answer-index c.answer-item.result
    c.loop-answer.found c.strays_in_answer.result c.first_of-found.result c.loop-answer-test.true c.answer-item.is c.loop-answer.invariant
    c.strays_in_answer.ensures c.first_of-found.ensures

pub strays_in_decision-returns : goal.strays_in_decision-returns
strays_in_decision-returns t c =
    let d = out-Decision c.args.decision.now in
    let list = take c.loop-answer.answer-index c.deref-answer-items.result.now in
    let items = take_all c.loop-answer.answer-index c.deref-answer-items.result.now c.loop-answer-test.false ∙ c.deref-answer-items.ensures.value in
    subst (λ (cs : List Constant). AreOf (constants_places (sight_of c.args.sight.now) cs) c.first_of.result)
    (sym (decision_constants c.args.decision.now list (sym items)))
    (constants_both (sight_of c.args.sight.now) (flat_map answer_constants (map plain_answer list)) (choice_constants (else_choice d.otherwise)) c.loop-answer.found c.strays_in_else.result
    c.first_of.result c.loop-answer.invariant c.strays_in_else.ensures c.first_of.ensures)

pub strays_in_answer-returns : goal.strays_in_answer-returns
strays_in_answer-returns t c =
    let a = c.args.answer.now in
    subst (λ (x : PlainAnswer). AreOf (constants_places (sight_of c.args.sight.now) (answer_constants x)) c.first_of.result) (sym (plain_answer-is a))
    (constants_both (sight_of c.args.sight.now) (flat_map range_constants a.ranges.items) (text_constants (text_of a.body)) c.strays_in_ranges-ranges.result c.strays_in_transition-body.result
    c.first_of.result
    (subst (λ (l : List Range). AreOf (constants_places (sight_of c.args.sight.now) (flat_map range_constants l)) c.strays_in_ranges-ranges.result) c.deref.ensures.value c.strays_in_ranges-ranges.ensures)
    c.strays_in_transition-body.ensures c.first_of.ensures)

pub strays_in_statement-returns-in-Act : goal.strays_in_statement-returns-in-Act
strays_in_statement-returns-in-Act t c =
    subst (λ (cs : List Constant). AreOf (constants_places (sight_of c.args.sight.now) cs) c.no_strays.result) (sym (act_constants c.args.statement.now _ c.in-Act.is)) c.no_strays.ensures

pub strays_in_statement-returns-in-Decide : goal.strays_in_statement-returns-in-Decide
strays_in_statement-returns-in-Decide t c =
    subst (λ (cs : List Constant). AreOf (constants_places (sight_of c.args.sight.now) cs) c.strays_in_decision.result)
    (sym (decide_constants c.args.statement.now _ c.in-Decide.is)) c.strays_in_decision.ensures

pub strays_in_else-returns-in-None : goal.strays_in_else-returns-in-None
strays_in_else-returns-in-None t c =
    subst (λ (o : Option Transition). AreOf (constants_places (sight_of c.args.sight.now) (choice_constants (else_choice o))) c.no_strays.result) (sym c.in-None.is) c.no_strays.ensures

pub strays_in_else-returns-in-Some : goal.strays_in_else-returns-in-Some
strays_in_else-returns-in-Some t c =
    subst (λ (o : Option Transition). AreOf (constants_places (sight_of c.args.sight.now) (choice_constants (else_choice o))) c.strays_in_transition.result) (sym c.in-Some.is)
    c.strays_in_transition.ensures
