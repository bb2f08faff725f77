use Rattle.std.proofs.Common.{rules, [], ◌++◌, ◌&&◌, ◌||◌, ◌+◌, ℕ, map, drop, ap, refl, sym, ◌∙◌, subst, append-nil}
use Rattle.std.proofs.lemmas.Result.{on_ok_weaker, IfOk-weaker}
use Rattle.std.proofs.Math.Bool.{and-true, and-false}
use Rattle.std.proofs.lemmas.List.{drop_all}
use Rattle.sdl_ast.specs.Plain.{Text, falls}
use Rattle.sdl_ast.specs.declared.tree.Decision.{out-Decision, the_lemmas}
use Rattle.sdl_ast.specs.Views.{plain_answer, text_of, choice_of, statements_before, answers_before, end_text, else_choice, action_of}
use Rattle.sdl_ast.proofs.Views.{text_of-is}
use Rattle.sdl_sound.specs.Going.{goes_on, choice_goes_on}
use Rattle.sdl_emit.specs.Scopes.{scope_in, question_in, NamedElse}
use Rattle.sdl_emit.proofs.Picking.{one_answer}
use Rattle.sdl_emit.proofs.Emitting.{one_statement, statement_named, rest_named, others_named, answer_named}
use Rattle.sdl_emit.proofs.Landed.{rest_goes}
use Rattle.sdl_meaning.specs.Named.{NamedText, NamedChoice}
use Rattle.sdl_compile.specs.Reads.{everything, left, answers_left, else_left}
use Rattle.sdl_compile.specs.Entries.{met, answers_met, else_met}
use Rattle.sdl_compile.specs.Facts.{action_sets, text_sets, answers_sets, else_sets, decision_sets}
use Rattle.sdl_compile.proofs.Bodies.{statements_past, answers_past, acted, decided, rest_sets, rest_met, rest_left, others_sets, others_met, others_left, others_go, no_sets, none_met, none_left, body_goes, body_ends}
use Rattle.sdl_compile.proofs.Marking.{else_named, truth_sets, integer_sets, truth_met, integer_met, behind}
use Rattle.sdl_compile.proofs.marks.+marks.Goals as goal

pub mark_decision-mark_else-requires : goal.mark_decision-mark_else-requires
mark_decision-mark_else-requires t c =
    let d = out-Decision c.args.decision.now in
    (search (rules, the_lemmas), else_named (scope_in c.args.names.now) (question_in c.args.decision.now) c.args.set (map plain_answer d.answers.items) d.otherwise c.requires)

pub mark_decision-mark_else-requires-else-is_truth : goal.mark_decision-mark_else-requires-else-is_truth
mark_decision-mark_else-requires-else-is_truth t c =
    let d = out-Decision c.args.decision.now in
    (search (rules, the_lemmas), else_named (scope_in c.args.names.now) (question_in c.args.decision.now) c.args.set (map plain_answer d.answers.items) d.otherwise c.requires)

pub mark_decision-returns-in_ok-otherwise-clause-sets : goal.mark_decision-returns-in_ok-otherwise-clause-sets
mark_decision-returns-in_ok-otherwise-clause-sets t c =
    let d = out-Decision c.args.decision.now in
    truth_sets (scope_in c.args.names.now) (question_in c.args.decision.now) c.args.set (map plain_answer d.answers.items) d.otherwise
    c.args.sets.now.items c.mark_expression.new.sets.items c.mark.new.sets.items c.mark_answers.new.sets.items c.mark_else.new.sets.items
    c.in_ok-mark_expression.ensures (sym c.is_truth.ensures ∙ c.if-is_truth.true) c.in_ok-mark.ensures c.in_ok-answered.ensures.sets c.in_ok-otherwise.ensures.sets

pub mark_decision-returns-in_ok-otherwise-clause-entries : goal.mark_decision-returns-in_ok-otherwise-clause-entries
mark_decision-returns-in_ok-otherwise-clause-entries t c =
    let d = out-Decision c.args.decision.now in
    truth_met (scope_in c.args.names.now) (question_in c.args.decision.now) c.args.set (map plain_answer d.answers.items) d.otherwise
    c.args.entries.now.items c.mark_answers.new.entries.items c.mark_else.new.entries.items
    (sym c.is_truth.ensures ∙ c.if-is_truth.true) c.in_ok-answered.ensures.entries c.in_ok-otherwise.ensures.entries

pub mark_decision-returns-in_ok-otherwise-clause-behind : goal.mark_decision-returns-in_ok-otherwise-clause-behind
mark_decision-returns-in_ok-otherwise-clause-behind t c =
    let d = out-Decision c.args.decision.now in
    c.behind_all.ensures.set ∙ behind (scope_in c.args.names.now) (question_in c.args.decision.now) c.args.set (map plain_answer d.answers.items) d.otherwise
    c.in_ok-answered.answered.set c.in_ok-otherwise.otherwise.set c.in_ok-answered.ensures.behind c.in_ok-otherwise.ensures.behind

pub mark_decision-returns-in_ok-answered-2-clause-sets : goal.mark_decision-returns-in_ok-answered-2-clause-sets
mark_decision-returns-in_ok-answered-2-clause-sets t c =
    let d = out-Decision c.args.decision.now in
    integer_sets (scope_in c.args.names.now) (question_in c.args.decision.now) c.args.set (map plain_answer d.answers.items) d.otherwise
    c.args.sets.now.items c.mark_expression.new.sets.items c.mark_tests.new.sets.items c.mark_else-else-is_truth.new.sets.items c.mark_answers-else-is_truth.new.sets.items
    c.in_ok-mark_expression.ensures (sym c.is_truth.ensures ∙ c.if-is_truth.false) c.in_ok-mark_tests.ensures c.in_ok-otherwise-2.ensures.sets c.in_ok-answered-2.ensures.sets

pub mark_decision-returns-in_ok-answered-2-clause-entries : goal.mark_decision-returns-in_ok-answered-2-clause-entries
mark_decision-returns-in_ok-answered-2-clause-entries t c =
    let d = out-Decision c.args.decision.now in
    integer_met (scope_in c.args.names.now) (question_in c.args.decision.now) c.args.set (map plain_answer d.answers.items) d.otherwise
    c.args.entries.now.items c.mark_else-else-is_truth.new.entries.items c.mark_answers-else-is_truth.new.entries.items
    (sym c.is_truth.ensures ∙ c.if-is_truth.false) c.in_ok-otherwise-2.ensures.entries c.in_ok-answered-2.ensures.entries

pub mark_decision-returns-in_ok-answered-2-clause-behind : goal.mark_decision-returns-in_ok-answered-2-clause-behind
mark_decision-returns-in_ok-answered-2-clause-behind t c =
    let d = out-Decision c.args.decision.now in
    c.behind_all-else-is_truth.ensures.set ∙ behind (scope_in c.args.names.now) (question_in c.args.decision.now) c.args.set (map plain_answer d.answers.items) d.otherwise
    c.in_ok-answered-2.answered.set c.in_ok-otherwise-2.otherwise.set c.in_ok-answered-2.ensures.behind c.in_ok-otherwise-2.ensures.behind

pub mark_decision-returns-in_ok-otherwise-clause-goes : goal.mark_decision-returns-in_ok-otherwise-clause-goes
mark_decision-returns-in_ok-otherwise-clause-goes t c =
    c.behind_all.ensures.goes ∙ ap (λ b. c.in_ok-answered.answered.goes_on || b) c.in_ok-otherwise.ensures.goes ∙ c.in_ok-answered.ensures.goes

pub mark_decision-returns-in_ok-answered-2-clause-goes : goal.mark_decision-returns-in_ok-answered-2-clause-goes
mark_decision-returns-in_ok-answered-2-clause-goes t c =
    c.behind_all-else-is_truth.ensures.goes ∙ ap (λ b. c.in_ok-answered-2.answered.goes_on || b) c.in_ok-otherwise-2.ensures.goes ∙ c.in_ok-answered-2.ensures.goes

pub mark_body-returns-in_ok-mark : goal.mark_body-returns-in_ok-mark
mark_body-returns-in_ok-mark t c =
    let s = scope_in c.args.names.now in
    let told = c.in_ok-behind.ensures in
    let b = c.in_ok-behind.behind in
    record {
      sets = body_goes s c.args.set b.set (text_of c.args.body.now) c.args.sets.now.items c.mark_text.new.sets.items c.mark.new.sets.items b.goes_on told.sets told.goes told.behind c.if-behind.true c.in_ok-mark.ensures;
      entries = told.entries;
      behind = told.behind;
      goes = told.goes;
    }

pub mark_body-returns-else-behind : goal.mark_body-returns-else-behind
mark_body-returns-else-behind t c =
    let s = scope_in c.args.names.now in
    let told = c.in_ok-behind.ensures in
    let b = c.in_ok-behind.behind in
    record {
      sets = body_ends s c.args.set b.set (text_of c.args.body.now) c.args.sets.now.items c.mark_text.new.sets.items c.mark_text.new.sets.items b.goes_on told.sets told.goes c.if-behind.false refl;
      entries = told.entries;
      behind = told.behind;
      goes = told.goes;
    }

pub mark_else-mark_body-requires : goal.mark_else-mark_body-requires
mark_else-mark_body-requires t c =
    let s = scope_in c.args.names.now in
    (search (rules, the_lemmas), subst (NamedElse s) c.in-Some.is c.requires)

pub mark_else-returns-in-Some : goal.mark_else-returns-in-Some
mark_else-returns-in-Some t c =
    let s = scope_in c.args.names.now in
    let m = c.args.set in
    let r = c.mark_body.result in
    let is = sym c.in-Some.is in
    record {
      sets = on_ok_weaker r (λ f. f ∙ ap (λ o. c.args.sets.now.items ++ else_sets s m (else_choice o)) is) c.mark_body.ensures.sets;
      entries = on_ok_weaker r (λ f. f ∙ ap (λ o. else_met s m (else_choice o) c.args.entries.now.items) is) c.mark_body.ensures.entries;
      behind = IfOk-weaker r _ _ (λ v f. f ∙ ap (λ o. else_left s m (else_choice o)) is) c.mark_body.ensures.behind;
      goes = IfOk-weaker r _ _ (λ v f. f ∙ ap (λ o. choice_goes_on (else_choice o)) is) c.mark_body.ensures.goes;
    }

pub mark_else-returns-in-None : goal.mark_else-returns-in-None
mark_else-returns-in-None t c =
    let s = scope_in c.args.names.now in
    let m = c.args.set in
    let is = sym c.in-None.is in
    record {
      sets = sym (append-nil c.args.sets.now.items) ∙ ap (λ o. c.args.sets.now.items ++ else_sets s m (else_choice o)) is;
      entries = ap (λ o. else_met s m (else_choice o) c.args.entries.now.items) is;
      behind = c.everything.ensures ∙ ap (λ o. else_left s m (else_choice o)) is;
      goes = ap (λ o. choice_goes_on (else_choice o)) is;
    }

pub mark_answers-loop-answer-init : goal.mark_answers-loop-answer-init
mark_answers-loop-answer-init t c =
    let s = scope_in c.args.names.now in
    let m = c.args.set in
    let others = else_choice (out-Decision c.args.decision.now).otherwise in
    let is = ap (λ l. answers_before l others) c.deref-answer-items.ensures.value in
    record {
      sets = ap (λ k. c.args.sets.now.items ++ answers_sets s m k) is;
      entries = ap (λ k. answers_met s m k c.args.entries.now.items) is;
      goes = ap choice_goes_on is;
      behind = ap (λ a. answers_left s m a (answers_before c.deref-answer-items.result.now others)) c.everything-all.ensures ∙ ap (answers_left s m everything) is;
      named = subst (NamedChoice s (question_in c.args.decision.now)) (sym is) c.requires;
    }

pub mark_answers-mark_body-requires : goal.mark_answers-mark_body-requires
mark_answers-mark_body-requires t c =
    let s = scope_in c.args.names.now in
    let m = c.args.set in
    let q = question_in c.args.decision.now in
    let list = c.deref-answer-items.result.now in
    let i = c.loop-answer.answer-index in
    let a = c.answer-item.result in
    let o = else_choice (out-Decision c.args.decision.now).otherwise in
    let whole = answers_before (drop i list) o in
    let rest = answers_before (drop (i + 1) list) o in
    let is = one_answer list i a o c.loop-answer-test.true c.answer-item.is in
    (search (rules, the_lemmas), answer_named s (λ (n : ℕ). n) q a.at a.ranges.items (text_of a.body) whole rest is c.loop-answer.invariant.named)

pub mark_answers-loop-answer-preserved : goal.mark_answers-loop-answer-preserved
mark_answers-loop-answer-preserved t c =
    let s = scope_in c.args.names.now in
    let m = c.args.set in
    let q = question_in c.args.decision.now in
    let list = c.deref-answer-items.result.now in
    let i = c.loop-answer.answer-index in
    let a = c.answer-item.result in
    let o = else_choice (out-Decision c.args.decision.now).otherwise in
    let whole = answers_before (drop i list) o in
    let rest = answers_before (drop (i + 1) list) o in
    let is = one_answer list i a o c.loop-answer-test.true c.answer-item.is in
    let was = c.loop-answer.invariant in
    let told = c.in_ok-behind.ensures in
    record {
      sets = others_sets s a.at a.ranges.items (text_of a.body) whole rest is m c.loop-answer.sets.items c.mark_body.new.sets.items _ told.sets was.sets;
      entries = others_met s a.at a.ranges.items (text_of a.body) whole rest is m c.loop-answer.entries.items c.mark_body.new.entries.items _ told.entries was.entries;
      goes = others_go s a.at a.ranges.items (text_of a.body) whole rest is m c.loop-answer.goes c.one_of-goes.result c.in_ok-behind.behind.goes_on _ c.one_of-goes.ensures told.goes was.goes;
      behind = others_left s a.at a.ranges.items (text_of a.body) whole rest is m c.loop-answer.all c.meet-all.result c.in_ok-behind.behind.set _ c.meet-all.ensures told.behind was.behind;
      named = others_named s (λ (n : ℕ). n) q a.at a.ranges.items (text_of a.body) whole rest is was.named;
    }

pub mark_answers-returns : goal.mark_answers-returns
mark_answers-returns t c =
    let s = scope_in c.args.names.now in
    let m = c.args.set in
    let list = c.deref-answer-items.result.now in
    let i = c.loop-answer.answer-index in
    let o = (out-Decision c.args.decision.now).otherwise in
    let others = else_choice o in
    let past = c.loop-answer-test.false in
    let was = c.loop-answer.invariant in
    let now = c.loop-answer.sets.items in
    let es = c.loop-answer.entries.items in
    let all = c.loop-answer.all in
    record {
      sets = sym (append-nil now) ∙ ap (λ l. now ++ l) (sym (no_sets s o m)) ∙ answers_past (λ k. now ++ answers_sets s m k) _ list i others past was.sets;
      entries = sym (none_met s o m es) ∙ answers_past (λ k. answers_met s m k es) _ list i others past was.entries;
      behind = sym (none_left s o m all) ∙ answers_past (answers_left s m all) _ list i others past was.behind;
      goes = answers_past (λ k. c.loop-answer.goes || choice_goes_on k) _ list i others past was.goes;
    }

pub mark_statement-mark_action-requires : goal.mark_statement-mark_action-requires
mark_statement-mark_action-requires t c =
    (subst (NamedText (scope_in c.args.names.now)) (acted c.args.statement.now c.in-Act.action c.in-Act.is falls) c.requires).0

pub mark_statement-mark_decision-requires : goal.mark_statement-mark_decision-requires
mark_statement-mark_decision-requires t c =
    let s = scope_in c.args.names.now in
    (search (rules, the_lemmas), (subst (NamedText s) (decided c.args.statement.now c.in-Decide.decision c.in-Decide.is falls) c.requires).1)

pub mark_statement-returns-in_ok-set-in-Act : goal.mark_statement-returns-in_ok-set-in-Act
mark_statement-returns-in_ok-set-in-Act t c =
    let s = scope_in c.args.names.now in
    let m = c.args.set in
    let x = c.args.statement.now in
    let a = c.in-Act.action in
    let is = sym (acted x a c.in-Act.is falls) in
    let told = c.in_ok-set-in-Act.ensures in
    record {
      sets = told.sets ∙ ap (λ l. c.args.sets.now.items ++ l) (sym (append-nil (action_sets s m (action_of a)))) ∙ ap (λ t. c.args.sets.now.items ++ text_sets s m t) is;
      entries = ap (λ t. met s m t c.args.entries.now.items) is;
      behind = told.behind ∙ ap (left s m) is;
      goes = λ rest. ap goes_on (acted x a c.in-Act.is rest);
    }

pub mark_statement-returns-in-Decide : goal.mark_statement-returns-in-Decide
mark_statement-returns-in-Decide t c =
    let s = scope_in c.args.names.now in
    let m = c.args.set in
    let x = c.args.statement.now in
    let d = c.in-Decide.decision in
    let r = c.mark_decision.result in
    let is = sym (decided x d c.in-Decide.is falls) in
    record {
      sets = on_ok_weaker r
          (λ f. f ∙ ap (λ l. c.args.sets.now.items ++ l) (sym (append-nil (decision_sets s m (question_in d) (choice_of d)))) ∙ ap (λ t. c.args.sets.now.items ++ text_sets s m t) is)
          c.mark_decision.ensures.sets;
      entries = on_ok_weaker r (λ f. f ∙ ap (λ t. met s m t c.args.entries.now.items) is) c.mark_decision.ensures.entries;
      behind = IfOk-weaker r _ _ (λ v f. f ∙ ap (left s m) is) c.mark_decision.ensures.behind;
      goes = IfOk-weaker r _ _ (λ v f rest. ap goes_on (decided x d c.in-Decide.is rest) ∙ ap (λ b. b && goes_on rest) (sym f)) c.mark_decision.ensures.goes;
    }

pub mark_text-loop-statement-init : goal.mark_text-loop-statement-init
mark_text-loop-statement-init t c =
    let s = scope_in c.args.names.now in
    let m = c.args.set in
    let end = end_text c.args.transition.now.end in
    let is = ap (λ l. statements_before l end) c.deref-statement-items.ensures.value ∙ sym (text_of-is c.args.transition.now) in
    record {
      sets = ap (λ t. c.args.sets.now.items ++ text_sets s m t) is;
      entries = ap (λ t. met s m t c.args.entries.now.items) is;
      goes = ap goes_on is;
      behind = ap (left s m) is;
      named = subst (NamedText s) (sym is) c.requires;
    }

pub mark_text-mark_statement-requires : goal.mark_text-mark_statement-requires
mark_text-mark_statement-requires t c =
    let s = scope_in c.args.names.now in
    let m = c.loop-statement.set in
    let list = c.deref-statement-items.result.now in
    let i = c.loop-statement.statement-index in
    let x = c.statement-item.result in
    let e = end_text c.args.transition.now.end in
    let whole = statements_before (drop i list) e in
    let rest = statements_before (drop (i + 1) list) e in
    let is = one_statement list i x e c.loop-statement-test.true c.statement-item.is in
    let was = c.loop-statement.invariant in
    (search (rules, the_lemmas), statement_named s (λ (n : ℕ). n) x whole rest is [] was.named)

pub mark_text-loop-statement-preserved : goal.mark_text-loop-statement-preserved
mark_text-loop-statement-preserved t c =
    let s = scope_in c.args.names.now in
    let m = c.loop-statement.set in
    let list = c.deref-statement-items.result.now in
    let i = c.loop-statement.statement-index in
    let x = c.statement-item.result in
    let e = end_text c.args.transition.now.end in
    let whole = statements_before (drop i list) e in
    let rest = statements_before (drop (i + 1) list) e in
    let is = one_statement list i x e c.loop-statement-test.true c.statement-item.is in
    let was = c.loop-statement.invariant in
    let n = c.in_ok-behind.behind.set in
    let told = c.in_ok-behind.ensures in
    record {
      sets = rest_sets s x whole rest is m n told.behind c.loop-statement.sets.items c.mark_statement.new.sets.items _ told.sets was.sets;
      entries = rest_met s x whole rest is m n told.behind c.loop-statement.entries.items c.mark_statement.new.entries.items _ told.entries was.entries;
      goes = rest_goes x whole rest is c.loop-statement.goes c.in_ok-behind.behind.goes_on c.both-goes.result c.both-goes.ensures (told.goes rest) _ was.goes;
      behind = rest_left s x whole rest is m n told.behind _ was.behind;
      named = rest_named s (λ (n : ℕ). n) x whole rest is [] was.named;
    }

pub mark_text-mark_end-requires : goal.mark_text-mark_end-requires
mark_text-mark_end-requires t c =
    let s = scope_in c.args.names.now in
    let list = c.deref-statement-items.result.now in
    let i = c.loop-statement.statement-index in
    subst (λ o. NamedText s (end_text o)) c.in-Some.is
    (subst (λ l. NamedText s (statements_before l (end_text c.args.transition.now.end))) (drop_all i list c.loop-statement-test.false) c.loop-statement.invariant.named)

pub mark_text-returns-in_ok-set-in-Some : goal.mark_text-returns-in_ok-set-in-Some
mark_text-returns-in_ok-set-in-Some t c =
    let s = scope_in c.args.names.now in
    let m = c.loop-statement.set in
    let now = c.loop-statement.sets.items in
    let es = c.loop-statement.entries.items in
    let b = c.loop-statement.goes in
    let list = c.deref-statement-items.result.now in
    let i = c.loop-statement.statement-index in
    let end = end_text c.args.transition.now.end in
    let past = c.loop-statement-test.false in
    let was = c.loop-statement.invariant in
    let f = λ (t : Text). now ++ text_sets s m t in
    let g = λ (t : Text). met s m t es in
    let h = λ (t : Text). b && goes_on t in
    let is = sym (ap end_text c.in-Some.is) in
    let told = c.in_ok-set-in-Some.ensures in
    record {
      sets = told.sets ∙ ap f is ∙ statements_past f _ list i end past was.sets;
      entries = told.entries ∙ ap g is ∙ statements_past g _ list i end past was.entries;
      behind = told.behind ∙ ap (left s m) is ∙ statements_past (left s m) _ list i end past was.behind;
      goes = sym (and-false b) ∙ ap h is ∙ statements_past h _ list i end past was.goes;
    }

pub mark_text-returns-in-None : goal.mark_text-returns-in-None
mark_text-returns-in-None t c =
    let s = scope_in c.args.names.now in
    let m = c.loop-statement.set in
    let now = c.loop-statement.sets.items in
    let es = c.loop-statement.entries.items in
    let b = c.loop-statement.goes in
    let list = c.deref-statement-items.result.now in
    let i = c.loop-statement.statement-index in
    let end = end_text c.args.transition.now.end in
    let past = c.loop-statement-test.false in
    let was = c.loop-statement.invariant in
    let f = λ (t : Text). now ++ text_sets s m t in
    let g = λ (t : Text). met s m t es in
    let h = λ (t : Text). b && goes_on t in
    let is = sym (ap end_text c.in-None.is) in
    record {
      sets = sym (append-nil now) ∙ ap f is ∙ statements_past f _ list i end past was.sets;
      entries = ap g is ∙ statements_past g _ list i end past was.entries;
      behind = ap (left s m) is ∙ statements_past (left s m) _ list i end past was.behind;
      goes = sym (and-true b) ∙ ap h is ∙ statements_past h _ list i end past was.goes;
    }
