use Rattle.std.proofs.Common.{refl, sym, ap, ◌∙◌, ◌<◌, subst, ℕ}
use Rattle.std.proofs.lemmas.Result.{on_ok_weaker}
use Rattle.line_tending.specs.Came.{came}
use Rattle.line_tending.specs.Rounds.{Adds}
use Rattle.line_tending.specs.Tended.{Tended}
use Rattle.line_tending.specs.declared.came.Came.TheVariants.{Changeover, Declaration, Test, Answer, Own}
use Rattle.line_tending.proofs.Doing.{adds_nothing, adds_same, adds_then, acts_quiet}
use Rattle.line_tending.proofs.Passing.{unheard, of_a_link}
use Rattle.line_tending.proofs.tended_set.TendedSet.heed_message.Goals as goal

pub returns-then-about-link : goal.returns-then-about-link
returns-then-about-link c =
    acts_quiet c.args.self.now c.args.self.now _
    (unheard c.args.self.now.plan c.args.link c.args.msu (Changeover c.in-Changeover.about c.in-Changeover.kind) (sym c.in-Changeover.is ∙ (c.came.ensures ∙ ap (λ (t : Tended). came t.plan.ends c.args.msu) c.self.view_is)) refl)
    (adds_nothing c.args.self.now)

pub returns-then-about-len-2 : goal.returns-then-about-len-2
returns-then-about-len-2 c =
    acts_quiet c.args.self.now c.acknowledge_declaration.new.self _
    (unheard c.args.self.now.plan c.args.link c.args.msu (Declaration c.in-Declaration.about c.in-Declaration.code) (sym c.in-Declaration.is ∙ (c.came.ensures ∙ ap (λ (t : Tended). came t.plan.ends c.args.msu) c.self.view_is)) (of_a_link _ _ (subst (λ (n : ℕ). c.in-Declaration.about < n) c.len-in-Declaration.ensures c.if-about-len-2.true)))
    c.acknowledge_declaration.ensures

pub returns-in_ok-tell-in-Changeover : goal.returns-in_ok-tell-in-Changeover
returns-in_ok-tell-in-Changeover c =
    on_ok_weaker c.hear_changeover.result
    (λ (adds : Adds c.tell.new.self c.hear_changeover.new.self).
    acts_quiet c.args.self.now c.hear_changeover.new.self _
    (unheard c.args.self.now.plan c.args.link c.args.msu (Changeover c.in-Changeover.about c.in-Changeover.kind) (sym c.in-Changeover.is ∙ (c.came.ensures ∙ ap (λ (t : Tended). came t.plan.ends c.args.msu) c.self.view_is)) refl)
    (adds_then c.args.self.now c.tell.new.self c.hear_changeover.new.self (adds_same c.args.self.now c.tell.new.self c.tell.ensures) adds))
    c.hear_changeover.ensures

pub returns-then-about-len-3 : goal.returns-then-about-len-3
returns-then-about-len-3 c =
    acts_quiet c.args.self.now c.answer_test.new.self _
    (unheard c.args.self.now.plan c.args.link c.args.msu (Test c.in-Test.about) (sym c.in-Test.is ∙ (c.came.ensures ∙ ap (λ (t : Tended). came t.plan.ends c.args.msu) c.self.view_is)) (of_a_link _ _ (subst (λ (n : ℕ). c.in-Test.about < n) c.len-in-Test.ensures c.if-about-len-3.true)))
    c.answer_test.ensures

pub returns-in-Own : goal.returns-in-Own
returns-in-Own c =
    on_ok_weaker c.hear_itself.result
    (λ (adds : Adds c.args.self.now c.hear_itself.new.self).
    acts_quiet c.args.self.now c.hear_itself.new.self _
    (unheard c.args.self.now.plan c.args.link c.args.msu Own (sym c.in-Own.is ∙ (c.came.ensures ∙ ap (λ (t : Tended). came t.plan.ends c.args.msu) c.self.view_is)) refl)
    adds)
    c.hear_itself.ensures.adds

pub returns-in-Answer : goal.returns-in-Answer
returns-in-Answer c =
    on_ok_weaker c.hear_answer.result
    (λ (adds : Adds c.args.self.now c.hear_answer.new.self).
    acts_quiet c.args.self.now c.hear_answer.new.self _
    (unheard c.args.self.now.plan c.args.link c.args.msu (Answer c.in-Answer.about) (sym c.in-Answer.is ∙ (c.came.ensures ∙ ap (λ (t : Tended). came t.plan.ends c.args.msu) c.self.view_is)) refl)
    adds)
    c.hear_answer.ensures
