use Rattle.std.proofs.Common.{◌∙◌, sym, true≢false}
use Rattle.std.proofs.lemmas.Result.{on_ok_weaker}
use Rattle.line_tending.proofs.Acting.{on_ok_so}
use Rattle.line_tending.proofs.tended_set.TendedSet.resume.Goals as goal

pub returns-then-not-resumes-clause-gives : goal.returns-then-not-resumes-clause-gives
returns-then-not-resumes-clause-gives c = λ so. absurd (true≢false (sym so ∙ (sym c.resumes.ensures ∙ c.if-not-resumes.true)))

pub returns-clause-gives : goal.returns-clause-gives
returns-clause-gives c = on_ok_weaker c.offer.result (λ was so. was) c.offer.ensures.given

pub returns-clause-rests : goal.returns-clause-rests
returns-clause-rests c = on_ok_so c.offer.result (λ off. absurd (true≢false (sym (sym c.resumes.ensures ∙ c.if-not-resumes.false) ∙ off)))
