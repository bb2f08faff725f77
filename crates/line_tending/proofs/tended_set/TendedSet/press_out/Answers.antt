use Rattle.std.proofs.Common.{◌∙◌, sym, true≢false}
use Rattle.std.proofs.lemmas.Result.{on_ok_weaker}
use Rattle.line_tending.proofs.Acting.{on_ok_so}
use Rattle.line_tending.proofs.tended_set.TendedSet.press_out.Goals as goal

pub returns-then-not-starts_out-clause-outage : goal.returns-then-not-starts_out-clause-outage
returns-then-not-starts_out-clause-outage c = λ out. absurd (true≢false (sym out ∙ (sym c.starts_out.ensures ∙ c.if-not-starts_out.true)))

pub returns-clause-outage : goal.returns-clause-outage
returns-clause-outage c = on_ok_weaker c.offer.result (λ was out. was) c.offer.ensures.given

pub returns-clause-none : goal.returns-clause-none
returns-clause-none c = on_ok_so c.offer.result (λ off. absurd (true≢false (sym (sym c.starts_out.ensures ∙ c.if-not-starts_out.false) ∙ off)))
