use Rattle.std.proofs.Common.{true, false, length, sym, ap, ◌∙◌}
use Rattle.m3ua_gateway.specs.Life.{account_with}
use Rattle.m3ua_gateway.specs.Life.{Life}
use Rattle.m3ua_gateway.proofs.QueueLaws.{when_labelled}
use Rattle.m3ua_gateway.proofs.gateway.Gateway.delivers.Goals as goal

pub returns-then-is_fit-clause-account : goal.returns-then-is_fit-clause-account
returns-then-is_fit-clause-account c =
    c.passes.ensures.account ∙ ap (account_with c.args.self.now) (when_labelled c.args.self.now c.args.msu true (sym c.is_fit.ensures ∙ c.if-is_fit.true))

pub returns-then-is_fit-clause-sent : goal.returns-then-is_fit-clause-sent
returns-then-is_fit-clause-sent c =
    c.passes.ensures.sent ∙ ap (λ (l : Life). l.sent) (when_labelled c.args.self.now c.args.msu true (sym c.is_fit.ensures ∙ c.if-is_fit.true))

pub returns-then-is_fit-clause-lost : goal.returns-then-is_fit-clause-lost
returns-then-is_fit-clause-lost c =
    c.passes.ensures.lost ∙ ap (λ (l : Life). length l.lost) (when_labelled c.args.self.now c.args.msu true (sym c.is_fit.ensures ∙ c.if-is_fit.true))

pub returns-else-is_fit-clause-account : goal.returns-else-is_fit-clause-account
returns-else-is_fit-clause-account c =
    c.lose.ensures.account ∙ ap (account_with c.args.self.now) (when_labelled c.args.self.now c.args.msu false (sym c.is_fit.ensures ∙ c.if-is_fit.false))

pub returns-else-is_fit-clause-sent : goal.returns-else-is_fit-clause-sent
returns-else-is_fit-clause-sent c =
    c.lose.ensures.sent ∙ ap (λ (l : Life). l.sent) (when_labelled c.args.self.now c.args.msu false (sym c.is_fit.ensures ∙ c.if-is_fit.false))

pub returns-else-is_fit-clause-lost : goal.returns-else-is_fit-clause-lost
returns-else-is_fit-clause-lost c =
    c.lose.ensures.lost ∙ ap (λ (l : Life). length l.lost) (when_labelled c.args.self.now c.args.msu false (sym c.is_fit.ensures ∙ c.if-is_fit.false))
