use Rattle.std.proofs.Common.{ℕ, ◌+◌, Some, sym, ap, ◌∙◌}
use Rattle.m3ua_gateway.specs.Life.{Account}
use Rattle.m3ua_gateway.specs.Life.{counted}
use Rattle.m3ua_gateway.proofs.QueueLaws.{dropped, dropped_none}
use Rattle.m3ua_gateway.proofs.gateway.Gateway.drop_first.Goals as goal

pub returns-in-None-clause-account : goal.returns-in-None-clause-account
returns-in-None-clause-account c =
    c.remove_first.ensures.account ∙ dropped_none c.args.self.now c.args.selection (sym c.in-None.ensures.value) c.remove_first.ensures.counts.0 c.remove_first.ensures.counts.1

pub returns-in-Some-clause-account : goal.returns-in-Some-clause-account
returns-in-Some-clause-account c =
    let s = c.self.inside in
    ap (λ (n : ℕ). record { holds = record { state = s.state; kept = s.kept.items; waiting = s.waiting.items }; lost = s.lost; refused = n }) c.counted-self-inside.ensures
    ∙ ap (λ (a : Account). record { holds = a.holds; lost = a.lost; refused = counted (a.refused + 1) }) (c.self.view_is ∙ c.remove_first.ensures.account)
    ∙ dropped c.args.self.now c.args.selection (Some c.in-Some.msu) (sym c.in-Some.ensures.value) c.remove_first.ensures.counts.0
