use Rattle.std.proofs.Common.{ap, ◌∙◌, arith}
use Rattle.m3ua_gateway.specs.declared.states.State.TheVariants as state
use Rattle.m3ua_gateway.specs.Life.{Account, account_with, standing, after_delivery}
use Rattle.m3ua_gateway.proofs.QueueLaws.{lost_one}
use Rattle.m3ua_gateway.proofs.gateway.Gateway.lose.Goals as goal

pub returns-clause-account : goal.returns-clause-account
returns-clause-account c =
    let s = c.self.inside in
    let a : Account = record { holds = record { state = s.state; kept = s.kept.items; waiting = s.waiting.items }; lost = s.lost; refused = s.refused } in
    lost_one a c.args.msu.now c.counted-self-inside.result c.counted-self-inside.ensures (omega arith) ∙ ap (λ (b : Account). account_with b (after_delivery (standing b.holds) c.args.msu.now state.Down)) c.self.view_is
