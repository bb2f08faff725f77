use Rattle.std.proofs.Common.{true, false, ap, ◌∙◌}
use Rattle.m3ua_gateway.specs.Life.{Account, result_of, happens}
use Rattle.m3ua_gateway.proofs.QueueLaws.{released}
use Rattle.m3ua_gateway.proofs.gateway.Gateway.released.Goals as goal

pub returns-then-releases : goal.returns-then-releases
returns-then-releases c =
    let s = c.self.inside in
    let a : Account = record { holds = record { state = s.state; kept = s.kept.items; waiting = s.waiting.items }; lost = s.lost; refused = s.refused } in
    c.as_slice.ensures.value ∙ released a c.args.happening c.step-state.result.0 c.step-state.result.1.now c.releases.result true c.step-state.ensures c.releases.ensures c.if-releases.true
    ∙ ap (λ (b : Account). (result_of b (happens c.args.happening)).sent) c.self.view_is

pub returns-else-releases : goal.returns-else-releases
returns-else-releases c =
    let s = c.self.inside in
    let a : Account = record { holds = record { state = s.state; kept = s.kept.items; waiting = s.waiting.items }; lost = s.lost; refused = s.refused } in
    released a c.args.happening c.step-state.result.0 c.step-state.result.1.now c.releases.result false c.step-state.ensures c.releases.ensures c.if-releases.false
    ∙ ap (λ (b : Account). (result_of b (happens c.args.happening)).sent) c.self.view_is
