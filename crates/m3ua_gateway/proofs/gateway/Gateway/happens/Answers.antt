use Rattle.std.proofs.Common.{ℕ, ◌+◌, cond, List, [], length, ap, ◌∙◌}
use Rattle.resend_store.specs.declared.messages.Msu.{Msu}
use Rattle.m3ua_gateway.specs.Life.{Account, counted, account_after, happens}
use Rattle.m3ua_gateway.proofs.QueueLaws.{happened}
use Rattle.m3ua_gateway.proofs.gateway.Gateway.happens.Goals as goal

pub returns : goal.returns
returns c =
    let s = c.self.inside in
    let a : Account = record { holds = record { state = s.state; kept = s.kept.items; waiting = s.waiting.items }; lost = s.lost; refused = s.refused } in
    happened a c.args.happening c.step-state.result.0 c.step-state.result.1.now c.releases-release.result c.loses-lose.result c.clear_if-2.new.messages.items c.counted-self-inside.result c.counted-self-inside-2.result
    c.step-state.ensures c.releases-release.ensures c.loses-lose.ensures (c.clear_if-2.ensures.items ∙ ap (λ (xs : List Msu). cond c.loses-lose.result [] xs) c.clear_if.ensures.items)
    (c.counted-self-inside.ensures ∙ ap (λ (n : ℕ). counted (s.lost + n)) (c.count_if.ensures ∙ ap (λ (xs : List Msu). cond {A = ℕ} c.loses-lose.result (length xs) 0) c.as_slice.ensures.value))
    (c.counted-self-inside-2.ensures ∙ ap (λ (n : ℕ). counted (s.refused + n)) c.strange_in.ensures)
    ∙ ap (λ (b : Account). account_after b (happens c.args.happening)) c.self.view_is
