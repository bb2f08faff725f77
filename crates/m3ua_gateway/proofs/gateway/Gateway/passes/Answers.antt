use Rattle.std.proofs.Common.{◌≡◌, ◌≤◌, true, false, length, sym, ap, subst, ◌∙◌, arith}
use Rattle.m3ua_gateway.specs.declared.states.State.TheVariants as state
use Rattle.m3ua_gateway.specs.States.{server_in, is_pending, is_active}
use Rattle.m3ua_gateway.specs.Life.{Life, Account, GREATEST, account_with, standing, after_delivery, while_pending}
use Rattle.m3ua_gateway.proofs.QueueLaws.{sent_one, kept_one, kept_sent, when_active, when_pending, when_idle}
use Rattle.m3ua_gateway.proofs.gateway.Gateway.passes.Goals as goal

pub returns-then-is_active-clause-account : goal.returns-then-is_active-clause-account
returns-then-is_active-clause-account c =
    let few_lost : c.args.self.now.lost ≤ GREATEST = subst (λ (a : Account). a.lost ≤ GREATEST) c.self.view_is (omega arith) in
    let few_refused : c.args.self.now.refused ≤ GREATEST = subst (λ (a : Account). a.refused ≤ GREATEST) c.self.view_is (omega arith) in
    let now = c.args.self.now in
    let at : after_delivery (standing c.args.self.now.holds) c.args.msu state.Active ≡ after_delivery (standing c.args.self.now.holds) c.args.msu c.args.self.now.holds.state =
    when_active (standing now.holds) c.args.msu now.holds.state (subst (λ (a : Account). is_active a.holds.state ≡ true) c.self.view_is (sym c.is_active.ensures ∙ c.if-is_active.true)) in
    sent_one now c.args.msu few_lost few_refused ∙ ap (account_with now) at

pub returns-then-is_active-clause-sent : goal.returns-then-is_active-clause-sent
returns-then-is_active-clause-sent c =
    let now = c.args.self.now in
    let at : after_delivery (standing c.args.self.now.holds) c.args.msu state.Active ≡ after_delivery (standing c.args.self.now.holds) c.args.msu c.args.self.now.holds.state =
    when_active (standing now.holds) c.args.msu now.holds.state (subst (λ (a : Account). is_active a.holds.state ≡ true) c.self.view_is (sym c.is_active.ensures ∙ c.if-is_active.true)) in
    ap (λ (l : Life). l.sent) at

pub returns-then-is_active-clause-lost : goal.returns-then-is_active-clause-lost
returns-then-is_active-clause-lost c =
    let now = c.args.self.now in
    let at : after_delivery (standing c.args.self.now.holds) c.args.msu state.Active ≡ after_delivery (standing c.args.self.now.holds) c.args.msu c.args.self.now.holds.state =
    when_active (standing now.holds) c.args.msu now.holds.state (subst (λ (a : Account). is_active a.holds.state ≡ true) c.self.view_is (sym c.is_active.ensures ∙ c.if-is_active.true)) in
    ap (λ (l : Life). length l.lost) at

pub returns-then-is_pending-clause-account : goal.returns-then-is_pending-clause-account
returns-then-is_pending-clause-account c =
    let few_lost : c.args.self.now.lost ≤ GREATEST = subst (λ (a : Account). a.lost ≤ GREATEST) c.self.view_is (omega arith) in
    let few_refused : c.args.self.now.refused ≤ GREATEST = subst (λ (a : Account). a.refused ≤ GREATEST) c.self.view_is (omega arith) in
    let now = c.args.self.now in
    let at : while_pending (standing c.args.self.now.holds) c.args.msu ≡ after_delivery (standing c.args.self.now.holds) c.args.msu c.args.self.now.holds.state =
    when_pending (standing now.holds) c.args.msu now.holds.state (subst (λ (a : Account). is_pending (server_in a.holds.state) ≡ true) c.self.view_is (sym c.is_pending.ensures ∙ c.if-is_pending.true)) in
    c.keep.ensures.account ∙ kept_one now c.args.msu few_refused ∙ ap (account_with now) at

pub returns-then-is_pending-clause-sent : goal.returns-then-is_pending-clause-sent
returns-then-is_pending-clause-sent c =
    let now = c.args.self.now in
    let at : while_pending (standing c.args.self.now.holds) c.args.msu ≡ after_delivery (standing c.args.self.now.holds) c.args.msu c.args.self.now.holds.state =
    when_pending (standing now.holds) c.args.msu now.holds.state (subst (λ (a : Account). is_pending (server_in a.holds.state) ≡ true) c.self.view_is (sym c.is_pending.ensures ∙ c.if-is_pending.true)) in
    c.keep.ensures.sent ∙ kept_sent now.holds c.args.msu ∙ ap (λ (l : Life). l.sent) at

pub returns-then-is_pending-clause-lost : goal.returns-then-is_pending-clause-lost
returns-then-is_pending-clause-lost c =
    let now = c.args.self.now in
    let at : while_pending (standing c.args.self.now.holds) c.args.msu ≡ after_delivery (standing c.args.self.now.holds) c.args.msu c.args.self.now.holds.state =
    when_pending (standing now.holds) c.args.msu now.holds.state (subst (λ (a : Account). is_pending (server_in a.holds.state) ≡ true) c.self.view_is (sym c.is_pending.ensures ∙ c.if-is_pending.true)) in
    c.keep.ensures.lost ∙ ap (λ (l : Life). length l.lost) at

pub returns-else-is_pending-clause-account : goal.returns-else-is_pending-clause-account
returns-else-is_pending-clause-account c =
    let now = c.args.self.now in
    let at : after_delivery (standing c.args.self.now.holds) c.args.msu state.Down ≡ after_delivery (standing c.args.self.now.holds) c.args.msu c.args.self.now.holds.state =
    when_idle (standing now.holds) c.args.msu now.holds.state (subst (λ (a : Account). is_active a.holds.state ≡ false) c.self.view_is (sym c.is_active.ensures ∙ c.if-is_active.false))
    (subst (λ (a : Account). is_pending (server_in a.holds.state) ≡ false) c.self.view_is (sym c.is_pending.ensures ∙ c.if-is_pending.false)) in
    c.lose.ensures.account ∙ ap (account_with now) at

pub returns-else-is_pending-clause-sent : goal.returns-else-is_pending-clause-sent
returns-else-is_pending-clause-sent c =
    let now = c.args.self.now in
    let at : after_delivery (standing c.args.self.now.holds) c.args.msu state.Down ≡ after_delivery (standing c.args.self.now.holds) c.args.msu c.args.self.now.holds.state =
    when_idle (standing now.holds) c.args.msu now.holds.state (subst (λ (a : Account). is_active a.holds.state ≡ false) c.self.view_is (sym c.is_active.ensures ∙ c.if-is_active.false))
    (subst (λ (a : Account). is_pending (server_in a.holds.state) ≡ false) c.self.view_is (sym c.is_pending.ensures ∙ c.if-is_pending.false)) in
    c.lose.ensures.sent ∙ ap (λ (l : Life). l.sent) at

pub returns-else-is_pending-clause-lost : goal.returns-else-is_pending-clause-lost
returns-else-is_pending-clause-lost c =
    let now = c.args.self.now in
    let at : after_delivery (standing c.args.self.now.holds) c.args.msu state.Down ≡ after_delivery (standing c.args.self.now.holds) c.args.msu c.args.self.now.holds.state =
    when_idle (standing now.holds) c.args.msu now.holds.state (subst (λ (a : Account). is_active a.holds.state ≡ false) c.self.view_is (sym c.is_active.ensures ∙ c.if-is_active.false))
    (subst (λ (a : Account). is_pending (server_in a.holds.state) ≡ false) c.self.view_is (sym c.is_pending.ensures ∙ c.if-is_pending.false)) in
    c.lose.ensures.lost ∙ ap (λ (l : Life). length l.lost) at
