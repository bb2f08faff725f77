use Rattle.std.proofs.Common.{◌≡◌, List, Some, sym, ap, subst, ◌∙◌}
use Rattle.resend_store.specs.declared.messages.Msu.{Msu}
use Rattle.m3ua_gateway.specs.Life.{Account, first_of, without_first}
use Rattle.m3ua_gateway.specs.Holding.{place_of}
use Rattle.m3ua_gateway.proofs.QueueLaws.{nowhere, stands, same_without}
use Rattle.m3ua_gateway.proofs.gateway.Gateway.remove_first.Goals as goal

pub returns-in-None-clause-value : goal.returns-in-None-clause-value
returns-in-None-clause-value c =
    let ms = c.self.inside.waiting.items in
    sym (nowhere c.args.selection ms (sym (c.in-None.ensures.value ∙ ap (place_of c.args.selection) c.as_slice.ensures.value))).0 ∙ ap (λ (a : Account). first_of c.args.selection a.holds.waiting) c.self.view_is

pub returns-in-None-clause-account : goal.returns-in-None-clause-account
returns-in-None-clause-account c =
    let ms = c.self.inside.waiting.items in
    let same : without_first c.args.selection ms ≡ ms = (nowhere c.args.selection ms (sym (c.in-None.ensures.value ∙ ap (place_of c.args.selection) c.as_slice.ensures.value))).1 in
    same_without c.args.self.now c.args.selection (subst (λ (a : Account). without_first c.args.selection a.holds.waiting ≡ a.holds.waiting) c.self.view_is same)

pub returns-in-Some-clause-value : goal.returns-in-Some-clause-value
returns-in-Some-clause-value c =
    let ms = c.self.inside.waiting.items in
    let place : place_of c.args.selection ms ≡ Some c.in-Some.place = sym (c.in-Some.ensures.value ∙ ap (place_of c.args.selection) c.as_slice.ensures.value) in
    ap (λ (m : Msu). Some m) c.remove.ensures.value ∙ sym (stands c.args.selection ms c.in-Some.place c.remove.result place).first ∙ ap (λ (a : Account). first_of c.args.selection a.holds.waiting) c.self.view_is

pub returns-in-Some-clause-account : goal.returns-in-Some-clause-account
returns-in-Some-clause-account c =
    let s = c.self.inside in
    let ms = c.self.inside.waiting.items in
    let place : place_of c.args.selection ms ≡ Some c.in-Some.place = sym (c.in-Some.ensures.value ∙ ap (place_of c.args.selection) c.as_slice.ensures.value) in
    ap (λ (xs : List Msu). record { holds = record { state = s.state; kept = s.kept.items; waiting = xs }; lost = s.lost; refused = s.refused }) (c.remove.ensures.items ∙ (stands c.args.selection ms c.in-Some.place c.remove.result place).others)
    ∙ ap (λ (a : Account). record { holds = record { state = a.holds.state; kept = a.holds.kept; waiting = without_first c.args.selection a.holds.waiting }; lost = a.lost; refused = a.refused }) c.self.view_is
