use Rattle.std.proofs.Common.{IfSome, IsNone, refl, string_bytes}
use Rattle.line_tending.proofs.Doing.{orders_nothing}
use Rattle.line_play.specs.SetDoing.{stood, Changes, Refuses, MayShow}
use Rattle.line_play.specs.SetOrders.{plain_set_order}
use Rattle.line_play.proofs.SetObeying.{moved, not_some, begun_at, refused_so, agreed_so}
use Rattle.line_play.proofs.set.state.SetState.obey_there.Goals as goal

pub returns-in-Some : goal.returns-in-Some
returns-in-Some g c =
    let may = moved _ _ c.in-Some.is
    (λ o. IfSome o (λ why. Refuses (plain_set_order c.args.order.now) c.args.links.now (stood c.args.self.now) (string_bytes why) (stood c.args.self.now))) c.in_ok-why.ensures.some in
    refused_so c.refuse.result _ _ _ (plain_set_order c.args.order.now) c.args.links.now _ _ _ _ c.as_str.ensures.value (orders_nothing _) may c.refuse.ensures

pub returns-in-Some-2 : goal.returns-in-Some-2
returns-in-Some-2 g c =
    let may = moved _ _ c.in-Some-2.is
    (λ o. IfSome o (λ why. Refuses (plain_set_order c.args.order.now) c.args.links.now (stood c.args.self.now) (string_bytes why) (stood c.args.self.now)))
    (c.in_ok-why-2.ensures.some c.args.links.now) in
    begun_at c.refuse-in-Some-2.result _ _ _ _ c.in_ok-why-2.ensures.same
    (refused_so c.refuse-in-Some-2.result _ _ _ (plain_set_order c.args.order.now) c.args.links.now _ _ _ _ c.as_str-in-Some-2.ensures.value
    (orders_nothing _) may c.refuse-in-Some-2.ensures)

pub returns-in-Some-3 : goal.returns-in-Some-3
returns-in-Some-3 g c =
    let may = moved _ _ c.in-Some-3.is
    (λ o. IfSome o (λ why. Refuses (plain_set_order c.args.order.now) c.args.links.now (stood c.args.self.now) (string_bytes why) (stood c.obey_plain.new.self))) c.in_ok-why-3.ensures.refuses in
    begun_at c.refuse-in-Some-3.result _ _ _ _ c.in_ok-why-2.ensures.same
    (refused_so c.refuse-in-Some-3.result _ _ _ (plain_set_order c.args.order.now) c.args.links.now _ _ _ _ c.as_str-in-Some-3.ensures.value
    c.in_ok-why-3.ensures.adds may c.refuse-in-Some-3.ensures)

pub returns-in-None : goal.returns-in-None
returns-in-None g c =
    let may = not_some _ (MayShow (plain_set_order c.args.order.now) c.args.links.now c.args.self.now.tender) c.in_default.not-Some c.in_ok-why.ensures.none in
    let changes = moved _ _ c.in-None.is (λ o. IsNone o → Changes (plain_set_order c.args.order.now) c.args.links.now (stood c.args.self.now) (stood c.obey_plain.new.self)) c.in_ok-why-3.ensures.changes refl in
    begun_at c.answer.result _ _ _ _ c.in_ok-why-2.ensures.same
    (agreed_so c.answer.result _ (plain_set_order c.args.order.now) c.args.links.now _ _ _ _ may c.in_ok-why-3.ensures.adds changes c.answer.ensures)
