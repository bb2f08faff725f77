use Rattle.std.proofs.Common.{◌∙◌}
use Rattle.actor_state.proofs.Offering.{offered_both, offered_not}
use Rattle.actor_state.proofs.offer.is_offered.Goals as goal

pub returns-then-some_route_offers : goal.returns-then-some_route_offers
returns-then-some_route_offers c =
    offered_both c.args.set.now _ _ _ _
    (cc (c.some_route_offers.ensures, c.if-some_route_offers.true, c.as_slice.ensures, c.draft.ensures.value))
    (cc (c.takes.ensures, c.as_slice-then-some_route_offers.ensures, c.draft-then-some_route_offers.ensures.value))

pub returns-else-some_route_offers : goal.returns-else-some_route_offers
returns-else-some_route_offers c =
    c.if-some_route_offers.false
    ∙ offered_not c.args.set.now _ _ _ (cc (c.some_route_offers.ensures, c.if-some_route_offers.false, c.as_slice.ensures, c.draft.ensures.value))
