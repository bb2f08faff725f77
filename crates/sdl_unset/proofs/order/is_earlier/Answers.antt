use Rattle.std.proofs.Common.{refl, sym, arith, inr}
use Rattle.sdl_unset.proofs.Orders.{earlier_read}
use Rattle.sdl_unset.proofs.order.is_earlier.Goals as goal

pub returns-then-precedes-clause-earlier : goal.returns-then-precedes-clause-earlier
returns-then-precedes-clause-earlier c = λ _.
    earlier_read c.args.path.now c.args.other.now c.loop-place.place _ _ c.loop-place.invariant c.loop-place-test.true c.requires (c.if-precedes.ensures.first refl)

pub returns-then-precedes-2-clause-not_earlier : goal.returns-then-precedes-2-clause-not_earlier
returns-then-precedes-2-clause-not_earlier c = λ _.
    inr (earlier_read c.args.other.now c.args.path.now c.loop-place.place _ _ (sym c.loop-place.invariant) (omega (arith, c.loop-place-test.true, c.requires)) (sym c.requires)
    (c.if-precedes-2.ensures.first refl))
