use Rattle.std.proofs.Common.{◌++◌, sym, ap}
use Rattle.bit_line.proofs.SendLaws as laws
use Rattle.bit_line.proofs.stuffer.push_stuffed.Goals as goal

pub returns-then-not-bit-clause-packed : goal.returns-then-not-bit-clause-packed
returns-then-not-bit-clause-packed c before sent h count packed =
    laws.packed_to _ _ _ _ _ (ap (λ l. l ++ h) (sym (laws.stuffed-when_zero c.args.bit sent c.if-not-bit.true))) (c.push.ensures.packed before _ packed)

pub returns-then-not-bit-clause-ones : goal.returns-then-not-bit-clause-ones
returns-then-not-bit-clause-ones c sent count = laws.trailing-when_zero c.args.bit sent c.if-not-bit.true

pub returns-then-ones-eq4-clause-packed : goal.returns-then-ones-eq4-clause-packed
returns-then-ones-eq4-clause-packed c before sent h count packed =
    laws.packed_to _ _ _ _ _ (ap (λ l. l ++ h) (sym (laws.stuffed-when_five c.args.bit sent c.args.ones c.if-not-bit.false c.if-ones-eq4.true count)))
    (c.push-then-ones-eq4.ensures.packed before _ (c.push.ensures.packed before _ packed))

pub returns-then-ones-eq4-clause-ones : goal.returns-then-ones-eq4-clause-ones
returns-then-ones-eq4-clause-ones c sent count = laws.trailing-when_five c.args.bit sent c.args.ones c.if-not-bit.false c.if-ones-eq4.true count

pub returns-clause-packed : goal.returns-clause-packed
returns-clause-packed c before sent h count packed =
    laws.packed_to _ _ _ _ _ (ap (λ l. l ++ h) (sym (laws.stuffed-when_other c.args.bit sent c.args.ones c.if-not-bit.false c.if-ones-eq4.false count)))
    (c.push.ensures.packed before _ packed)

pub returns-clause-ones : goal.returns-clause-ones
returns-clause-ones c sent count = laws.trailing-when_other c.args.bit sent c.args.ones c.if-not-bit.false c.if-ones-eq4.false count
