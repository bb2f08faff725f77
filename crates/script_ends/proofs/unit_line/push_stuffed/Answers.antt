use Rattle.script_ends.proofs.UnitLaws.{sent_zero, sent_fifth, sent_one}
use Rattle.script_ends.proofs.unit_line.push_stuffed.Goals as goal

pub returns-then-not-bit-clause-sent : goal.returns-then-not-bit-clause-sent
returns-then-not-bit-clause-sent c before sent old = sent_zero before sent _ _ c.args.bit c.args.ones c.if-not-bit.true c.in_ok-push.ensures.items old

pub returns-then-ones-eq4-clause-sent : goal.returns-then-ones-eq4-clause-sent
returns-then-ones-eq4-clause-sent c before sent old =
    sent_fifth before sent _ _ _ c.args.bit c.args.ones c.if-not-bit.false c.if-ones-eq4.true c.in_ok-push.ensures.items c.in_ok-push-2.ensures.items old

pub returns-clause-sent : goal.returns-clause-sent
returns-clause-sent c before sent old =
    sent_one before sent _ _ c.args.bit c.args.ones c.if-not-bit.false c.if-ones-eq4.false c.in_ok-push.ensures.items old
