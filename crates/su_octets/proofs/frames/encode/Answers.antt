use Rattle.su_octets.proofs.FrameLaws.{encoded}
use Rattle.su_octets.proofs.frames.encode.Goals as goal

pub returns-clause-frame : goal.returns-clause-frame
returns-clause-frame c =
    encoded c.args.unit.now c.head-head.result c.indicator.result _ _ _ _ _ _ _ _ _ _ c.check_bits.result c.requires c.clear.ensures c.push.ensures.items c.push-2.ensures.items
    c.push-3.ensures.items c.push_body.ensures c.head-head.ensures (rw c.body_len.ensures at c.indicator.ensures) c.as_slice.ensures.value c.check_bits.ensures
    c.push-4.ensures.items c.push-5.ensures.items
