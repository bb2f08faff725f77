use Rattle.std.proofs.Common.{◌∙◌, arith}
use Rattle.su_octets.proofs.FrameLaws.{bad_check, differ}
use Rattle.su_octets.proofs.frames.fault_of.Goals as goal

pub returns-then-ne-clause-fault : goal.returns-then-ne-clause-fault
returns-then-ne-clause-fault c =
    bad_check c.args.octets.now c.split_at.result.0.now c.split_at.result.1.now c.check_bits.result (omega arith, omega arith) c.split_at.ensures.front c.split_at.ensures.back
    c.check_bits.ensures (λ same. differ c.ne.result c.as_slice.result.now c.split_at.result.1.now c.if-ne.true c.ne.ensures (c.as_slice.ensures ∙ same))
