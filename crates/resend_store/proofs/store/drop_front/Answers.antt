use Rattle.std.proofs.Common.{arith}
use Rattle.resend_store.proofs.Weights.{octets-take-le}
use Rattle.resend_store.proofs.store.drop_front.Goals as goal

pub overflow_add-octets : goal.overflow_add-octets
overflow_add-octets c =
    omega (arith, octets-take-le c.loop-i._i c.args.queue.now.items c.requires.messages (omega arith), c.loop-i.invariant.weight)
