use Rattle.std.proofs.Common.{arith}
use Rattle.resend_store.proofs.Weights.{octets-take-le}
use Rattle.resend_store.proofs.store.Store.send_one.Goals as goal

pub overflow_add-self : goal.overflow_add-self
overflow_add-self c =
    omega (arith, octets-take-le c.self.inside.sent c.self.inside.kept.items c.self.invariant.messages (omega arith))
