use Rattle.input_port.proofs.Queues.{IsQueue-none}
use Rattle.input_port.proofs.Rings.{held}
use Rattle.input_port.proofs.queue.Port.clear.Goals as goal

pub invariant_of-self : goal.invariant_of-self
invariant_of-self c =
    let old = c.self.invariant.0 in
    held c.clear.ensures c.self.invariant.1 (IsQueue-none c.self.inside.capacity old.least old.most)
