use Rattle.std.proofs.Common.{ap, arith}
use Rattle.input_port.proofs.Queues.{length-IsQueue}
use Rattle.input_port.proofs.queue.Port.len.Goals as goal

pub returns-clause-in_range : goal.returns-clause-in_range
returns-clause-in_range c =
    omega (arith, length-IsQueue c.self.invariant.0, c.len.ensures, ap (λ q. q.capacity) c.self.view_is)
