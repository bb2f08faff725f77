use Rattle.std.proofs.Common.{arith}
use Rattle.input_port.proofs.Queues.{IsQueue-none}
use Rattle.input_port.proofs.Rings.{held}
use Rattle.input_port.proofs.queue.Port.new.Goals as goal

pub invariant_of-result : goal.invariant_of-result
invariant_of-result c =
    held c.in_ok-with_capacity.ensures (omega arith) (IsQueue-none c.args.capacity c.requires.least c.requires.most)
