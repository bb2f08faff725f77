use Rattle.std.proofs.Common.{◌≡◌, ◌++◌, take, drop}
use Rattle.circular_buffer.specs.Buffer.{buffer}
use Rattle.input_port.specs.Queue.{without_timer}
use Rattle.input_port.proofs.queue.remove_timer.Given as goal

abbrev pub invariant-loop-moved : goal.invariant-loop-moved
invariant-loop-moved l = l.items ≡ buffer (drop l._moved l.fn.items.items ++ without_timer (take l._moved l.fn.items.items) l.timer.0) l.fn.items.capacity
