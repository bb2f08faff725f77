use Rattle.std.proofs.Common.{◌≡◌, ◌++◌, take, drop}
use Rattle.circular_buffer.specs.Buffer.{buffer}
use Rattle.input_port.proofs.queue.move_to_back.Given as goal

abbrev pub invariant-loop-moved : goal.invariant-loop-moved
invariant-loop-moved l = l.items ≡ buffer (drop l._moved l.fn.items.items ++ take l._moved l.fn.items.items) l.fn.items.capacity
