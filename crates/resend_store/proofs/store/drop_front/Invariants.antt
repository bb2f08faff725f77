use Rattle.std.proofs.Common.{◌≡◌, drop, take}
use Rattle.std.specs.VecDeque.{deque_capacity}
use Rattle.resend_store.specs.Messages.{octets}
use Rattle.resend_store.proofs.store.drop_front.Given as goal

-- the first _i messages are removed, and their octets are counted
abbrev pub invariant-loop-i : goal.invariant-loop-i
invariant-loop-i l = record {
  left : l.queue.items ≡ drop l._i l.initial.queue.items;
  weight : l.octets ≡ octets (take l._i l.initial.queue.items);
  capacity : deque_capacity l.queue ≡ deque_capacity l.initial.queue;
}
