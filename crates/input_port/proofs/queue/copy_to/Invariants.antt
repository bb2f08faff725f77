use Rattle.std.proofs.Common.{◌≡◌, ◌++◌}
use Rattle.input_port.proofs.queue.copy_to.Given as goal

abbrev pub invariant-loop-item : goal.invariant-loop-item
invariant-loop-item l = record {
  copied : l.copies.items ++ l.item-iterator ≡ l.fn.copies.items ++ l.items.items;
  capacity : l.copies.capacity ≡ l.fn.copies.capacity;
}
