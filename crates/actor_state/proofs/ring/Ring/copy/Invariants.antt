use Rattle.std.proofs.Common.{◌≡◌, ◌++◌}
use Rattle.actor_state.proofs.ring.Ring.copy.Given as goal

abbrev pub invariant-loop-emitted : goal.invariant-loop-emitted
invariant-loop-emitted l = record {
  copied : l.items.items ++ l.emitted-iterator ≡ l.self.items;
  capacity : l.items.capacity ≡ l.self.capacity;
}
