use Rattle.std.proofs.Common.{◌≡◌, ◌≤◌, drop, length}
use Rattle.tick_wheel.specs.Slots.{without_all}
use Rattle.tick_wheel.proofs.Wheel.reset_due.Given as goal

abbrev pub invariant-loop-number : goal.invariant-loop-number
invariant-loop-number l = record {
  within : l.number ≤ length l.fn.self.due;
  left : without_all (drop l.number l.fn.self.due) l.self.deadlines ≡ without_all l.fn.self.due l.fn.self.deadlines;
  clock : l.self.clock ≡ l.fn.self.clock;
  due : l.self.due ≡ l.fn.self.due;
  looked : l.self.looked ≡ l.fn.self.looked;
}
