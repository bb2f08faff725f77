use Rattle.std.proofs.Common.{◌≡◌, ◌≤◌, ◌+◌, length, min, vec_capacity}
use Rattle.tick_wheel.specs.Sizes.{SLOTS}
use Rattle.tick_wheel.specs.Slots.{due_of, visited}
use Rattle.tick_wheel.proofs.look.gather_near.Given as goal

abbrev pub invariant-loop-step : goal.invariant-loop-step
invariant-loop-step l = record {
  within : l.step ≤ min l.ticks SLOTS;
  due : l.due.items ≡ due_of (l.from + l.ticks) l.fn.table (visited l.fn.lists l.from l.step);
  count : l.count ≡ length (visited l.fn.lists l.from l.step);
  capacity : vec_capacity l.due ≡ vec_capacity l.fn.due;
}
