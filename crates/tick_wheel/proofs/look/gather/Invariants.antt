use Rattle.std.proofs.Common.{◌≡◌, ◌≤◌, ◌++◌, take, length, get_or, [], ◌-◌, vec_capacity}
use Rattle.std.specs.List.{slice_get}
use Rattle.tick_wheel.specs.Slots.{due_of}
use Rattle.tick_wheel.proofs.look.gather.Given as goal

abbrev pub invariant-loop-here : goal.invariant-loop-here
invariant-loop-here l =
    let items = get_or l.fn.lists l.slot [] in
    record {
      place : l.here ≡ slice_get items l.count;
      within : l.count ≤ length items;
      due : l.due.items ≡ l.fn.due.items ++ due_of l.clock l.fn.table (take l.count items);
      capacity : vec_capacity l.due ≡ vec_capacity l.fn.due;
    }

abbrev pub decreases-loop-here : goal.decreases-loop-here
decreases-loop-here l = length (get_or l.fn.lists l.slot []) - l.count
