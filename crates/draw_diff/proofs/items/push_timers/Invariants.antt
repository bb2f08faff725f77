use Rattle.std.proofs.Common.{◌≡◌, ◌++◌, drop, map}
use Rattle.std.specs.List.{flat_map}
use Rattle.draw_diff.specs.Items.{item_of, timer_item}
use Rattle.draw_diff.proofs.items.push_timers.Given as goal

abbrev pub invariant-loop-timer : goal.invariant-loop-timer
invariant-loop-timer l =
    map item_of l.items.items ++ map (timer_item l.process) (drop l.timer-index l.timers) ≡ map item_of l.initial.items.items ++ map (timer_item l.process) l.timers
