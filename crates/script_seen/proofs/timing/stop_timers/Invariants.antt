-- The first timers are no longer active.
use Rattle.std.proofs.Common.{◌≡◌}
use Rattle.tick_wheel.specs.Turning.{timers_of}
use Rattle.actor_machine.specs.Effects.{without_first_timers}
use Rattle.script_seen.proofs.timing.stop_timers.Given as goal

abbrev pub invariant-loop-number : goal.invariant-loop-number
invariant-loop-number l = timers_of l.wheel ≡ without_first_timers (timers_of l.initial.wheel) l.actor l.number
