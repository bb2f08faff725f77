use Rattle.std.proofs.Common.{◌≡◌}
use Rattle.actor_machine.specs.Effects.{without_first_timers}
use Rattle.tick_wheel.specs.Turning.{timers_of}
use Rattle.actor_state.proofs.effects.reset_all.Given as goal

abbrev pub invariant-loop-timer : goal.invariant-loop-timer
invariant-loop-timer l = timers_of l.wheel ≡ without_first_timers (timers_of l.initial.wheel) l.actor l.timer
