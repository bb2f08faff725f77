use Rattle.std.proofs.Common.{rules}
use Rattle.actor_machine.specs.Effects.{without_timers}
use Rattle.actor_state.proofs.effects.reset_all.Goals as goal

pub returns : goal.returns
unfolding without_timers
returns c = search rules
