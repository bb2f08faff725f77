use Rattle.std.proofs.Common.{rules}
use Rattle.actor_machine.specs.Refusals.{refuses}
use Rattle.actor_state.proofs.link_actors.LinkActors.take_refusal.Goals as goal

pub returns-then-len-eq0 : goal.returns-then-len-eq0
unfolding refuses
returns-then-len-eq0 c = search rules

pub returns-else-len-eq0 : goal.returns-else-len-eq0
unfolding refuses
returns-else-len-eq0 c = search rules
