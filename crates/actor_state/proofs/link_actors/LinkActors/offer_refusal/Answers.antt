use Rattle.std.proofs.Common.{rules}
use Rattle.actor_machine.specs.Refusals.{refuses}
use Rattle.actor_state.proofs.link_actors.LinkActors.offer_refusal.Goals as goal

pub returns : goal.returns
unfolding refuses
returns c = search rules
