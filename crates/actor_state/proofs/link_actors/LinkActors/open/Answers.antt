use Rattle.std.proofs.Common.{rules}
use Rattle.actor_machine.specs.Kept.{opened}
use Rattle.actor_state.proofs.link_actors.LinkActors.open.Goals as goal

pub returns : goal.returns
unfolding opened
returns c = search rules
