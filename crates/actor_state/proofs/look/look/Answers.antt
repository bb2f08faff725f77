use Rattle.std.proofs.Common.{rules}
use Rattle.actor_machine.specs.Looking.{looks}
use Rattle.actor_state.proofs.look.look.Goals as goal

pub returns : goal.returns
unfolding looks
returns c = search rules
