use Rattle.std.proofs.Common.{rules}
use Rattle.actor_machine.specs.Looking.{skipped}
use Rattle.actor_state.proofs.turn.skip.Goals as goal

pub returns-in-Some-clause-actor : goal.returns-in-Some-clause-actor
unfolding skipped
returns-in-Some-clause-actor c = search rules

pub returns-in-None-clause-actor : goal.returns-in-None-clause-actor
unfolding skipped
returns-in-None-clause-actor c = search rules
