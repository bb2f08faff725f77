use Rattle.std.proofs.Common.{rules}
use Rattle.actor_machine.specs.Looking.{begun, given_now, looks}
use Rattle.actor_state.proofs.Looking.{number_found}
use Rattle.actor_state.proofs.turn.begin.Goals as goal

pub returns : goal.returns
unfolding begun given_now looks
returns c =
    let number = number_found c.args.set.now c.args.actor.now.name.process.0 c.args.actor.now.standing c.args.actor.now.port.items in
    search rules
