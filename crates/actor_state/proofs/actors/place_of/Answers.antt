use Rattle.std.proofs.Common.{sym}
use Rattle.actor_machine.specs.Core.{names_in}
use Rattle.actor_state.proofs.Naming.{placed_at}
use Rattle.actor_state.proofs.actors.place_of.Goals as goal

pub returns-then-is_called : goal.returns-then-is_called
returns-then-is_called c =
    sym (placed_at c.args.set.now.processes (names_in c.args.actors.now) c.from-likely.result c.args.name c.requires (c.is_called.ensures.0 c.if-is_called.true))
