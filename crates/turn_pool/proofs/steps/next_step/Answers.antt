use Rattle.std.proofs.Common.{◌∙◌, ap, arith, length}
use Rattle.actor_machine.specs.Core.{Core}
use Rattle.turn_pool.proofs.Turns.{all_of}
use Rattle.turn_pool.proofs.steps.next_step.Goals as goal

pub returns-clause-next : goal.returns-clause-next
returns-clause-next c room =
    let actors = c.actors-there.ensures.value ∙ ap (λ (w : Core). w.actors) c.state-link.ensures in
    let few = ap length actors in
    all_of c.args.book.now c.loop-actor.actor c.loop-actor.invariant (omega (arith, few, c.loop-actor-test.false))
