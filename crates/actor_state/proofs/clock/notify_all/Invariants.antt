use Rattle.std.proofs.Common.{◌≡◌, drop}
use Rattle.actor_machine.specs.Step.{notified}
use Rattle.actor_state.proofs.clock.notify_all.Given as goal

abbrev pub invariant-loop-one : goal.invariant-loop-one
invariant-loop-one l = notified l.actors (drop l.one-index l.due) ≡ notified l.initial.actors l.due
