use Rattle.std.proofs.Common.{◌≡◌, take}
use Rattle.actor_state.proofs.open.copied_actors.Given as goal

abbrev pub invariant-loop-actor : goal.invariant-loop-actor
invariant-loop-actor l = l.copy.items ≡ take l.actor-index l.actors
