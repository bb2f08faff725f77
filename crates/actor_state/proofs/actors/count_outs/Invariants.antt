use Rattle.std.proofs.Common.{◌≡◌, ◌≤◌, take}
use Rattle.actor_machine.specs.Core.{outs}
use Rattle.actor_state.proofs.actors.count_outs.Given as goal

abbrev pub invariant-loop-actor : goal.invariant-loop-actor
invariant-loop-actor l = (l.count ≡ outs (take l.actor-index l.actors)) × (l.count ≤ l.actor-index)
