use Rattle.std.proofs.Common.{◌≡◌, ◌++◌, drop}
use Rattle.std.specs.List.{AllByRecursion}
use Rattle.actor_machine.specs.Kept.{opened_from}
use Rattle.actor_state.specs.Opening.{HasFew}
use Rattle.actor_state.proofs.open.opened_actors.Given as goal

abbrev pub invariant-loop-process : goal.invariant-loop-process
invariant-loop-process l =
    (l.actors.items ++ opened_from l.port l.process-index (drop l.process-index l.processes) ≡ opened_from l.port 0 l.processes)
    × AllByRecursion HasFew (drop l.process-index l.processes)
    × (l.number ≡ l.process-index)
