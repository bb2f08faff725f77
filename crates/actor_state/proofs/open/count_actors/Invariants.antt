use Rattle.std.proofs.Common.{◌≡◌, ◌≤◌, ◌*◌, sum_by, take, drop}
use Rattle.std.specs.List.{AllByRecursion}
use Rattle.turn_code.specs.declared.draft.DraftProcess.{DraftProcess}
use Rattle.actor_state.specs.Opening.{HasFew}
use Rattle.actor_state.proofs.open.count_actors.Given as goal

abbrev pub invariant-loop-process : goal.invariant-loop-process
invariant-loop-process l =
    (l.count ≡ sum_by (λ (p : DraftProcess). p.instances) (take l.process-index l.processes))
    × AllByRecursion HasFew (drop l.process-index l.processes)
    × (l.count ≤ l.process-index * 8)
