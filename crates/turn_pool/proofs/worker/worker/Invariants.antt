use Rattle.turn_pool.specs.Turns.{NoneToRun}
use Rattle.turn_pool.proofs.worker.worker.Given as goal

-- the worker's room holds no turn that hasn't run
abbrev pub invariant-loop : goal.invariant-loop
invariant-loop g l = NoneToRun l.room
