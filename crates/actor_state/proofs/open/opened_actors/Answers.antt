use Rattle.std.proofs.Common.{List, ◌++◌, refl, ap, arith}
use Rattle.actor_machine.specs.Kept.{opened_from}
use Rattle.actor_machine.specs.declared.actor.Actor.{Actor}
use Rattle.actor_state.proofs.Opened.{processes_more, few_more, few_here, processes_done, actors_few}
use Rattle.actor_state.proofs.open.opened_actors.Goals as goal

pub loop-process-init : goal.loop-process-init
loop-process-init c = (ap (λ (xs : List Actor). xs ++ opened_from c.args.port 0 c.args.processes.now) c.in_ok-actors.ensures.items, c.requires.few, refl)

pub open_process-requires-clause-few : goal.open_process-requires-clause-few
open_process-requires-clause-few c =
    few_here c.loop-process.process-index c.args.processes.now c.process-item.result c.loop-process-test.true c.process-item.is c.loop-process.invariant.1

pub overflow_add-number : goal.overflow_add-number
overflow_add-number c = omega (arith, c.loop-process.invariant.2, c.loop-process-test.true, c.requires.count)

pub loop-process-preserved : goal.loop-process-preserved
loop-process-preserved c =
    let ps = c.args.processes.now in
    let at = c.loop-process.process-index in (
      processes_more c.args.port at c.loop-process.number ps c.process-item.result c.loop-process.actors.items _ _ c.loop-process-test.true c.process-item.is
          c.loop-process.invariant.2 c.loop-process.invariant.0 c.in_ok-open_process.ensures,
      few_more at ps c.process-item.result c.loop-process-test.true c.loop-process.invariant.1,
      omega (arith, c.loop-process.invariant.2),
    )

pub returns-clause-actors : goal.returns-clause-actors
returns-clause-actors c =
    processes_done c.args.port c.loop-process.process-index c.args.processes.now c.loop-process.actors.items _ c.loop-process-test.false c.loop-process.invariant.0

pub returns-clause-few : goal.returns-clause-few
returns-clause-few c =
    actors_few c.args.port c.args.processes.now c.loop-process.actors.items c.requires.few c.requires.count
    (processes_done c.args.port c.loop-process.process-index c.args.processes.now c.loop-process.actors.items _ c.loop-process-test.false c.loop-process.invariant.0)
