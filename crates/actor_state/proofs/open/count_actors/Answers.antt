use Rattle.std.proofs.Common.{refl, arith}
use Rattle.actor_state.proofs.Opened.{few_more, few_here, count_more, count_done}
use Rattle.actor_state.proofs.open.count_actors.Goals as goal

pub loop-process-init : goal.loop-process-init
loop-process-init c = (refl, c.requires.few, omega arith)

pub overflow_add-count : goal.overflow_add-count
overflow_add-count c =
    let here = few_here c.loop-process.process-index c.args.processes.now c.process-item.result c.loop-process-test.true c.process-item.is c.loop-process.invariant.1 in
    omega (arith, here.instances, c.loop-process.invariant.2, c.loop-process-test.true, c.requires.count)

pub loop-process-preserved : goal.loop-process-preserved
loop-process-preserved c =
    let ps = c.args.processes.now in
    let at = c.loop-process.process-index in
    let here = few_here at ps c.process-item.result c.loop-process-test.true c.process-item.is c.loop-process.invariant.1 in (
      count_more at c.loop-process.count ps c.process-item.result c.loop-process-test.true c.process-item.is c.loop-process.invariant.0,
      few_more at ps c.process-item.result c.loop-process-test.true c.loop-process.invariant.1,
      omega (arith, here.instances, c.loop-process.invariant.2),
    )

pub returns : goal.returns
returns c = count_done c.loop-process.process-index c.loop-process.count c.args.processes.now c.loop-process-test.false c.loop-process.invariant.0
