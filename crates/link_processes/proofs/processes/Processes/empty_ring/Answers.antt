use Rattle.link_processes.specs.Machine.{one_taken, emptied}
use Rattle.link_processes.proofs.Repeats.{goes_on, ends, is_spent, empties}
use Rattle.link_processes.proofs.processes.Processes.empty_ring.Goals as goal

pub loop-left-init : goal.loop-left-init
loop-left-init c = empties c.args.self.now c.waiting-left.result c.waiting-left.ensures

pub loop-left-preserved : goal.loop-left-preserved
loop-left-preserved c =
    goes_on one_taken c.loop-left.left c.loop-left.self c.take_one.new.self (emptied c.args.self.now) c.loop-left.invariant c.loop-left-test.true
    c.if-take_one.ensures.goes c.if-take_one.ensures.processes

pub returns-else-take_one : goal.returns-else-take_one
returns-else-take_one c =
    ends one_taken c.loop-left.left c.loop-left.self c.take_one.new.self (emptied c.args.self.now) c.loop-left.invariant c.loop-left-test.true
    c.if-take_one.ensures.goes c.if-take_one.ensures.processes

pub returns-after-loop-left : goal.returns-after-loop-left
returns-after-loop-left c =
    is_spent one_taken c.loop-left.left c.loop-left.self (emptied c.args.self.now) c.loop-left.invariant c.loop-left-test.false
