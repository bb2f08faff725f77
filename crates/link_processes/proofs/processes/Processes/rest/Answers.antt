use Rattle.link_processes.specs.Machine.{moved, rested}
use Rattle.link_processes.proofs.Repeats.{goes_on, ends, is_spent, rests}
use Rattle.link_processes.proofs.processes.Processes.rest.Goals as goal

pub loop-left-init : goal.loop-left-init
loop-left-init c = rests c.args.self.now

pub loop-left-preserved : goal.loop-left-preserved
loop-left-preserved c =
    goes_on moved c.loop-left.left c.loop-left.self c.step.new.self (rested c.args.self.now) c.loop-left.invariant c.loop-left-test.true
    c.if-step.ensures.goes c.if-step.ensures.processes

pub returns-else-step : goal.returns-else-step
returns-else-step c =
    ends moved c.loop-left.left c.loop-left.self c.step.new.self (rested c.args.self.now) c.loop-left.invariant c.loop-left-test.true
    c.if-step.ensures.goes c.if-step.ensures.processes

pub returns-after-loop-left : goal.returns-after-loop-left
returns-after-loop-left c =
    is_spent moved c.loop-left.left c.loop-left.self (rested c.args.self.now) c.loop-left.invariant c.loop-left-test.false
