use Rattle.turn_machine.proofs.UnderWay.{is_ready, can_grow, goes_on, ends_so}
use Rattle.turn_machine.proofs.execute.execute.Goals as goal

pub step_bare-after-requires : goal.step_bare-after-requires
step_bare-after-requires c =
    is_ready c.args.piece.now c.args.input.now c.args.certificate c.loop-taken.taken c.loop-taken.place c.loop-taken.words c.loop-taken.machine.effects.items
    c.loop-taken.invariant

pub give-requires : goal.give-requires
give-requires c =
    can_grow c.args.piece.now c.args.input.now c.args.certificate c.loop-taken.taken c.loop-taken.place c.loop-taken.words c.loop-taken.machine.effects.items
    c.loop-taken.invariant c.step_bare-after.new.words c.step_bare-after.result c.step_bare-after.ensures

pub returns-in-Ends : goal.returns-in-Ends
returns-in-Ends c =
    ends_so c.args.piece.now c.args.input.now c.args.certificate c.loop-taken.taken c.loop-taken.place c.loop-taken.words c.loop-taken.machine.effects.items
    c.loop-taken.invariant c.step_bare-after.new.words c.step_bare-after.result c.give.new.effects.items c.in-Ends.end c.step_bare-after.ensures
    c.give.ensures c.in-Ends.is

pub loop-taken-preserved : goal.loop-taken-preserved
loop-taken-preserved c =
    goes_on c.args.piece.now c.args.input.now c.args.certificate c.loop-taken.taken c.loop-taken.place c.loop-taken.words c.loop-taken.machine.effects.items
    c.loop-taken.invariant c.step_bare-after.new.words c.step_bare-after.result c.give.new.effects.items c.in-Goes.next c.step_bare-after.ensures
    c.give.ensures c.in-Goes.is
