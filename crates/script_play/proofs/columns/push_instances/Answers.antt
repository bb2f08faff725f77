use Rattle.std.proofs.Common.{arith}
use Rattle.turn_check.specs.Named.{instances_at}
use Rattle.script_play.proofs.Charting.{none_more, instance_more, all_instances}
use Rattle.script_play.proofs.columns.push_instances.Goals as goal

pub loop-number-init : goal.loop-number-init
loop-number-init c = none_more c.args.columns.now

pub loop-number-preserved : goal.loop-number-preserved
loop-number-preserved c =
    instance_more c.args.set.now c.args.actors.now c.args.process.0 (instances_at c.args.set.now c.args.process.0) c.loop-number.number _ c.args.columns.now _ _
    (omega (arith, c.loop-number-test.true, c.instances-number-end.ensures.value)) c.in_ok-narrow.ensures c.loop-number.invariant c.in_ok-push_where.ensures

pub returns : goal.returns
returns c =
    all_instances c.args.set.now c.args.actors.now c.args.process.0 (instances_at c.args.set.now c.args.process.0) c.loop-number.number c.args.columns.now _
    (omega (arith, c.loop-number-test.false, c.instances-number-end.ensures.value)) c.loop-number.invariant
