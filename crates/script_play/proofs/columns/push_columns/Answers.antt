use Rattle.std.proofs.Common.{arith}
use Rattle.script_play.proofs.Charting.{none_more, process_more, all_processes}
use Rattle.script_play.proofs.columns.push_columns.Goals as goal

pub loop-process-init : goal.loop-process-init
loop-process-init c = none_more c.args.columns.now

pub loop-process-preserved : goal.loop-process-preserved
loop-process-preserved c =
    process_more c.args.set.now c.args.actors.now c.loop-process.process _ c.args.columns.now _ _ (omega (arith, c.loop-process-test.true, c.process_count-process-end.ensures)) c.in_ok-narrow.ensures
    c.loop-process.invariant c.in_ok-push_instances.ensures

pub returns : goal.returns
returns c =
    all_processes c.args.set.now c.args.actors.now c.args.set.now.processes c.loop-process.process c.args.columns.now _
    (omega (arith, c.loop-process-test.false, c.process_count-process-end.ensures))
    c.loop-process.invariant
