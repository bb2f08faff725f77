use Rattle.script_ends.proofs.TermAnswers.{times_none, times_more}
use Rattle.script_ends.proofs.hearing.take_times.Goals as goal

pub loop-taken-init : goal.loop-taken-init
loop-taken-init c = times_none c.args.keeps c.args.octets.now c.args.terminal.now

pub loop-taken-preserved : goal.loop-taken-preserved
loop-taken-preserved c =
    times_more c.args.keeps c.args.octets.now c.loop-taken.taken c.args.terminal.now c.loop-taken.terminal _ c.loop-taken.invariant c.in_ok-take_once.ensures
