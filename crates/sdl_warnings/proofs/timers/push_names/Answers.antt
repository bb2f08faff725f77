use Rattle.sdl_ast.specs.Views.{process_of}
use Rattle.sdl_tables.proofs.Growing.{join_on, taken_more}
use Rattle.sdl_warnings.specs.Warned.{idle_timer}
use Rattle.sdl_warnings.proofs.timers.push_names.Goals as goal

pub loop-timer-preserved : goal.loop-timer-preserved
loop-timer-preserved c =
    join_on (idle_timer (process_of c.args.process.now)) _ _ _ _ _ _
    (taken_more c.args.timers.now c.loop-timer.timer-index c.timer-item.result c.loop-timer-test.true c.timer-item.is) c.loop-timer.invariant c.in_ok-push_timer.ensures
