use Rattle.mtp2_play.proofs.Known.{set_run, set_over, set_turned_down}
use Rattle.mtp2_play.proofs.set.command.run_text.Goals as goal

pub returns-in-Err : goal.returns-in-Err
returns-in-Err g c = set_run _ _ _ _ _ (set_turned_down _ _ _ _ c.in-Err.status c.in-Err.ensures.refused c.in-Err.ensures.status)

pub returns : goal.returns
returns g c = set_run _ _ _ _ _ (set_over c.messages_of_a_run_stand.ensures _ _ _ _ _ c.in-Ok.tender c.in-Ok.ensures.ok c.begin.ensures.ran c.begin.ensures.status)
