use Rattle.mtp2_play.proofs.Failing.{over_or_failed}
use Rattle.mtp2_play.proofs.run_tapped.Goals as goal

pub returns-clause-printed : goal.returns-clause-printed
returns-clause-printed g c = over_or_failed _ _ _ _ _ c.run-status.ensures.printed c.end_capture.ensures
