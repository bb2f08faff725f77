use Rattle.mtp2_play.proofs.CheckedSets.{same_or_failed}
use Rattle.mtp2_play.proofs.text.check.run_check.Goals as goal

pub returns : goal.returns
returns g c = same_or_failed _ _ _ _ _ _ c.run_either-status.ensures c.tell_warnings.ensures
