use Rattle.line_tending.proofs.Doing.{adds_nothing, acts_of}
use Rattle.line_tending.proofs.tended_set.TendedSet.heed_status.Goals as goal

pub returns-in-Cleared : goal.returns-in-Cleared
returns-in-Cleared c = rw c.in-Cleared.is (acts_of _ _ (adds_nothing _))
