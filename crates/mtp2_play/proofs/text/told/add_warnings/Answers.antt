use Rattle.mtp2_play.proofs.Warnings.{counted_by}
use Rattle.mtp2_play.proofs.text.told.add_warnings.Goals as goal

pub returns-in-Ok-clause-counted : goal.returns-in-Ok-clause-counted
returns-in-Ok-clause-counted c = λ one. counted_by _ _ _ _ _ _ _ c.in-Ok.ensures c.warned_status.ensures one
