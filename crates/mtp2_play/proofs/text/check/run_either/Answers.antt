use Rattle.mtp2_play.proofs.CheckedSets.{plainly}
use Rattle.mtp2_play.proofs.text.check.run_either.Goals as goal

pub returns-in-Unsaid : goal.returns-in-Unsaid
returns-in-Unsaid g c = plainly _ _ _ _ _ c.in-Unsaid.is c.run_plain.ensures.printed
