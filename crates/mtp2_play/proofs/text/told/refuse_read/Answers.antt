use Rattle.mtp2_play.proofs.CheckedSets.{printed}
use Rattle.mtp2_play.proofs.text.told.refuse_read.Goals as goal

pub returns-in-Ok-clause-printed : goal.returns-in-Ok-clause-printed
returns-in-Ok-clause-printed g c bytes fault two =
    printed c.in-Ok.refusal c.args.refusal bytes _ _ c.in-Ok.is (c.refuse_set.ensures.refused two) (c.refuse_set.ensures.printed two) fault
