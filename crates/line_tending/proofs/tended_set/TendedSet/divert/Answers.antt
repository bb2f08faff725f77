use Rattle.line_tending.proofs.Acting.{adds_divert}
use Rattle.line_tending.proofs.tended_set.TendedSet.divert.Goals as goal

pub returns : goal.returns
returns c = rw (← c.self.view_is) (adds_divert _ _ c.args.link c.divert.ensures.set)
