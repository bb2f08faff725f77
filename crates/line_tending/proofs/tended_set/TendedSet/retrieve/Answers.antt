use Rattle.line_tending.proofs.Acting.{adds_retrieve}
use Rattle.line_tending.proofs.tended_set.TendedSet.retrieve.Goals as goal

pub returns : goal.returns
returns c = rw (← c.self.view_is) (adds_retrieve _ _ c.args.link c.retrieve.result c.retrieve.ensures.fault c.retrieve.ensures.ok c.retrieve.ensures.err)
