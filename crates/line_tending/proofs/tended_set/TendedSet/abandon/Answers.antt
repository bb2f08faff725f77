use Rattle.line_tending.proofs.Acting.{adds_abandon}
use Rattle.line_tending.proofs.tended_set.TendedSet.abandon.Goals as goal

pub returns : goal.returns
returns c = rw (← c.self.view_is) (adds_abandon _ _ c.args.link c.abandon.result c.abandon.ensures.fault c.abandon.ensures.ok c.abandon.ensures.err)
