use Rattle.line_tending.proofs.Acting.{adds_admit}
use Rattle.line_tending.proofs.tended_set.TendedSet.admit.Goals as goal

pub returns : goal.returns
returns c = rw (← c.self.view_is) (adds_admit _ _ c.args.link c.args.way c.admit.result c.admit.ensures.ok c.admit.ensures.err)
