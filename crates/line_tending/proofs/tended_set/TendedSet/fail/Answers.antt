use Rattle.line_tending.proofs.Acting.{adds_failure}
use Rattle.line_tending.proofs.tended_set.TendedSet.fail.Goals as goal

pub returns : goal.returns
returns c = rw (← c.self.view_is) (adds_failure _ _ c.args.link c.fail.result c.fail.ensures.fault c.fail.ensures.ok c.fail.ensures.err)
