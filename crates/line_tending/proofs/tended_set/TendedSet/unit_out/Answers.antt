use Rattle.line_tending.proofs.Acting.{adds_unit}
use Rattle.line_tending.proofs.tended_set.TendedSet.unit_out.Goals as goal

pub returns-clause-adds : goal.returns-clause-adds
returns-clause-adds c = rw (← c.self.view_is) (adds_unit _ _ c.args.link c.unit_out.result c.unit_out.ensures.ok c.unit_out.ensures.err)
