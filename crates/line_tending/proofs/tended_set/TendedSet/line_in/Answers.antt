use Rattle.line_tending.proofs.Acting.{adds_octets}
use Rattle.line_tending.proofs.tended_set.TendedSet.line_in.Goals as goal

pub returns-clause-adds : goal.returns-clause-adds
returns-clause-adds c = rw (← c.self.view_is) (adds_octets _ _ c.args.link c.args.octets.now c.line_in.result c.line_in.ensures.ok c.line_in.ensures.err)
