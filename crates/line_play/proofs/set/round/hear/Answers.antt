use Rattle.line_play.proofs.SetRounds.{from_none}
use Rattle.line_play.proofs.set.round.hear.Goals as goal

pub returns-in-Ok : goal.returns-in-Ok
returns-in-Ok c = from_none _ _ _ _ _ _ _ _ _ _ c.clear.ensures.items c.in-Ok.ensures.passes
