use Rattle.mtp2_play.proofs.Known.{spoken}
use Rattle.mtp2_play.proofs.line.command.line_text.Goals as goal

pub returns : goal.returns
returns g c = spoken _ _ _ _ _ _ c.line_on.ensures
