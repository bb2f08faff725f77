use Rattle.line_play.proofs.SetMessages.{told_once}
use Rattle.line_play.proofs.set.laws.each_message_is_told_once.Goals as goal

pub returns : goal.returns
returns c = told_once
