use Rattle.line_play.proofs.SetReported.{reported_along}
use Rattle.line_play.proofs.set.laws.each_message_is_reported_or_waits.Goals as goal

pub returns : goal.returns
returns c = reported_along
