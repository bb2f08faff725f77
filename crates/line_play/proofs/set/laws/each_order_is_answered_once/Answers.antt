use Rattle.line_play.proofs.SetAnswered.{answered_along}
use Rattle.line_play.proofs.set.laws.each_order_is_answered_once.Goals as goal

pub returns : goal.returns
returns c = answered_along
