use Rattle.line_play.proofs.SetKeeping.{kept_along}
use Rattle.line_play.proofs.set.laws.messages_of_a_selection_keep_their_order.Goals as goal

pub returns : goal.returns
returns c = λ ahead p q bytes traffic goes_on run none_wait s. kept_along ahead p q bytes traffic goes_on run none_wait s
