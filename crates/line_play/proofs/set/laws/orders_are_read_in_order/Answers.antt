use Rattle.line_play.proofs.SetReading.{all_read}
use Rattle.line_play.proofs.set.laws.orders_are_read_in_order.Goals as goal

pub returns : goal.returns
returns c = all_read
