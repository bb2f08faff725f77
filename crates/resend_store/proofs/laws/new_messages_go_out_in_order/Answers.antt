use Rattle.resend_store.proofs.InOrder.{new_in_order}
use Rattle.resend_store.proofs.laws.new_messages_go_out_in_order.Goals as goal

pub returns : goal.returns
returns c = new_in_order
