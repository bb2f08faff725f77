use Rattle.resend_store.proofs.Delivery.{delivers_in_order}
use Rattle.resend_store.proofs.laws.messages_are_delivered_in_order.Goals as goal

pub returns : goal.returns
returns c = delivers_in_order
