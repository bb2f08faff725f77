use Rattle.link_transceiver.proofs.Handing.{hands_out_in_order}
use Rattle.link_transceiver.proofs.laws.accepted_messages_are_handed_out_in_order.Goals as goal

pub returns : goal.returns
returns c = hands_out_in_order
