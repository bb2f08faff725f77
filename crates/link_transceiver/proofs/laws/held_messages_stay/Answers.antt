use Rattle.link_transceiver.proofs.Holding.{holds_back}
use Rattle.link_transceiver.proofs.laws.held_messages_stay.Goals as goal

pub returns : goal.returns
returns c = holds_back
