use Rattle.link_transceiver.proofs.Acknowledging.{keeps_unacknowledged}
use Rattle.link_transceiver.proofs.laws.unacknowledged_messages_are_kept.Goals as goal

pub returns : goal.returns
returns c = keeps_unacknowledged
