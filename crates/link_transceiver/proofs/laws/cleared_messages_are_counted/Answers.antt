use Rattle.link_transceiver.proofs.Odds.{counts_cleared}
use Rattle.link_transceiver.proofs.laws.cleared_messages_are_counted.Goals as goal

pub returns : goal.returns
returns c = counts_cleared
