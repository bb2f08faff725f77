use Rattle.link_transceiver.proofs.Odds.{discards_behind_odd}
use Rattle.link_transceiver.proofs.laws.units_behind_odd_ones_are_discarded.Goals as goal

pub returns : goal.returns
returns c = discards_behind_odd
