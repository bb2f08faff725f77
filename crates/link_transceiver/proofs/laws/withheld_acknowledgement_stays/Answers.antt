use Rattle.link_transceiver.proofs.Withholding.{withholds}
use Rattle.link_transceiver.proofs.laws.withheld_acknowledgement_stays.Goals as goal

pub returns : goal.returns
returns c = withholds
