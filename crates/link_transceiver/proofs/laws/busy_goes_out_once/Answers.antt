use Rattle.link_transceiver.proofs.Handing.{busy_once}
use Rattle.link_transceiver.proofs.laws.busy_goes_out_once.Goals as goal

pub returns : goal.returns
returns c = busy_once
