use Rattle.std.proofs.Common.{rules}
use Rattle.su_octets.proofs.OctetTexts.{styled_octet}
use Rattle.su_octets.proofs.units.OctetDisplay.fmt.Goals as goal

pub returns-clause-writes : goal.returns-clause-writes
returns-clause-writes g c = search (rules, styled_octet)
