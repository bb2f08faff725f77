use Rattle.std.proofs.Common.{rules}
use Rattle.line_tending.proofs.Printing.{styled_octet}
use Rattle.line_tending.proofs.told.OctetDisplay.fmt.Goals as goal

pub returns-clause-writes : goal.returns-clause-writes
returns-clause-writes g c = search (rules, styled_octet)
