use Rattle.std.proofs.Common.{rules, append_assoc}
use Rattle.su_octets.proofs.units.UnitDisplay.fmt.Goals as goal

pub returns-in-Msu-clause-writes : goal.returns-in-Msu-clause-writes
returns-in-Msu-clause-writes g c = rw c.in-Msu.is (search (rules, append_assoc))
