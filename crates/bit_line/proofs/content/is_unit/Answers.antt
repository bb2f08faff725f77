use Rattle.bit_line.proofs.ContentLaws.{octets_fit, unit_when}
use Rattle.bit_line.proofs.content.is_unit.Goals as goal

pub returns-clause-octets : goal.returns-clause-octets
returns-clause-octets c = octets_fit c.args.octets.now (λ i. (c.type_inv.octets i).fits)

pub returns-clause-unit : goal.returns-clause-unit
returns-clause-unit c = unit_when c.args.octets.now c.is_unit.result c.is_unit.ensures
