use Rattle.su_octets.proofs.FrameLaws.{unit_when}
use Rattle.su_octets.proofs.frames.is_unit.Goals as goal

pub returns : goal.returns
returns c = unit_when c.args.octets.now c.fault_of.result c.is_none.result c.is_none.ensures (λ i. (c.type_inv.octets i).fits) c.fault_of.ensures.fault c.fault_of.ensures.none
