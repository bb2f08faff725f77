use Rattle.std.proofs.Common.{eq-eqb, eqb-true}
use Rattle.std.specs.Prelude.{bit_and}
use Rattle.turn_rules.proofs.PartySets.{within_from, within_to}
use Rattle.turn_rules.proofs.party_set.PartySet.is_within.Goals as goal

pub returns : goal.returns
returns c = (
  λ t b h. within_from c.args.self.0 c.args.other.0 (eqb-true (bit_and c.args.self.0 c.args.other.0) c.args.self.0 t) b h,
  λ w. eq-eqb (bit_and c.args.self.0 c.args.other.0) c.args.self.0 (within_to c.args.self.0 c.args.other.0 w),
)
