use Rattle.turn_rules.proofs.PartySets.{holds_and}
use Rattle.turn_rules.proofs.party_set.PartySet.and.Goals as goal

pub returns : goal.returns
returns c = λ b. holds_and c.args.self.0 c.args.other.0 b
