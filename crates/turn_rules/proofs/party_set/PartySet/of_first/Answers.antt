use Rattle.turn_rules.proofs.PartySets.{holds_first}
use Rattle.turn_rules.proofs.party_set.PartySet.of_first.Goals as goal

pub returns : goal.returns
returns c = λ b. holds_first c.args.count b c.requires
