use Rattle.std.proofs.Common.{eqb, ap, ◌∙◌}
use Rattle.std.proofs.lemmas.Nat.Bits.{shr_and_one}
use Rattle.turn_rules.specs.Parties.{holds}
use Rattle.turn_rules.proofs.party_set.PartySet.has.Goals as goal

pub returns : goal.returns
unfolding holds
returns c = ap (λ n. eqb n 1) (shr_and_one c.args.self.0 c.seat.result) ∙ ap (λ k. holds c.args.self k) c.seat.ensures.value
