use Rattle.std.proofs.Common.{◌||◌, eqb, ap, ◌∙◌, arith}
use Rattle.turn_rules.specs.Parties.{holds}
use Rattle.turn_rules.proofs.PartySets.{holds_with}
use Rattle.turn_rules.proofs.party_set.PartySet.with.Goals as goal

pub returns : goal.returns
returns c = λ b.
    holds_with c.args.self.0 c.seat.result b (omega arith) ∙ ap (λ k. holds c.args.self b || eqb k b) c.seat.ensures.value
