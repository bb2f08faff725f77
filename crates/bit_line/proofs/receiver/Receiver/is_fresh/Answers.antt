use Rattle.std.proofs.Common.{◌≡◌, Bool, [], subst}
use Rattle.std.specs.Bool.{MatchBool}
use Rattle.bit_line.specs.Stuffing.{taken_out}
use Rattle.bit_line.specs.Flags.{inside}
use Rattle.bit_line.proofs.StuffLaws.{taken_out-none}
use Rattle.bit_line.proofs.GateLaws.{waiting-inside}
use Rattle.bit_line.proofs.receiver.Receiver.is_fresh.Goals as goal

pub returns-then-self-eq0-clause-inside : goal.returns-then-self-eq0-clause-inside
returns-then-self-eq0-clause-inside c is h lets =
    let P : Bool → Type 0 = λ b. MatchBool b (taken_out (inside h) ≡ []) (taken_out (inside h) ≡ [] → ⊥) in
    taken_out-none (inside h) (subst P is (c.is_empty.ensures (taken_out (inside h)) (lets.content c.if-not-self.false c.if-self-eq0.true).gathers))

pub returns-else-self-eq0-clause-inside : goal.returns-else-self-eq0-clause-inside
returns-else-self-eq0-clause-inside c is h lets = waiting-inside h c.args.self.now.gate lets c.if-not-self.false c.if-self-eq0.false
