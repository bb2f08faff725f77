use Rattle.std.proofs.Common.{◌≡◌, ℕ, ◌^◌, ◌<◌, ◌≤◌, ⊎_elim, arith, rules, refl}
use Rattle.std.specs.Int.{bit_at}
use Rattle.std.proofs.lemmas.Bool.{cases_lt}
use Rattle.std.proofs.lemmas.Nat.Bits.{bit_at_above}
use Rattle.turn_machine.specs.Fitting.{IsSetAt}
use Rattle.trials_texts.proofs.standing.are_set.Goals as goal

-- A set of 32 bits has no variable numbered 32 or above.
all_set : (s n : ℕ) (P : ℕ → Type 0) → s < 2 ^ 32 → 32 ≤ n → ((v : ℕ) → v < n → bit_at s v ≡ 1 → P v) → (v : ℕ) → bit_at s v ≡ 1 → P v
all_set s n P small long below v h =
    ⊎_elim
    (λ (low : v < n). below v low h)
    (λ (high : n ≤ v). let none = bit_at_above s 32 v small (omega arith) in absurd (omega arith))
    (cases_lt v n)

pub returns : goal.returns
returns c =
    let small : c.args.set.0 < 2 ^ 32 = search rules in
    (λ t. all_set c.args.set.0 c.loop-variable.variable (λ v. IsSetAt c.args.values.now v) small (omega arith) c.loop-variable.invariant, λ a. refl)
