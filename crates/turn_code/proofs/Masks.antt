-- Masks, bit by bit.
use Rattle.std.proofs.Common.{◌≡◌, ◌≢◌, ℕ, ◌^◌, ◌<◌, ◌≤◌, min, eqb, true, false, sym, ap, ◌∙◌, ⊎_elim, arith}
use Rattle.std.specs.Prelude.{bit_and}
use Rattle.std.specs.Int.{bit_at}
use Rattle.std.proofs.lemmas.Nat.Bits.{bit_at_and, bit_at_above, bit_at-lt, same_from_bits}
use Rattle.std.proofs.lemmas.Bool.Decides.{eqb_tells}

pub none_above : (s v : ℕ) → s < 2 ^ 32 → 32 ≤ v → bit_at s v ≡ 1 → ⊥
none_above s v small high h = let e : bit_at s v ≡ 0 = bit_at_above s 32 v small high in omega arith

pub within_from : (a b : ℕ) → bit_and a b ≡ a → (v : ℕ) → bit_at a v ≡ 1 → bit_at b v ≡ 1
within_from a b h v one =
    let e : bit_at a v ≡ min (bit_at a v) (bit_at b v) = ap (λ u. bit_at u v) (sym h) ∙ bit_at_and a b v in
    let low = bit_at-lt b v in
    omega arith

pub within_to : (a b : ℕ) → ((v : ℕ) → bit_at a v ≡ 1 → bit_at b v ≡ 1) → bit_and a b ≡ a
within_to a b h =
    same_from_bits (bit_and a b) a (λ v.
    let e : bit_at (bit_and a b) v ≡ min (bit_at a v) (bit_at b v) = bit_at_and a b v in
    let low = bit_at-lt a v in
    ⊎_elim
    (λ (one : (eqb (bit_at a v) 1 ≡ true) × (bit_at a v ≡ 1)).
    let is : bit_at a v ≡ 1 = one.1 in
    let other : bit_at b v ≡ 1 = h v is in
    let goal : bit_at (bit_and a b) v ≡ bit_at a v = omega arith in goal)
    (λ (zero : (eqb (bit_at a v) 1 ≡ false) × (bit_at a v ≢ 1)).
    let is : bit_at a v ≡ 0 = omega (arith, zero.1) in
    let goal : bit_at (bit_and a b) v ≡ bit_at a v = omega arith in goal)
    (eqb_tells (bit_at a v) 1))
