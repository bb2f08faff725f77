-- Sets of numbers as the bits of a number.
use Rattle.std.proofs.Common.{◌≡◌, ℕ, ◌*◌, ◌/◌, ◌%◌, ◌^◌, ◌<◌, ◌≤◌, true, false, ◌&&◌, ◌||◌, eqb, ltb, bit_and, bit_or, refl, sym, ap, ◌∙◌, inl, inr, arith}
use Rattle.std.specs.Int.{Width, w8, w128, bit_at}
use mir.Val.{bits}
use Rattle.std.proofs.lemmas.Nat.Bits.{bit_at-zero, bit_at_set_same, bit_at_set_other, shr_and_one}
use Rattle.std.proofs.lemmas.Bool.Decides.{eqb_tells, nat_tests}
use Rattle.input_port.specs.Saves.{has_bit}
use Rattle.std.proofs.lemmas.Bool.{and_right}

pub has_bit_none : (limit number : ℕ) → has_bit limit 0 number ≡ false
unfolding has_bit
has_bit_none limit number = ap (λ d. ltb number limit && eqb d 1) (bit_at-zero number) ∙ and_right (ltb number limit) false refl

below : (a b : ℕ) → a < b → ltb a b ≡ true
below a b h = grind (arith, nat_tests)

not_below : (a b : ℕ) → b ≤ a → ltb a b ≡ false
not_below a b h = grind (arith, nat_tests)

-- one more number
has_bit_added : (w : Width) (set k number : ℕ) → k < bits w → has_bit (bits w) (bit_or set (1 * 2 ^ k % 2 ^ bits w)) number ≡ (eqb number k || has_bit (bits w) set number)
unfolding has_bit
has_bit_added w set k number h =
    let new = bit_or set (1 * 2 ^ k % 2 ^ bits w) in
    elim (eqb_tells number k) [
      | inl same ↦
          ap (λ n. ltb n (bits w) && eqb (bit_at new n) 1) same.1
          ∙ ap (λ b. b && eqb (bit_at new k) 1) (below k (bits w) h)
          ∙ ap (λ d. eqb d 1) (bit_at_set_same w set k h)
          ∙ sym (ap (λ b. b || (ltb number (bits w) && eqb (bit_at set number) 1)) same.0)
      | inr other ↦
          ap (λ d. ltb number (bits w) && eqb d 1) (bit_at_set_other w set k h number other.1)
          ∙ sym (ap (λ b. b || (ltb number (bits w) && eqb (bit_at set number) 1)) other.0)
    ]

pub has_bit_added_128 : (set k number : ℕ) → k < 128 → has_bit 128 (bit_or set (1 * 2 ^ k % 340282366920938463463374607431768211456)) number ≡ (eqb number k || has_bit 128 set number)
has_bit_added_128 set k number h = has_bit_added w128 set k number h

pub has_bit_added_8 : (set k number : ℕ) → k < 8 → has_bit 8 (bit_or set (1 * 2 ^ k % 256)) number ≡ (eqb number k || has_bit 8 set number)
has_bit_added_8 set k number h = has_bit_added w8 set k number h

-- the test of a bit
pub has_bit_below : (limit set k : ℕ) → k < limit → eqb (bit_and (set / 2 ^ k) 1) 1 ≡ has_bit limit set k
unfolding has_bit
has_bit_below limit set k h = ap (λ d. eqb d 1) (shr_and_one set k) ∙ sym (ap (λ b. b && eqb (bit_at set k) 1) (below k limit h))

pub has_bit_above : (limit set k : ℕ) → limit ≤ k → has_bit limit set k ≡ false
unfolding has_bit
has_bit_above limit set k h = ap (λ b. b && eqb (bit_at set k) 1) (not_below k limit h)
