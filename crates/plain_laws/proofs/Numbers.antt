-- Small numbers: 0 and 1, and the quotient of a number below a power of two.
use Rattle.std.proofs.Common.{◌≡◌, ℕ, zero, suc, ◌+◌, ◌*◌, ◌/◌, ◌^◌, ◌<◌, min, max, true, false, ◌&&◌, ◌||◌, ◌⊎◌, inl, inr, eqb, refl, ap, sym, ◌∙◌, arith}
use Rattle.std.specs.Prelude.{◌==◌}
use Rattle.std.proofs.lemmas.Nat.{shr_high}

pub zero_or_one : (n : ℕ) → n < 2 → (n ≡ 0) ⊎ (n ≡ 1)
zero_or_one zero small = inl refl
zero_or_one (suc n) small = inr (omega arith)

pub same_parity : (x y : ℕ) → (x ≡ 0) ⊎ (x ≡ 1) → (y ≡ 0) ⊎ (y ≡ 1) → (x == 1) ≡ (y == 1) → x ≡ y
same_parity x y (inl p) (inl q) same = p ∙ sym q
same_parity x y (inl p) (inr q) same = absurd (let e : false ≡ true = rw (p, q) at same in cc)
same_parity x y (inr p) (inl q) same = absurd (let e : true ≡ false = rw (p, q) at same in cc)
same_parity x y (inr p) (inr q) same = p ∙ sym q

pub div_small : (n k : ℕ) → n < 2 ^ k → n / 2 ^ k ≡ 0
div_small n k small = ap (λ m. m / 2 ^ k) (let e : n ≡ 0 * 2 ^ k + n = omega arith in e) ∙ shr_high 0 k n small

pub most_is_one : (m n : ℕ) → m < 2 → n < 2 → eqb (max m n) 1 ≡ (eqb m 1 || eqb n 1)
most_is_one zero zero p q = refl
most_is_one zero (suc zero) p q = refl
most_is_one zero (suc (suc n)) p q = absurd (omega arith)
most_is_one (suc zero) zero p q = refl
most_is_one (suc zero) (suc zero) p q = refl
most_is_one (suc zero) (suc (suc n)) p q = absurd (omega arith)
most_is_one (suc (suc m)) n p q = absurd (omega arith)

pub least_is_one : (m n : ℕ) → m < 2 → n < 2 → eqb (min m n) 1 ≡ (eqb m 1 && eqb n 1)
least_is_one zero zero p q = refl
least_is_one zero (suc zero) p q = refl
least_is_one zero (suc (suc n)) p q = absurd (omega arith)
least_is_one (suc zero) zero p q = refl
least_is_one (suc zero) (suc zero) p q = refl
least_is_one (suc zero) (suc (suc n)) p q = absurd (omega arith)
least_is_one (suc (suc m)) n p q = absurd (omega arith)

-- none of 0, 1 and 4 is 2
pub not_refused : (status : ℕ) → (status ≡ 0) ⊎ (status ≡ 1) ⊎ (status ≡ 4) → status ≡ 2 → ⊥
not_refused status (inl none) two = omega (arith, none, two)
not_refused status (inr (inl one)) two = omega (arith, one, two)
not_refused status (inr (inr four)) two = omega (arith, four, two)
