-- Lists of distinct numbers.
use Rattle.std.proofs.Common.{◌≡◌, ℕ, ◌<◌, ◌≤◌, ◌+◌, zero, suc, length, take, Some, None, true, false, ◌||◌, List, [], ◌∷◌, ◌++◌, refl, sym, ap, ◌∙◌, arith, eqb}
use Rattle.std.specs.List.{list_any, IsDistinct, AllByRecursion, slice_get}
use Rattle.std.proofs.lemmas.Bool.{true≢false}
use Rattle.std.proofs.lemmas.Bool.Decides.{nat_tests}
use Rattle.std.proofs.lemmas.Option.{same_Some}
use Rattle.std.proofs.Math.Bool.{or-true}

pub distinct-none : IsDistinct eqb []
unfolding IsDistinct
distinct-none = tt

apart-absent : (x : ℕ) (xs : List ℕ) → list_any (eqb x) xs ≡ false → AllByRecursion (λ y. eqb x y ≡ false) xs
apart-absent x [] h = tt
apart-absent x (y ∷ xs) h = elim (eqb x y) as (λ t. eqb x y ≡ t → AllByRecursion (λ y. eqb x y ≡ false) (y ∷ xs)) [
  | true ↦ λ e. absurd (true≢false (ap (λ b. b || list_any (eqb x) xs) (sym e) ∙ h))
  | false ↦ λ e. (e, apart-absent x xs (ap (λ b. b || list_any (eqb x) xs) (sym e) ∙ h))
] refl

apart-append : (x : ℕ) (xs ys : List ℕ) → AllByRecursion (λ y. eqb x y ≡ false) xs → AllByRecursion (λ y. eqb x y ≡ false) ys → AllByRecursion (λ y. eqb x y ≡ false) (xs ++ ys)
apart-append x [] ys h g = g
apart-append x (y ∷ xs) ys h g = (h.0, apart-append x xs ys h.1 g)

front : (x : ℕ) (xs : List ℕ) → list_any (eqb x) (x ∷ xs) ≡ true
front x xs = let t : eqb x x ≡ true = grind (arith, nat_tests) in rw t refl

-- two such lists without a common number, one after the other
pub distinct-append : (xs ys : List ℕ) → IsDistinct eqb xs → IsDistinct eqb ys → ((q : ℕ) → list_any (eqb q) xs ≡ true → list_any (eqb q) ys ≡ false) → IsDistinct eqb (xs ++ ys)
unfolding IsDistinct
distinct-append [] ys d e apart = e
distinct-append (x ∷ xs) ys d e apart = (
  apart-append x xs ys d.0 (apart-absent x ys (apart x (front x xs))),
  distinct-append xs ys d.1 e (λ q h. apart q (rw h (or-true (eqb q x)))),
)

pub distinct-more : (x : ℕ) (xs : List ℕ) → list_any (eqb x) xs ≡ false → IsDistinct eqb xs → IsDistinct eqb (x ∷ xs)
unfolding IsDistinct
distinct-more x xs h d = (apart-absent x xs h, d)

-- ---- the element at an index

pub held : (xs : List ℕ) (k x : ℕ) → slice_get xs k ≡ Some x → list_any (eqb x) xs ≡ true
held [] k x h = cc
held (y ∷ xs) zero x h = let same : y ≡ x = same_Some y x h in let t : eqb x y ≡ true = grind (arith, nat_tests) in rw t refl
held (y ∷ xs) (suc k) x h = rw (held xs k x h) (or-true (eqb x y))

pub within : (xs : List ℕ) (k x : ℕ) → slice_get xs k ≡ Some x → k < length xs
within [] k x h = cc
within (y ∷ xs) zero x h = omega arith
within (y ∷ xs) (suc k) x h = let rest = within xs k x h in omega arith

take-suc : (xs : List ℕ) (k x : ℕ) → slice_get xs k ≡ Some x → take (suc k) xs ≡ take k xs ++ x ∷ []
take-suc [] k x h = cc
take-suc (y ∷ xs) zero x h = let same : y ≡ x = same_Some y x h in ap (λ z. z ∷ []) same
take-suc (y ∷ xs) (suc k) x h = ap (λ zs. y ∷ zs) (take-suc xs k x h)

pub take-more : (xs : List ℕ) (k x : ℕ) → slice_get xs k ≡ Some x → take (k + 1) xs ≡ take k xs ++ x ∷ []
take-more xs k x h = let next : k + 1 ≡ suc k = omega arith in ap (λ n. take n xs) next ∙ take-suc xs k x h

pub none-left : (xs : List ℕ) (k : ℕ) → slice_get xs k ≡ None → length xs ≤ k
none-left [] k h = omega arith
none-left (y ∷ xs) zero h = cc
none-left (y ∷ xs) (suc k) h = let rest = none-left xs k h in omega arith
