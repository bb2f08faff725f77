-- How many messages of a list have a selection, element by element.
use Rattle.std.proofs.Common.{◌≡◌, ◌≢◌, ℕ, ◌+◌, ◌<◌, ◌≤◌, ◌==◌, zero, suc, Bool, true, false, cond, List, [], ◌∷◌, Some, length, take, get_or, refl, sym, ap, ◌∙◌, arith, inl, inr}
use Rattle.std.specs.Prelude.{slice_get, filter, ◌⊎◌}
use Rattle.std.proofs.lemmas.Bool.{eq-eqb}
use Rattle.std.proofs.lemmas.Bool.Decides.{eqb_tells}
use Rattle.plain_laws.proofs.Options.{none_some}
use Rattle.resend_store.specs.declared.messages.Msu.{Msu}
use Rattle.group_changeover.specs.Sharing.{selection_of, is_on, of}

on_case : (p : Msu → Bool) (b c : Bool) (x y : ℕ) (m : Msu) (ms ns : List Msu) → length (filter p ms) ≡ length (filter p ns) + x
    → length (cond b (m ∷ filter p ms) (filter p ms)) ≡ length (cond b (m ∷ filter p ns) (filter p ns)) + x
on_case p true c x y m ms ns e = omega (arith, e)
on_case p false c x y m ms ns e = e

at_case : (m : Msu) (b : Bool) → length (cond b (m ∷ []) []) ≡ 0 + cond b 1 0
at_case m true = refl
at_case m false = refl

more : (p : Msu → Bool) (ms : List Msu) (i : ℕ) (m : Msu) → slice_get ms i ≡ Some m
    → length (filter p (take (suc i) ms)) ≡ length (filter p (take i ms)) + cond (p m) 1 0
more p [] i m e = absurd (none_some e)
more p (x ∷ ms) zero m e = let same : x ≡ m = cc in rw same (at_case m (p m))
more p (x ∷ ms) (suc i) m e = on_case p (p x) true (cond (p m) 1 0) 0 x (take (suc i) ms) (take i ms) (more p ms i m e)

one : (b : Bool) → b ≡ true → ◌≡◌ {A = ℕ} (cond b 1 0) 1
one b e = rw e refl

none : (b : Bool) → b ≡ false → ◌≡◌ {A = ℕ} (cond b 1 0) 0
none b e = rw e refl

other_test : (n s : ℕ) → ((n == s) ≡ true) × (n ≡ s) ⊎ ((n == s) ≡ false) × (n ≢ s) → (n ≡ s → ⊥) → (n == s) ≡ false
other_test n s (inl x) other = absurd (other x.1)
other_test n s (inr x) other = x.0

at_place : (ms : List Msu) (i : ℕ) (m : Msu) → i < length ms → m ≡ get_or ms i m → slice_get ms i ≡ Some m
at_place [] i m h e = absurd (omega (arith, h))
at_place (x ∷ ms) zero m h e = ap Some (sym e)
at_place (x ∷ ms) (suc i) m h e = at_place ms i m (omega (arith, h)) e

pub one_more : (s : ℕ) (ms : List Msu) (i : ℕ) (m : Msu) → i < length ms → m ≡ get_or ms i m → selection_of m ≡ s → length (of s (take (i + 1) ms)) ≡ length (of s (take i ms)) + 1
unfolding of
one_more s ms i m h e on =
    let step : i + 1 ≡ suc i = omega arith in
    rw step (more (is_on s) ms i m (at_place ms i m h e) ∙ ap (λ (n : ℕ). length (filter (is_on s) (take i ms)) + n) (one (is_on s m) (eq-eqb (selection_of m) s on)))

pub none_more : (s : ℕ) (ms : List Msu) (i : ℕ) (m : Msu) → i < length ms → m ≡ get_or ms i m → (selection_of m ≡ s → ⊥) → length (of s (take (i + 1) ms)) ≡ length (of s (take i ms)) + 0
unfolding of
none_more s ms i m h e other =
    let step : i + 1 ≡ suc i = omega arith in
    rw step (more (is_on s) ms i m (at_place ms i m h e) ∙ ap (λ (n : ℕ). length (filter (is_on s) (take i ms)) + n) (none (is_on s m) (other_test (selection_of m) s (eqb_tells (selection_of m) s) other)))

pub few : (s : ℕ) (ms : List Msu) → length (of s ms) ≤ length ms
unfolding of
few s [] = omega arith
few s (m ∷ ms) = few_case (is_on s m) m (filter (is_on s) ms) ms (few s ms)
  where
    few_case : (b : Bool) (m : Msu) (xs ms : List Msu) → length xs ≤ length ms → length (cond b (m ∷ xs) xs) ≤ length (m ∷ ms)
    few_case true m xs ms h = omega (arith, h)
    few_case false m xs ms h = omega (arith, h)
