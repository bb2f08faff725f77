-- Lists filtered by a selection.
use Rattle.std.proofs.Common.{◌≡◌, ◌≢◌, ℕ, ◌==◌, Bool, true, false, not, cond, List, [], ◌∷◌, ◌++◌, refl, sym, ap, ◌∙◌, inl, inr}
use Rattle.std.specs.Prelude.{filter, ◌⊎◌}
use Rattle.std.proofs.lemmas.Bool.Decides.{eqb_tells}
use Rattle.std.proofs.lemmas.List.Elements.{filter-append}
use Rattle.resend_store.specs.declared.messages.Msu.{Msu}
use Rattle.group_changeover.specs.Sharing.{selection_of, is_on, of, off}

pub of-append : (s : ℕ) (xs ys : List Msu) → of s (xs ++ ys) ≡ of s xs ++ of s ys
unfolding of
of-append s xs ys = filter-append (is_on s) xs ys

pub of-nil : (s : ℕ) → of s [] ≡ []
unfolding of
of-nil s = refl

pub of-three : (s : ℕ) (xs ys zs : List Msu) → of s (xs ++ ys ++ zs) ≡ of s xs ++ of s ys ++ of s zs
of-three s xs ys zs = of-append s (xs ++ ys) zs ∙ ap (λ (l : List Msu). l ++ of s zs) (of-append s xs ys)

-- ---- a filter after a filter

true-false : {b : Bool} → b ≡ true → b ≡ false → ⊥
true-false {b = true} p q = let e : true ≡ false = q in cc
true-false {b = false} p q = let e : false ≡ true = p in cc

both_case : (p q : Msu → Bool) (m : Msu) (ms : List Msu) (b c : Bool) → p m ≡ b → q m ≡ c → (c ≡ true → b ≡ true)
    → filter q (filter p ms) ≡ filter q ms → filter q (cond b (m ∷ filter p ms) (filter p ms)) ≡ cond c (m ∷ filter q ms) (filter q ms)
both_case p q m ms true true x y h ih = rw (y, ih) refl
both_case p q m ms true false x y h ih = rw (y, ih) refl
both_case p q m ms false true x y h ih = let e : false ≡ true = h refl in cc
both_case p q m ms false false x y h ih = ih

filter-both : (p q : Msu → Bool) (ms : List Msu) → ((m : Msu) → q m ≡ true → p m ≡ true) → filter q (filter p ms) ≡ filter q ms
filter-both p q [] h = refl
filter-both p q (m ∷ ms) h = both_case p q m ms (p m) (q m) refl refl (h m) (filter-both p q ms h)

none_case : (p q : Msu → Bool) (m : Msu) (ms : List Msu) (b : Bool) → p m ≡ b → (b ≡ true → q m ≡ false)
    → filter q (filter p ms) ≡ [] → filter q (cond b (m ∷ filter p ms) (filter p ms)) ≡ []
none_case p q m ms true x h ih = rw (h refl, ih) refl
none_case p q m ms false x h ih = ih

filter-none : (p q : Msu → Bool) (ms : List Msu) → ((m : Msu) → p m ≡ true → q m ≡ false) → filter q (filter p ms) ≡ []
filter-none p q [] h = refl
filter-none p q (m ∷ ms) h = none_case p q m ms (p m) refl (h m) (filter-none p q ms h)

-- ---- the messages of a selection, and all others

other_test : (n r s : ℕ) → r ≢ s → (n == r) ≡ true → (n == s) ≡ false
other_test n r s apart on = other_by (eqb_tells n r) (eqb_tells n s) on
  where
    other_by : ((n == r) ≡ true) × (n ≡ r) ⊎ ((n == r) ≡ false) × (n ≢ r) → ((n == s) ≡ true) × (n ≡ s) ⊎ ((n == s) ≡ false) × (n ≢ s) → (n == r) ≡ true → (n == s) ≡ false
    other_by a (inr y) is = y.0
    other_by (inl x) (inl y) is = absurd (apart (sym x.1 ∙ y.1))
    other_by (inr x) (inl y) is = absurd (true-false is x.0)

not_true : (b : Bool) → b ≡ false → not b ≡ true
not_true true e = let f : true ≡ false = e in cc
not_true false e = refl

true_not : (b : Bool) → not b ≡ true → b ≡ false
true_not true e = let f : false ≡ true = e in cc
true_not false e = refl

pub of-of : (s : ℕ) (ms : List Msu) → of s (of s ms) ≡ of s ms
unfolding of
of-of s ms = filter-both (is_on s) (is_on s) ms (λ m h. h)

pub of-of_other : (r s : ℕ) (ms : List Msu) → r ≢ s → of r (of s ms) ≡ []
unfolding of
of-of_other r s ms apart = filter-none (is_on s) (is_on r) ms (λ m h. other_test (selection_of m) s r (λ e. apart (sym e)) h)

pub of-off : (s : ℕ) (ms : List Msu) → of s (off s ms) ≡ []
unfolding of off
of-off s ms = filter-none (λ m. not (is_on s m)) (is_on s) ms (λ m h. true_not (is_on s m) h)

pub of-off_other : (r s : ℕ) (ms : List Msu) → r ≢ s → of r (off s ms) ≡ of r ms
unfolding of off
of-off_other r s ms apart = filter-both (λ m. not (is_on s m)) (is_on r) ms (λ m h. not_true (is_on s m) (other_test (selection_of m) r s apart h))
