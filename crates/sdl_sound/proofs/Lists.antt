-- Lists and the elements at their indices.
use Rattle.std.proofs.Common.{◌≡◌, ◌≢◌, ℕ, zero, suc, ◌+◌, ◌<◌, Bool, true, List, [], ◌∷◌, ◌++◌, length, refl, ap, sym, ◌∙◌, subst, arith, inl, inr, ◌⊎◌, Option, Some, None, take}
use Rattle.std.specs.Prelude.{slice_get, slice_set, Contains, All}
use Rattle.std.specs.List.{list_any}
use Rattle.std.proofs.lemmas.List.Folds.{list_any_at}
use Rattle.std.proofs.lemmas.Bool.{or_cases}
pub use Rattle.plain_laws.proofs.Places.{get_set_same, get_set_other, among_at, at_among, last_at as get_push_new}
pub use Rattle.plain_laws.proofs.Pairwise.{zip_push}
pub use Rattle.plain_laws.proofs.Lists.{mapped_more}
pub use Rattle.std.proofs.lemmas.Bool.{or_left, or_right}

pub get_push_old : {A : Type 0} (xs : List A) (x y : A) (i : ℕ) → slice_get xs i ≡ Some y → slice_get (xs ++ x ∷ []) i ≡ Some y
get_push_old [] x y i h = let bad : None ≡ Some y = h in cc
get_push_old (z ∷ xs) x y zero h = h
get_push_old (z ∷ xs) x y (suc i) h = get_push_old xs x y i h

-- The element at an index was there before the push, or is the new one.
pub get_push_cases : {A : Type 0} (xs : List A) (x y : A) (i : ℕ) → slice_get (xs ++ x ∷ []) i ≡ Some y
    → (slice_get xs i ≡ Some y) ⊎ ((i ≡ length xs) × (y ≡ x))
get_push_cases [] x y zero h = inr (refl, (let e : Some x ≡ Some y = h in cc))
get_push_cases [] x y (suc i) h = let bad : None ≡ Some y = h in absurd (cc)
get_push_cases (z ∷ xs) x y zero h = inl h
get_push_cases (z ∷ xs) x y (suc i) h = elim (get_push_cases xs x y i h) [
  | inl e ↦ inl e
  | inr e ↦ inr (ap suc e.0, e.1)
]

pub get_set_cases : {A : Type 0} (xs : List A) (k j : ℕ) (a b : A) → slice_get (slice_set xs k a) j ≡ Some b
    → ((j ≡ k) × (b ≡ a)) ⊎ ((j ≢ k) × (slice_get xs j ≡ Some b))
get_set_cases [] k j a b h = let bad : None ≡ Some b = h in absurd (cc)
get_set_cases (x ∷ xs) zero zero a b h = inl (refl, (let e : Some a ≡ Some b = h in cc))
get_set_cases (x ∷ xs) zero (suc j) a b h = inr ((λ e. absurd (omega (arith, e))), h)
get_set_cases (x ∷ xs) (suc k) zero a b h = inr ((λ e. absurd (omega (arith, e))), h)
get_set_cases (x ∷ xs) (suc k) (suc j) a b h = elim (get_set_cases xs k j a b h) [
  | inl e ↦ inl (ap suc e.0, e.1)
  | inr e ↦ inr ((λ f. e.0 (omega (arith, f))), e.1)
]

-- An index has at most one element.
pub get_one : {A : Type 0} (o : Option A) (a b : A) → o ≡ Some a → o ≡ Some b → a ≡ b
get_one o a b x y = let e : Some a ≡ Some b = sym x ∙ y in cc

-- ---- tests that some element passes

pub any_at : {A : Type 0} (p : A → Bool) (xs : List A) (x : A) → Contains xs x → p x ≡ true → list_any p xs ≡ true
any_at p xs x among h = list_any_at p xs among.0 x among.1 (ap p among.2 ∙ h)

pub at_any : {A : Type 0} (p : A → Bool) (xs : List A) → list_any p xs ≡ true → (x : A) × Contains xs x × (p x ≡ true)
at_any p [] h = absurd (cc)
at_any p (x ∷ xs) h = elim (or_cases (p x) _ h) [
  | inl e ↦ (x, (0, omega arith, refl), e)
  | inr e ↦ let found = at_any p xs e in (found.0, (suc found.1.0, omega (arith, found.1.1), found.1.2), found.2)
]

pub get_take : {A : Type 0} (xs : List A) (n i : ℕ) (x : A) → slice_get (take n xs) i ≡ Some x → (i < n) × (slice_get xs i ≡ Some x)
get_take [] zero i x h = let bad : None ≡ Some x = h in absurd (cc)
get_take [] (suc n) i x h = let bad : None ≡ Some x = h in absurd (cc)
get_take (y ∷ xs) zero i x h = let bad : None ≡ Some x = h in absurd (cc)
get_take (y ∷ xs) (suc n) zero x h = (omega arith, h)
get_take (y ∷ xs) (suc n) (suc i) x h = let rest = get_take xs n i x h in (omega (arith, rest.0), rest.1)

pub take_get : {A : Type 0} (xs : List A) (n i : ℕ) (x : A) → i < n → slice_get xs i ≡ Some x → slice_get (take n xs) i ≡ Some x
take_get [] n i x within h = let bad : None ≡ Some x = h in absurd (cc)
take_get (y ∷ xs) zero i x within h = absurd (omega (arith, within))
take_get (y ∷ xs) (suc n) zero x within h = h
take_get (y ∷ xs) (suc n) (suc i) x within h = take_get xs n i x (omega (arith, within)) h

-- A bound on the elements of a row holds for an equal row.
pub within_row : (xs ys : List ℕ) (n m : ℕ) → xs ≡ ys → n ≡ m → All (λ y. y < n) ys → All (λ x. x < m) xs
within_row xs ys n m e same h = subst (λ (l : List ℕ). All (λ x. x < m) l) (sym e) (subst (λ k. All (λ y. y < k) ys) same h)
