-- Lists by index: the element at an index, and lists after a write or a push.
use Rattle.std.proofs.Common.{◌≡◌, ◌≢◌, ℕ, zero, suc, ◌<◌, List, [], ◌∷◌, ◌++◌, length, Some, None, refl, ap, sym, ◌∙◌, subst, arith}
use Rattle.std.specs.Prelude.{slice_get, slice_set, Contains, All}
use Rattle.std.proofs.lemmas.Option.{none-some, slice_get_within, get_or_from_slice_get, slice_get-get_or}

-- ---- within the list

pub there_is : {A : Type 0} (xs : List A) (i : ℕ) → i < length xs → (x : A) × (slice_get xs i ≡ Some x)
there_is [] i within = absurd (omega (arith, within))
there_is (x ∷ xs) zero within = (x, refl)
there_is (x ∷ xs) (suc i) within = there_is xs i (omega (arith, within))

pub no_place : {A : Type 0} (xs : List A) (i : ℕ) → i < length xs → slice_get xs i ≡ None → ⊥
no_place xs i within e = let found = there_is xs i within in none-some found.0 (sym e ∙ found.1)

-- ---- an element at an index is in the list, and an element of the list has an index

pub among_at : {A : Type 0} (xs : List A) (i : ℕ) (x : A) → slice_get xs i ≡ Some x → Contains xs x
among_at xs i x e = (i, slice_get_within xs i x e, get_or_from_slice_get xs i x x e)

pub at_among : {A : Type 0} (xs : List A) (x : A) → Contains xs x → (i : ℕ) × (slice_get xs i ≡ Some x)
at_among xs x among = (among.0, slice_get-get_or xs among.0 x among.1 ∙ ap Some among.2)

pub all_at : {A : Type 0} (P : A → Type 0) (xs : List A) (i : ℕ) (x : A) → All P xs → slice_get xs i ≡ Some x → P x
all_at P xs i x all there = subst P (get_or_from_slice_get xs i x x there) (all i x (slice_get_within xs i x there))

-- ---- after a write

pub get_set_same : {A : Type 0} (xs : List A) (k : ℕ) (a : A) → k < length xs → slice_get (slice_set xs k a) k ≡ Some a
get_set_same [] k a h = absurd (omega arith)
get_set_same (x ∷ xs) zero a h = refl
get_set_same (x ∷ xs) (suc k) a h = get_set_same xs k a (omega (arith, h))

pub written_same : {A : Type 0} (xs : List A) (k : ℕ) (old a : A) → slice_get xs k ≡ Some old → slice_get (slice_set xs k a) k ≡ Some a
written_same xs k old a h = get_set_same xs k a (slice_get_within xs k old h)

pub get_set_other : {A : Type 0} (xs : List A) (k j : ℕ) (a : A) → j ≢ k → slice_get (slice_set xs k a) j ≡ slice_get xs j
get_set_other [] k j a h = refl
get_set_other (x ∷ xs) zero zero a h = absurd (h refl)
get_set_other (x ∷ xs) zero (suc j) a h = refl
get_set_other (x ∷ xs) (suc k) zero a h = refl
get_set_other (x ∷ xs) (suc k) (suc j) a h = get_set_other xs k j a (λ e. h (ap suc e))

-- ---- after a push

pub last_at : {A : Type 0} (xs : List A) (x : A) → slice_get (xs ++ x ∷ []) (length xs) ≡ Some x
last_at [] x = refl
last_at (y ∷ xs) x = last_at xs x
