-- The first element of a list that passes a test.
use Rattle.std.proofs.Common.{◌≡◌, ℕ, zero, suc, ◌+◌, ◌<◌, Bool, true, false, cond, not, nat_lt, List, [], ◌∷◌, map, length, None, Some, slice_get, find, position, refl, ap, ◌∙◌, arith}
use Rattle.std.specs.List.{position_or_len, prefix_len}
use Rattle.std.specs.Option.{option_and_then}
use Rattle.std.proofs.lemmas.Bool.Decides.{leb_tells}
use Rattle.std.proofs.lemmas.List.{length-map}
use Rattle.std.proofs.lemmas.List.Folds.{find_at}
use Rattle.std.proofs.lemmas.Option.{none-some, same_Some, slice_get_past}

-- ---- searches in a mapped list

pub prefix_len-map : {A B : Type 0} (t : B → Bool) (f : A → B) (xs : List A) → prefix_len t (map f xs) ≡ prefix_len (λ x. t (f x)) xs
prefix_len-map t f [] = refl
prefix_len-map t f (x ∷ xs) = ap (λ r. cond (t (f x)) (1 + r) 0) (prefix_len-map t f xs)

pub position-map : {A B : Type 0} (t : B → Bool) (f : A → B) (xs : List A) → position t (map f xs) ≡ position (λ x. t (f x)) xs
position-map t f xs = rw (prefix_len-map (λ y. not (t y)) f xs, length-map xs f) refl

-- ---- a search ends at an element that passes, or before it

pub first_here : (b : Bool) (r n : ℕ) → b ≡ true → cond (not b) (1 + r) 0 < suc n
first_here true r n h = omega arith
first_here false r n h = absurd (cc)

pub first_later : (b : Bool) (r n : ℕ) → r < n → cond (not b) (1 + r) 0 < suc n
first_later true r n h = omega arith
first_later false r n h = omega (arith, h)

pub first_within : {A : Type 0} (p : A → Bool) (xs : List A) (k : ℕ) (x : A) → slice_get xs k ≡ Some x → p x ≡ true → position_or_len p xs < length xs
first_within p [] k x e h = absurd (none-some x e)
first_within p (y ∷ xs) zero x e h = first_here (p y) (position_or_len p xs) (length xs) (ap p (same_Some y x e) ∙ h)
first_within p (y ∷ xs) (suc k) x e h = first_later (p y) (position_or_len p xs) (length xs) (first_within p xs k x e h)

-- `find` returns the element at the index of the first one that passes
pub find-at : {A : Type 0} (p : A → Bool) (xs : List A) (b : Bool) → nat_lt (position_or_len p xs) (length xs) ≡ b
    → find p xs ≡ option_and_then (slice_get xs) (cond b (Some (position_or_len p xs)) None)
find-at p xs true e = find_at p xs
find-at p xs false e = find_at p xs ∙ slice_get_past xs (position_or_len p xs) (grind (arith, leb_tells, e))
