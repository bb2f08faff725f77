-- A predicate that holds for each element of a list, by recursion on the list.
use Rattle.std.proofs.Common.{◌≡◌, ℕ, zero, suc, Bool, true, false, cond, List, [], ◌∷◌, ◌++◌, map, Some, None, refl, subst}
use Rattle.std.specs.Prelude.{All, Contains, find, slice_get}
use Rattle.std.specs.List.{list_any, flat_map}
use Rattle.std.proofs.lemmas.List.Elements.{All-nil, All-cons, All-contains}
use Rattle.std.proofs.lemmas.Option.{none-some, same_Some}
pub use Rattle.plain_laws.proofs.Lists.{append-nil_left as nil_front, append-nil_right as nil_back}
use Rattle.plain_laws.proofs.Truths.{neither_first as or_left, neither_second as or_right}

abbrev pub Each : {A : Type 0} → (A → Type 0) → List A → Type 0
Each P [] = Unit {0}
Each P (x ∷ xs) = P x × Each P xs

pub each_front : {A : Type 0} (P : A → Type 0) (a b : List A) → Each P (a ++ b) → Each P a
each_front P [] b h = tt
each_front P (x ∷ a) b h = (h.0, each_front P a b h.1)

pub each_back : {A : Type 0} (P : A → Type 0) (a b : List A) → Each P (a ++ b) → Each P b
each_back P [] b h = h
each_back P (x ∷ a) b h = each_back P a b h.1

pub each_append : {A : Type 0} (P : A → Type 0) (a b : List A) → Each P a → Each P b → Each P (a ++ b)
each_append P [] b h k = k
each_append P (x ∷ a) b h k = (h.0, each_append P a b h.1 k)

pub each_always : {A : Type 0} (P : A → Type 0) → ((x : A) → P x) → (xs : List A) → Each P xs
each_always P f [] = tt
each_always P f (x ∷ xs) = (f x, each_always P f xs)

pub each_with : {A : Type 0} (P Q : A → Type 0) → ((x : A) → P x → Q x) → (xs : List A) → Each P xs → Each Q xs
each_with P Q f [] h = tt
each_with P Q f (x ∷ xs) h = (f x h.0, each_with P Q f xs h.1)

pub each_map : {A B : Type 0} (P : B → Type 0) (g : A → B) (xs : List A) → Each (λ x. P (g x)) xs → Each P (map g xs)
each_map P g [] h = tt
each_map P g (x ∷ xs) h = (h.0, each_map P g xs h.1)

pub each_unmap : {A B : Type 0} (P : B → Type 0) (g : A → B) (xs : List A) → Each P (map g xs) → Each (λ x. P (g x)) xs
each_unmap P g [] h = tt
each_unmap P g (x ∷ xs) h = (h.0, each_unmap P g xs h.1)

pub each_flat : {A B : Type 0} (P : B → Type 0) (f : A → List B) (xs : List A) → Each (λ x. Each P (f x)) xs → Each P (flat_map f xs)
each_flat P f [] h = tt
each_flat P f (x ∷ xs) h = each_append P (f x) (flat_map f xs) h.0 (each_flat P f xs h.1)

pub each_unflat : {A B : Type 0} (P : B → Type 0) (f : A → List B) (xs : List A) → Each P (flat_map f xs) → Each (λ x. Each P (f x)) xs
each_unflat P f [] h = tt
each_unflat P f (x ∷ xs) h = (each_front P (f x) (flat_map f xs) h, each_unflat P f xs (each_back P (f x) (flat_map f xs) h))

pub all_items : {A : Type 0} (P : A → Type 0) (xs : List A) → Each P xs → All P xs
all_items P [] h = All-nil P
all_items P (x ∷ xs) h = All-cons P x xs h.0 (all_items P xs h.1)

pub each_both : {A : Type 0} (P Q : A → Type 0) (xs : List A) → Each P xs → Each Q xs → Each (λ x. P x × Q x) xs
each_both P Q [] h k = tt
each_both P Q (x ∷ xs) h k = ((h.0, k.0), each_both P Q xs h.1 k.1)

-- The element at an index, and an element that the list contains.
pub each_at_place : {A : Type 0} (P : A → Type 0) (xs : List A) (n : ℕ) (x : A) → Each P xs → slice_get xs n ≡ Some x → P x
each_at_place P [] n x h e = absurd (none-some x e)
each_at_place P (y ∷ xs) zero x h e = subst P (same_Some y x e) h.0
each_at_place P (y ∷ xs) (suc n) x h e = each_at_place P xs n x h.1 e

pub each_at : {A : Type 0} (P : A → Type 0) (xs : List A) (x : A) → Each P xs → Contains xs x → P x
each_at P xs x h there = All-contains P xs x (all_items P xs h) there

-- ---- lists of lists that are all empty

pub each_nil : {A : Type 0} (f : A → List ℕ) (xs : List A) → flat_map f xs ≡ [] → Each (λ x. f x ≡ []) xs
each_nil f [] e = tt
each_nil f (x ∷ xs) e = (nil_front (f x) (flat_map f xs) e, each_nil f xs (nil_back (f x) (flat_map f xs) e))

-- ---- tests that no element passes

pub each_false : {A : Type 0} (p : A → Bool) (xs : List A) → list_any p xs ≡ false → Each (λ x. p x ≡ false) xs
each_false p [] e = tt
each_false p (x ∷ xs) e = (or_left (p x) (list_any p xs) e, each_false p xs (or_right (p x) (list_any p xs) e))

pub each_unfound : {A : Type 0} (p : A → Bool) (xs : List A) → find p xs ≡ None → Each (λ x. p x ≡ false) xs
each_unfound p [] e = tt
each_unfound p (x ∷ xs) e = by_test (p x) refl e (each_unfound p xs)
  where
    by_test : (b : Bool) → p x ≡ b → cond b (Some x) (find p xs) ≡ None → (find p xs ≡ None → Each (λ x. p x ≡ false) xs) → (p x ≡ false) × Each (λ x. p x ≡ false) xs
    by_test true f e rest = absurd (let k : ⊥ = cc in k)
    by_test false f e rest = (f, rest e)
