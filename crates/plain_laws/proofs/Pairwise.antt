-- Two lists whose elements are related index by index.
use Rattle.std.proofs.Common.{◌≡◌, ℕ, zero, suc, ◌+◌, ◌<◌, List, [], ◌∷◌, ◌++◌, map, length, take, get_or, Some, refl, ap, sym, ◌∙◌, subst, arith}
use Rattle.std.specs.Prelude.{slice_get}
use Rattle.std.specs.List.{AllZip}
use Rattle.std.proofs.lemmas.List.{append_assoc}
use Rattle.std.proofs.lemmas.Option.{none-some, same_Some}
use Rattle.plain_laws.proofs.Lists.{mapped_more}

pub zip_length : {A B : Type 0} (R : A → B → Type 0) (xs : List A) (ys : List B) → AllZip R xs ys → length xs ≡ length ys
zip_length R [] [] h = refl
zip_length R [] (y ∷ ys) h = absurd h
zip_length R (x ∷ xs) [] h = absurd h
zip_length R (x ∷ xs) (y ∷ ys) h = ap suc (zip_length R xs ys h.1)

pub zip_push : {A B : Type 0} (R : A → B → Type 0) (xs : List A) (ys : List B) (x : A) (y : B) → AllZip R xs ys → R x y → AllZip R (xs ++ x ∷ []) (ys ++ y ∷ [])
zip_push R [] [] x y h r = (r, tt)
zip_push R [] (b ∷ ys) x y h r = absurd h
zip_push R (a ∷ xs) [] x y h r = absurd h
zip_push R (a ∷ xs) (b ∷ ys) x y h r = (h.0, zip_push R xs ys x y h.1 r)

-- the element of the second list at the index of an element of the first
pub zip_beside : {A B : Type 0} (R : A → B → Type 0) (xs : List A) (ys : List B) (n : ℕ) (x : A) → AllZip R xs ys → slice_get xs n ≡ Some x
    → (y : B) × (slice_get ys n ≡ Some y) × R x y
zip_beside R [] ys n x h e = absurd (none-some x e)
zip_beside R (a ∷ xs) [] n x h e = absurd h
zip_beside R (a ∷ xs) (b ∷ ys) zero x h e = (b, refl, subst (λ u. R u b) (same_Some a x e) h.0)
zip_beside R (a ∷ xs) (b ∷ ys) (suc n) x h e = zip_beside R xs ys n x h.1 e

pub zip_at : {A B : Type 0} (R : A → B → Type 0) (xs : List A) (ys : List B) (i : ℕ) (x : A) (y : B) → AllZip R xs ys
    → slice_get xs i ≡ Some x → slice_get ys i ≡ Some y → R x y
zip_at R xs ys i x y h e f =
    let found = zip_beside R xs ys i x h e in
    subst (R x) (same_Some found.0 y (sym found.1 ∙ f)) found.2

-- lists of equal length whose elements are related at every index
pub zip_by : {A B : Type 0} (R : A → B → Type 0) (xs : List A) (ys : List B) → length xs ≡ length ys
    → ((i : ℕ) (x : A) (y : B) → slice_get xs i ≡ Some x → slice_get ys i ≡ Some y → R x y) → AllZip R xs ys
zip_by R [] [] n h = tt
zip_by R [] (y ∷ ys) n h = absurd (omega (arith, n))
zip_by R (x ∷ xs) [] n h = absurd (omega (arith, n))
zip_by R (x ∷ xs) (y ∷ ys) n h = (h 0 x y refl refl, zip_by R xs ys (omega (arith, n)) (λ i. h (suc i)))

-- A mapped list follows another list: the relation also holds with one more element.
pub zip_behind : {X A B : Type 0} (R : A → B → Type 0) (g : X → A) (before : List A) (xs : List X) (i : ℕ) (x : X) (ys : List B) (y : B) → i < length xs → x ≡ get_or xs i x
    → AllZip R (before ++ map g (take i xs)) ys → R (g x) y → AllZip R (before ++ map g (take (i + 1) xs)) (ys ++ y ∷ [])
zip_behind R g before xs i x ys y lt is h r =
    subst (λ zs. AllZip R zs (ys ++ y ∷ []))
    (append_assoc before (map g (take i xs)) (g x ∷ []) ∙ ap (λ l. before ++ l) (sym (mapped_more g xs i x lt is)))
    (zip_push R (before ++ map g (take i xs)) ys (g x) y h r)
