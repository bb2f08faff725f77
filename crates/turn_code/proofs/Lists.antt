-- Lemmas on lists, element by element.
use Rattle.std.proofs.Common.{◌≡◌, ℕ, zero, suc, ◌+◌, ◌-◌, ◌<◌, ◌≤◌, List, [], ◌∷◌, ◌++◌, length, map, take, drop, reverse, Some, refl, sym, ap, ◌∙◌, subst, arith, take_all, length-set}
use Rattle.std.specs.Prelude.{slice_get, slice_set, Contains, All}
use Rattle.std.specs.List.{AllZip, refill}
use Rattle.std.proofs.lemmas.List.{take-append-le, take-append-drop, length-append, length-drop, length-reverse, reverse-append, reverse-reverse}
pub use Rattle.plain_laws.proofs.Places.{among_at as at_place}

pub within : {A : Type 0} (xs : List A) (k : ℕ) (a : A) → slice_get xs k ≡ Some a → k < length xs
within [] k a h = cc
within (x ∷ xs) zero a h = omega arith
within (x ∷ xs) (suc k) a h = let r = within xs k a h in omega arith

pub zip_length : {A B : Type 0} (R : A → B → Type 0) (xs : List A) (ys : List B) → AllZip R xs ys → length ys ≡ length xs
zip_length R [] [] h = refl
zip_length R [] (y ∷ ys) h = absurd h
zip_length R (x ∷ xs) [] h = absurd h
zip_length R (x ∷ xs) (y ∷ ys) h = ap suc (zip_length R xs ys h.1)

pub zip_set : {A B : Type 0} (R : A → B → Type 0) (xs : List A) (ys : List B) (k : ℕ) (a : A) (b : B)
    → AllZip R xs ys → slice_get xs k ≡ Some a → R a b → AllZip R xs (slice_set ys k b)
zip_set R [] ys k a b h p r = cc
zip_set R (x ∷ xs) [] k a b h p r = absurd h
zip_set R (x ∷ xs) (y ∷ ys) zero a b h p r =
    let e : a ≡ x = cc in
    (subst (λ u. R u b) e r, h.1)
zip_set R (x ∷ xs) (y ∷ ys) (suc k) a b h p r = (h.0, zip_set R xs ys k a b h.1 p r)

pub get_map : {A B : Type 0} (f : A → B) (xs : List A) (k : ℕ) (a : A) → slice_get xs k ≡ Some a → slice_get (map f xs) k ≡ Some (f a)
get_map f [] k a h = cc
get_map f (x ∷ xs) zero a h = let e : x ≡ a = cc in ap (λ u. Some (f u)) e
get_map f (x ∷ xs) (suc k) a h = get_map f xs k a h

pub map_length : {A B : Type 0} (f : A → B) (xs : List A) → length (map f xs) ≡ length xs
map_length f [] = refl
map_length f (x ∷ xs) = ap suc (map_length f xs)

pub map_drop : {A B : Type 0} (f : A → B) (n : ℕ) (xs : List A) → map f (drop n xs) ≡ drop n (map f xs)
map_drop f zero xs = refl
map_drop f (suc n) [] = refl
map_drop f (suc n) (x ∷ xs) = map_drop f n xs

pub one_more : {A : Type 0} (xs : List A) (x : A) → length (xs ++ x ∷ []) ≡ length xs + 1
one_more xs x = length-append xs (x ∷ [])

-- an element of one of two lists is an element of the two lists joined
pub in_first : {A : Type 0} (xs ys : List A) (x : A) → Contains xs x → Contains (xs ++ ys) x
in_first [] ys x c = absurd (omega (arith, c.1))
in_first (y ∷ xs) ys x (zero, h, e) = (0, omega arith, e)
in_first (y ∷ xs) ys x (suc i, h, e) =
    let r = in_first xs ys x (i, omega (arith, h), e) in
    (suc r.0, omega (arith, r.1), r.2)

pub in_second : {A : Type 0} (xs ys : List A) (x : A) → Contains ys x → Contains (xs ++ ys) x
in_second [] ys x c = c
in_second (y ∷ xs) ys x c =
    let r = in_second xs ys x c in
    (suc r.0, omega (arith, r.1), r.2)

-- a list of one element: what holds of the element holds of all elements
pub only : {A : Type 0} (P : A → Type 0) (a : A) → All P (a ∷ []) → P a
only P a h = h 0 a (omega arith)

pub first_of : {A : Type 0} (a : A) (rest : List A) → Contains (a ∷ rest) a
first_of a rest = (0, omega arith, refl)

-- a list filled up to its own length after a write has that write and nothing else changed
pub refill_set : {A : Type 0} (xs ws : List A) (k : ℕ) (a : A) → ws ≡ xs → refill (length xs) xs (slice_set ws k a) ≡ slice_set xs k a
refill_set xs ws k a e =
    let long : length (slice_set ws k a) ≡ length xs = length-set ws k a ∙ ap length e in
    let front = take-append-le {A = _} (length xs) (slice_set ws k a) (drop (length (slice_set ws k a)) xs) (omega arith) in
    front ∙ take_all (length xs) (slice_set ws k a) (omega arith) ∙ ap (λ u. slice_set u k a) e

-- ---- the last element of a list
front : {A : Type 0} (p q : List A) (m : ℕ) → length p ≡ m → take m (p ++ q) ≡ p
front [] q zero e = refl
front [] q (suc m) e = absurd (omega arith)
front (x ∷ p) q zero e = absurd (omega arith)
front (x ∷ p) q (suc m) e = ap (λ u. x ∷ u) (front p q m (omega arith))

behind_front : {A : Type 0} (p q : List A) (m : ℕ) → length p ≡ m → drop m (p ++ q) ≡ q
behind_front [] q zero e = refl
behind_front [] q (suc m) e = absurd (omega arith)
behind_front (x ∷ p) q zero e = absurd (omega arith)
behind_front (x ∷ p) q (suc m) e = behind_front p q m (omega arith)

turned : {A : Type 0} (xs : List A) (a : ℕ) → reverse (drop a xs) ++ reverse (take a xs) ≡ reverse xs
turned xs a = sym (reverse-append (take a xs) (drop a xs)) ∙ ap reverse (take-append-drop a xs)

turned_long : {A : Type 0} (xs : List A) (a m : ℕ) → a + m ≡ length xs → length (reverse (drop a xs)) ≡ m
turned_long xs a m e = length-reverse (drop a xs) ∙ length-drop a xs ∙ omega (arith, e)

pub last_taken : {A : Type 0} (xs : List A) (a m : ℕ) → a + m ≡ length xs → reverse (take m (reverse xs)) ≡ drop a xs
last_taken xs a m e =
    ap (λ u. reverse (take m u)) (sym (turned xs a))
    ∙ ap reverse (front (reverse (drop a xs)) (reverse (take a xs)) m (turned_long xs a m e))
    ∙ reverse-reverse (drop a xs)

pub last_dropped : {A : Type 0} (xs : List A) (a m : ℕ) → a + m ≡ length xs → drop m (reverse xs) ≡ reverse (take a xs)
last_dropped xs a m e =
    ap (drop m) (sym (turned xs a)) ∙ behind_front (reverse (drop a xs)) (reverse (take a xs)) m (turned_long xs a m e)

pub popped : {A : Type 0} (xs slice ps os : List A) (n m : ℕ) → os ≡ reverse xs → slice ≡ xs → n ≡ length xs → m ≤ length os
    → ps ≡ take (length slice - (n - m)) (drop (n - m) slice) → ps ≡ reverse (take m os)
popped xs slice ps os n m o s l h p =
    let long : length os ≡ length xs = ap length o ∙ length-reverse xs in
    let whole = take_all (length xs - (n - m)) (drop (n - m) xs) (omega (arith, length-drop (n - m) xs)) in
    p ∙ ap (λ u. take (length u - (n - m)) (drop (n - m) u)) s ∙ whole
    ∙ sym (last_taken xs (n - m) m (omega arith)) ∙ ap (λ u. reverse (take m u)) (sym o)

pub left_over : {A : Type 0} (xs ys os : List A) (n m : ℕ) → os ≡ reverse xs → n ≡ length xs → m ≤ length os
    → ys ≡ take (n - m) xs → reverse ys ≡ drop m os
left_over xs ys os n m o l h y =
    let long : length os ≡ length xs = ap length o ∙ length-reverse xs in
    ap reverse y ∙ sym (last_dropped xs (n - m) m (omega arith)) ∙ ap (drop m) (sym o)
