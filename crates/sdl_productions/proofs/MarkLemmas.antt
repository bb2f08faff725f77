-- Marks on lists, and how they combine.
use Rattle.std.proofs.Common.{◌≡◌, ℕ, List, [], ◌∷◌, ◌++◌, Option, Some, None, map, refl, ap, ◌∙◌}
use Rattle.sdl_ast.specs.Heights.{or_first, first_of}
use Rattle.sdl_productions.specs.Marks.{Marked, kept, too_high, by_place, marked, map_marked, more, in_front, gathered}

-- Prepending a part and appending a part can be done in either order.
front_more : {A : Type 0} (m : Marked A) (ms : Marked (List A)) (x : Marked A) → in_front m (more ms x) ≡ more (in_front m ms) x
front_more (kept x) (kept xs) (kept y) = refl
front_more (kept x) (kept xs) (too_high at) = refl
front_more (kept x) (too_high at) y = refl
front_more (too_high at) ms y = refl

alone_more : {A : Type 0} (m : Marked A) → in_front m (kept []) ≡ more (kept []) m
alone_more (kept x) = refl
alone_more (too_high at) = refl

pub gathered_more : {A B : Type 0} (f : A → Marked B) (xs : List A) (x : A) → gathered (map f (xs ++ x ∷ [])) ≡ more (gathered (map f xs)) (f x)
gathered_more f [] x = alone_more (f x)
gathered_more f (y ∷ xs) x = ap (in_front (f y)) (gathered_more f xs x) ∙ front_more (f y) (gathered (map f xs)) (f x)

-- A function applied to one part that may be marked.
pub one_marked : {A B : Type 0} (f : A → B) (p : Option ℕ) (x : A) → by_place p (f x) ≡ map_marked f (by_place p x)
one_marked f None x = refl
one_marked f (Some at) x = refl

-- Two parts, one after the other; the first mark stays.
more_marked : {A : Type 0} (p q : Option ℕ) (xs : List A) (x : A) → by_place (or_first p q) (xs ++ x ∷ []) ≡ more (by_place p xs) (by_place q x)
more_marked None None xs x = refl
more_marked None (Some at) xs x = refl
more_marked (Some at) q xs x = refl

pub or_first-assoc : (p q r : Option ℕ) → or_first p (or_first q r) ≡ or_first (or_first p q) r
or_first-assoc None q r = refl
or_first-assoc (Some at) q r = refl

pub or_first-none : (p : Option ℕ) → or_first p None ≡ p
or_first-none None = refl
or_first-none (Some at) = refl

first_more : {A : Type 0} (f : A → Option ℕ) (xs : List A) (x : A) → first_of f (xs ++ x ∷ []) ≡ or_first (first_of f xs) (f x)
first_more f [] x = or_first-none (f x)
first_more f (y ∷ xs) x = ap (or_first (f y)) (first_more f xs x) ∙ or_first-assoc (f y) (first_of f xs) (f x)

-- A list with one more part at the end, and a whole list.
pub list_more : {A : Type 0} (f : A → Option ℕ) (xs : List A) (x : A) → marked (first_of f) (xs ++ x ∷ []) ≡ more (marked (first_of f) xs) (marked f x)
list_more f xs x = ap (λ p. by_place p (xs ++ x ∷ [])) (first_more f xs x) ∙ more_marked (first_of f xs) (f x) xs x

pub list_gathered : {A : Type 0} (f : A → Option ℕ) (xs : List A) → gathered (map (marked f) xs) ≡ marked (first_of f) xs
list_gathered f [] = refl
list_gathered f (x ∷ xs) = ap (in_front (marked f x)) (list_gathered f xs) ∙ back (f x) (first_of f xs) x xs
  where
    back : {A : Type 0} (p q : Option ℕ) (x : A) (xs : List A) → in_front (by_place p x) (by_place q xs) ≡ by_place (or_first p q) (x ∷ xs)
    back None None x xs = refl
    back None (Some at) x xs = refl
    back (Some at) q x xs = refl
