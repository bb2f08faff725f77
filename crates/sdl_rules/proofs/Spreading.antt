-- Booleans over all pairs of elements of two lists.
use Rattle.std.proofs.Common.{◌≡◌, ℕ, zero, suc, Bool, true, false, not, ◌&&◌, ◌||◌, List, [], ◌∷◌, ◌++◌, Some, if◌then◌else◌, fold, arith, refl, sym, ap, ◌∙◌, subst}
use Rattle.std.specs.Prelude.{All, slice_get}
use Rattle.std.specs.List.{list_any, list_all, flat_map}
use Rattle.std.proofs.lemmas.List.Folds.{list_any-append, list_all-append}
use Rattle.std.proofs.lemmas.Option.{none-some, same_Some as some_same}
use Rattle.std.proofs.Math.Bool.{and-false, or-true}
use Rattle.plain_laws.proofs.Truths.{and_first as and_left, and_second as and_right}

-- ---- all, any

pub all_true : {A : Type 0} (f : A → Bool) (xs : List A) → ((x : A) → f x ≡ true) → list_all f xs ≡ true
all_true f [] h = refl
all_true f (x ∷ xs) h = λ i. h x i && all_true f xs h i

pub same_all : {A : Type 0} (f g : A → Bool) (xs : List A) → ((x : A) → f x ≡ g x) → list_all f xs ≡ list_all g xs
same_all f g [] h = refl
same_all f g (x ∷ xs) h = λ i. h x i && same_all f g xs h i

-- As `same_all`, for elements with a known property.
pub all_on : {A : Type 0} (P : A → Type 0) (q f h : A → Bool) (xs : List A) → All P xs → list_all q xs ≡ true → ((x : A) → P x → q x ≡ true → f x ≡ h x)
    → list_all f xs ≡ list_all h xs
all_on P q f h [] are there same = refl
all_on P q f h (x ∷ xs) are there same =
    λ i. same x (are 0 x (omega arith)) (and_left (q x) (list_all q xs) there) i
    && all_on P q f h xs (λ k d less. are (suc k) d (omega (arith, less))) (and_right (q x) (list_all q xs) there) same i

pub all_if : {A : Type 0} (q f h : A → Bool) (xs : List A) → list_all q xs ≡ true → ((x : A) → q x ≡ true → f x ≡ h x) → list_all f xs ≡ list_all h xs
all_if q f h [] there same = refl
all_if q f h (x ∷ xs) there same =
    λ i. same x (and_left (q x) (list_all q xs) there) i && all_if q f h xs (and_right (q x) (list_all q xs) there) same i

pub all_there : {A : Type 0} (q : A → Bool) (xs : List A) (n : ℕ) (x : A) → list_all q xs ≡ true → slice_get xs n ≡ Some x → q x ≡ true
all_there q [] n x h e = absurd (none-some x e)
all_there q (y ∷ xs) zero x h e = subst (λ z. q z ≡ true) (some_same y x e) (and_left (q y) (list_all q xs) h)
all_there q (y ∷ xs) (suc n) x h e = all_there q xs n x (and_right (q y) (list_all q xs) h) e

four : (a b c d : Bool) → ((a && b) && (c && d)) ≡ ((a && c) && (b && d))
four true true c d = refl
four true false c d = sym (and-false c)
four false b c d = refl

both_all : {A : Type 0} (f g : A → Bool) (xs : List A) → list_all (λ x. f x && g x) xs ≡ (list_all f xs && list_all g xs)
both_all f g [] = refl
both_all f g (x ∷ xs) = ap (λ b. (f x && g x) && b) (both_all f g xs) ∙ four (f x) (g x) (list_all f xs) (list_all g xs)

-- ---- an element that passes one of several tests

either : (a b c : Bool) → (not (a || b) || c) ≡ ((not a || c) && (not b || c))
either true b true = sym (or-true (not b))
either true b false = refl
either false b c = refl

pub spread : {A B : Type 0} (f : B → A → Bool) (g : B → Bool) (us : List B) (xs : List A)
    → list_all (λ u. not (list_any (f u) xs) || g u) us ≡ list_all (λ x. list_all (λ u. not (f u x) || g u) us) xs
spread f g us [] = all_true (λ u. not false || g u) us (λ u. refl)
spread f g us (x ∷ xs) =
    same_all (λ u. not (f u x || list_any (f u) xs) || g u) (λ u. (not (f u x) || g u) && (not (list_any (f u) xs) || g u)) us
    (λ u. either (f u x) (list_any (f u) xs) (g u))
    ∙ both_all (λ u. not (f u x) || g u) (λ u. not (list_any (f u) xs) || g u) us
    ∙ ap (λ b. list_all (λ u. not (f u x) || g u) us && b) (spread f g us xs)

-- ---- lists of lists

pub all_flat : {A B : Type 0} (k : A → List B) (f : B → Bool) (xs : List A) → list_all f (flat_map k xs) ≡ list_all (λ x. list_all f (k x)) xs
all_flat k f [] = refl
all_flat k f (x ∷ xs) = list_all-append f (k x) (flat_map k xs) ∙ ap (λ b. list_all f (k x) && b) (all_flat k f xs)

-- The elements that are picked.
pub picked : {Z U : Type 0} (m : Z → Bool) (s : Z → U) (g : U → Bool) (zs : List Z)
    → list_all g (flat_map (λ z. if m z then s z ∷ [] else []) zs) ≡ list_all (λ z. not (m z) || g (s z)) zs
picked m s g [] = refl
picked m s g (z ∷ zs) = by_test (m z) (picked m s g zs)
  where
    by_test : (t : Bool) → list_all g (flat_map (λ z. if m z then s z ∷ [] else []) zs) ≡ list_all (λ z. not (m z) || g (s z)) zs
        → list_all g ((if t then s z ∷ [] else []) ++ flat_map (λ z. if m z then s z ∷ [] else []) zs)
        ≡ ((not t || g (s z)) && list_all (λ z. not (m z) || g (s z)) zs)
    by_test true rest = ap (λ b. g (s z) && b) rest
    by_test false rest = rest

pub any_joined : {A B : Type 0} (t : A → Bool) (k : A → List B) (f : B → Bool) (xs : List A)
    → list_any f (flat_map (λ x. if t x then k x else []) xs) ≡ list_any (λ x. t x && list_any f (k x)) xs
any_joined t k f [] = refl
any_joined t k f (x ∷ xs) =
    list_any-append f (if t x then k x else []) (flat_map (λ x. if t x then k x else []) xs)
    ∙ (λ i. by_test (t x) i || any_joined t k f xs i)
  where
    by_test : (b : Bool) → list_any f (if b then k x else []) ≡ (b && list_any f (k x))
    by_test true = refl
    by_test false = refl

-- ---- whatever was added is there

module _ {S X Y : Type 0} (holds : S → Y → Bool) (add : S → X → S) (key : X → Y)
    (kept : (s : S) (x : X) (y : Y) → holds s y ≡ true → holds (add s x) y ≡ true) (there : (s : S) (x : X) → holds (add s x) (key x) ≡ true) where
  all_kept : (s : S) (xs : List X) (y : Y) → holds s y ≡ true → holds (fold add s xs) y ≡ true
  all_kept s [] y h = h
  all_kept s (x ∷ xs) y h = all_kept (add s x) xs y (kept s x y h)

  each_there : (s : S) (xs : List X) → list_all (λ x. holds (fold add s xs) (key x)) xs ≡ true
  each_there s [] = refl
  each_there s (x ∷ xs) = λ i. all_kept (add s x) xs (key x) (there s x) i && each_there (add s x) xs i

  -- As above, for rows.
  rows_kept : {R : Type 0} (items : R → List X) (s : S) (rows : List R) (y : Y) → holds s y ≡ true → holds (fold (λ s row. fold add s (items row)) s rows) y ≡ true
  rows_kept items s [] y h = h
  rows_kept items s (row ∷ rows) y h = rows_kept items (fold add s (items row)) rows y (all_kept s (items row) y h)

  each_kept : {R : Type 0} (items : R → List X) (s : S) (rows : List R) (xs : List X) → list_all (λ x. holds s (key x)) xs ≡ true
      → list_all (λ x. holds (fold (λ s row. fold add s (items row)) s rows) (key x)) xs ≡ true
  each_kept items s rows [] h = refl
  each_kept items s rows (x ∷ xs) h =
      λ i. rows_kept items s rows (key x) (and_left (holds s (key x)) (list_all (λ x. holds s (key x)) xs) h) i
      && each_kept items s rows xs (and_right (holds s (key x)) (list_all (λ x. holds s (key x)) xs) h) i

  pub rows_there : {R : Type 0} (items : R → List X) (s : S) (rows : List R)
      → list_all (λ row. list_all (λ x. holds (fold (λ s row. fold add s (items row)) s rows) (key x)) (items row)) rows ≡ true
  rows_there items s [] = refl
  rows_there items s (row ∷ rows) =
      λ i. each_kept items (fold add s (items row)) rows (items row) (each_there s (items row)) i && rows_there items (fold add s (items row)) rows i
