-- A filter keeps one more item at the end of a list. Used for the items of a TASK.
use Rattle.std.proofs.Common.{◌≡◌, List, [], ◌∷◌, ◌++◌, Option, Some, None, length, map, refl, ap, arith}
use Rattle.std.specs.List.{filter_map}
use Rattle.std.specs.Option.{option_to_list}

pub kept_more : {A B : Type 0} (f : A → Option B) (xs : List A) (x : A)
    → filter_map (λ i. i) (map f (xs ++ x ∷ [])) ≡ filter_map (λ i. i) (map f xs) ++ option_to_list (f x)
kept_more {A} {B} f [] x = by_value (f x)
  where
    by_value : (o : Option B) → filter_map (λ i. i) (o ∷ []) ≡ option_to_list o
    by_value None = refl
    by_value (Some y) = refl
kept_more {A} {B} f (z ∷ xs) x = by_value (f z) (kept_more f xs x)
  where
    by_value : (o : Option B) → filter_map (λ i. i) (map f (xs ++ x ∷ [])) ≡ filter_map (λ i. i) (map f xs) ++ option_to_list (f x)
        → filter_map (λ i. i) (o ∷ map f (xs ++ x ∷ [])) ≡ filter_map (λ i. i) (o ∷ map f xs) ++ option_to_list (f x)
    by_value None e = e
    by_value (Some y) e = ap (λ l. y ∷ l) e

-- As `kept_more`, for a filter `f` on the views `g` of items.
pub kept_by : {A B C : Type 0} (f : B → Option C) (g : A → B) (xs : List A) (x : A)
    → filter_map f (map g (xs ++ x ∷ [])) ≡ filter_map f (map g xs) ++ option_to_list (f (g x))
kept_by {A} {B} {C} f g [] x = by_value (f (g x)) refl
  where
    by_value : (o : Option C) → f (g x) ≡ o → filter_map f (g x ∷ []) ≡ option_to_list o
    by_value None e = rw e refl
    by_value (Some y) e = rw e refl
kept_by {A} {B} {C} f g (z ∷ xs) x = by_value (f (g z)) refl (kept_by f g xs x)
  where
    by_value : (o : Option C) → f (g z) ≡ o → filter_map f (map g (xs ++ x ∷ [])) ≡ filter_map f (map g xs) ++ option_to_list (f (g x))
        → filter_map f (g z ∷ map g (xs ++ x ∷ [])) ≡ filter_map f (g z ∷ map g xs) ++ option_to_list (f (g x))
    by_value None e h = rw e h
    by_value (Some y) e h = rw e (ap (λ l. y ∷ l) h)

pub nothing_left : {X : Type 0} (l : List X) → length l ≡ 0 → l ≡ []
nothing_left [] h = refl
nothing_left (x ∷ xs) h = absurd (omega arith)
