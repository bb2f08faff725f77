-- Marks by number.
use Rattle.std.proofs.Common.{◌≡◌, ℕ, zero, suc, ◌+◌, ◌<◌, Bool, true, false, ◌||◌, if◌then◌else◌, List, [], ◌∷◌, ◌++◌, length, map, replicate, refl, ap, ◌∙◌, arith, Some, None}
use Rattle.std.specs.Prelude.{slice_get, filter}
use Rattle.std.specs.List.{list_any}
use Rattle.sdl_warnings.specs.Marked.{is_marked, marked_only}

-- one more at the end
pub marked_before : (xs : List Bool) (b : Bool) (n : ℕ) → n < length xs → is_marked (xs ++ b ∷ []) n ≡ is_marked xs n
marked_before [] b n within = absurd (omega (arith, within))
marked_before (x ∷ xs) b zero within = refl
marked_before (x ∷ xs) b (suc n) within = marked_before xs b n (omega (arith, within))

pub marked_last : (xs : List Bool) (b : Bool) → is_marked (xs ++ b ∷ []) (length xs) ≡ b
marked_last [] b = refl
marked_last (x ∷ xs) b = marked_last xs b

-- none past the end, and none where there are none
pub marked_past : (xs : List Bool) (n : ℕ) → (n < length xs → ⊥) → is_marked xs n ≡ false
marked_past [] zero past = refl
marked_past [] (suc n) past = refl
marked_past (x ∷ xs) zero past = absurd (past (omega arith))
marked_past (x ∷ xs) (suc n) past = marked_past xs n (λ h. past (omega (arith, h)))

pub marked_none : (count n : ℕ) → is_marked (replicate count false) n ≡ false
marked_none zero zero = refl
marked_none zero (suc n) = refl
marked_none (suc count) zero = refl
marked_none (suc count) (suc n) = marked_none count n

-- marks of what a test says
pub marked_map : {A : Type 0} (f : A → Bool) (xs : List A) (n : ℕ) (x : A) → slice_get xs n ≡ Some x → is_marked (map f xs) n ≡ f x
marked_map f [] n x h = let bad : None ≡ Some x = h in absurd (cc)
marked_map f (y ∷ xs) zero x h = let e : Some y ≡ Some x = h in ap f (let k : y ≡ x = cc in k)
marked_map f (y ∷ xs) (suc n) x h = marked_map f xs n x h

by_passing : {A : Type 0} (f : A → Bool) (x : A) (xs : List A) (b : Bool) → f x ≡ b → marked_only (map f xs) xs ≡ filter f xs → marked_only (f x ∷ map f xs) (x ∷ xs) ≡ filter f (x ∷ xs)
by_passing f x xs true h rest = rw h (ap (λ l. x ∷ l) rest)
by_passing f x xs false h rest = rw h rest

pub only_passing : {A : Type 0} (f : A → Bool) (xs : List A) → marked_only (map f xs) xs ≡ filter f xs
only_passing f [] = refl
only_passing f (x ∷ xs) = by_passing f x xs (f x) refl (only_passing f xs)

none_left : {A : Type 0} (marks : List Bool) → marked_only {X = A} marks [] ≡ []
none_left [] = refl
none_left (b ∷ marks) = refl

-- one element more
pub only_push : {A : Type 0} (marks : List Bool) (ys : List A) (y : A) → marked_only marks (ys ++ y ∷ []) ≡ marked_only marks ys ++ (if is_marked marks (length ys) then y ∷ [] else [])
only_push [] [] y = refl
only_push [] (z ∷ ys) y = refl
only_push (true ∷ marks) [] y = ap (λ l. y ∷ l) (none_left marks)
only_push (false ∷ marks) [] y = none_left marks
only_push (true ∷ marks) (z ∷ ys) y = ap (λ l. z ∷ l) (only_push marks ys y)
only_push (false ∷ marks) (z ∷ ys) y = only_push marks ys y

-- ---- tests that say the same

pub any_same : {A : Type 0} (f g : A → Bool) (xs : List A) → ((x : A) → f x ≡ g x) → list_any f xs ≡ list_any g xs
any_same f g [] h = refl
any_same f g (x ∷ xs) h = ap (λ b. b || list_any f xs) (h x) ∙ ap (λ b. g x || b) (any_same f g xs h)

pub filter_same : {A : Type 0} (f g : A → Bool) (xs : List A) → ((x : A) → f x ≡ g x) → filter f xs ≡ filter g xs
filter_same f g [] h = refl
filter_same f g (x ∷ xs) h = ap (λ b. if b then x ∷ filter f xs else filter f xs) (h x) ∙ ap (λ l. if g x then x ∷ l else l) (filter_same f g xs h)
