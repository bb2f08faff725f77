-- The numbers below one.
use Rattle.std.proofs.Common.{◌≡◌, ℕ, zero, suc, ◌+◌, ◌<◌, Bool, ◌||◌, List, [], ◌∷◌, ◌++◌, length, map, refl, sym, ap, ◌∙◌, arith, Some}
use Rattle.std.specs.Prelude.{slice_get}
use Rattle.std.specs.List.{list_any, enumerate_from}
use Rattle.std.proofs.lemmas.List.{map_push}
use Rattle.std.proofs.lemmas.List.Folds.{list_any-append}
use Rattle.sdl_ast.specs.Plain.{PlainProcess}
use Rattle.sdl_tables.specs.Names.{states_of, inputs_of, inputs_by_state}
use Rattle.sdl_warnings.specs.Ways.{upto, state_numbers}

pub upto_more : (n : ℕ) → upto (n + 1) ≡ upto n ++ n ∷ []
upto_more n = ap upto (let e : n + 1 ≡ suc n = omega arith in e)

-- from the front
pub upto_front : (n : ℕ) → upto (suc n) ≡ 0 ∷ map suc (upto n)
upto_front zero = refl
upto_front (suc n) =
    ap (λ l. l ++ suc n ∷ []) (upto_front n) ∙ ap (λ l. 0 ∷ l) (sym (map_push suc (upto n) n))

map_same : {A B : Type 0} (f g : A → B) (xs : List A) → ((x : A) → f x ≡ g x) → map f xs ≡ map g xs
map_same f g [] h = refl
map_same f g (x ∷ xs) h = ap (λ y. y ∷ map f xs) (h x) ∙ ap (λ l. g x ∷ l) (map_same f g xs h)

map_suc : {B : Type 0} (f : ℕ → B) (k : ℕ) (xs : List ℕ) → map (λ n. f (k + n)) (map suc xs) ≡ map (λ n. f (k + suc n)) xs
map_suc f k [] = refl
map_suc f k (x ∷ xs) = ap (λ l. f (k + suc x) ∷ l) (map_suc f k xs)

numbers_from : {A B : Type 0} (f : ℕ → B) (k : ℕ) (xs : List A) → map (λ (s : ℕ × A). f s.0) (enumerate_from k xs) ≡ map (λ n. f (k + n)) (upto (length xs))
numbers_from f k [] = refl
numbers_from f k (x ∷ xs) =
    let inner = numbers_from f (k + 1) xs in
    let shift : map (λ n. f (k + 1 + n)) (upto (length xs)) ≡ map (λ n. f (k + suc n)) (upto (length xs)) =
    map_same (λ n. f (k + 1 + n)) (λ n. f (k + suc n)) (upto (length xs)) (λ n. ap f (let e : k + 1 + n ≡ k + suc n = omega arith in e)) in
    let first : f k ≡ f (k + 0) = ap f (let e : k ≡ k + 0 = omega arith in e) in
    ap (λ l. f k ∷ l) (inner ∙ (shift ∙ sym (map_suc f k (upto (length xs)))))
    ∙ (ap (λ y. y ∷ map (λ n. f (k + n)) (map suc (upto (length xs)))) first ∙ ap (map (λ n. f (k + n))) (sym (upto_front (length xs))))

upto_map : {B : Type 0} (f : ℕ → B) (n : ℕ) → map (λ m. f (0 + m)) (upto n) ≡ map f (upto n)
upto_map f n = map_same (λ m. f (0 + m)) f (upto n) (λ m. ap f (let e : 0 + m ≡ m = omega arith in e))

pub numbered : {A B : Type 0} (f : ℕ → B) (xs : List A) → map (λ (s : ℕ × A). f s.0) (enumerate_from 0 xs) ≡ map f (upto (length xs))
numbered f xs = numbers_from f 0 xs ∙ upto_map f (length xs)

pub by_numbers : (p : PlainProcess) → inputs_by_state p ≡ map (inputs_of p) (state_numbers p)
by_numbers p = numbered (inputs_of p) (states_of p)

-- what stands at a number below the count
pub at_upto : {B : Type 0} (f : ℕ → B) (n k : ℕ) → k < n → slice_get (map f (upto n)) k ≡ Some (f k)
at_upto f zero k within = absurd (omega (arith, within))
at_upto f (suc n) zero within = ap (λ l. slice_get (map f l) 0) (upto_front n)
at_upto f (suc n) (suc k) within =
    ap (λ l. slice_get (map f l) (suc k)) (upto_front n) ∙ (ap (λ l. slice_get l k) (map_after f (upto n)) ∙ at_upto (λ m. f (suc m)) n k (omega (arith, within)))
  where
    map_after : {B : Type 0} (f : ℕ → B) (xs : List ℕ) → map f (map suc xs) ≡ map (λ m. f (suc m)) xs
    map_after f [] = refl
    map_after f (x ∷ xs) = ap (λ l. f (suc x) ∷ l) (map_after f xs)

-- tests that say the same below a number
pub any_below : (f g : ℕ → Bool) (n : ℕ) → ((k : ℕ) → k < n → f k ≡ g k) → list_any f (upto n) ≡ list_any g (upto n)
any_below f g zero h = refl
any_below f g (suc n) h =
    list_any-append f (upto n) (n ∷ [])
    ∙ (ap (λ b. b || list_any f (n ∷ [])) (any_below f g n (λ k within. h k (omega (arith, within))))
    ∙ (ap (λ b. list_any g (upto n) || (b || list_any f [])) (h n (omega arith)) ∙ sym (list_any-append g (upto n) (n ∷ []))))
