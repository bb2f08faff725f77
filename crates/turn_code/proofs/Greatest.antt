-- The greatest of some numbers, and the least length of a list that holds each number from 1 to n.
use Rattle.std.proofs.Common.{◌≡◌, ◌≢◌, ℕ, zero, suc, ◌<◌, ◌≤◌, ◌⊎◌, inl, inr, eqb, true, false, if◌then◌else◌, List, [], ◌∷◌, length, map, Some, refl, sym, ap, ◌∙◌, subst, ⊎_elim, arith, le_trans}
use Rattle.std.specs.Prelude.{slice_get, slice_index_or, Contains, All}
use Rattle.std.proofs.Math.Nat.{le-max_left, le-max_right, max-eq_left, max-eq_right}
use Rattle.std.proofs.lemmas.Bool.{cases_lt}
use Rattle.std.proofs.lemmas.Bool.Decides.{eqb_tells}
use Rattle.turn_code.specs.Rules.{greatest}

pub all_contains : {A : Type 0} (P : A → Type 0) (xs : List A) (x : A) → All P xs → Contains xs x → P x
all_contains P xs x h c = subst P c.2 (h c.0 x c.1)

pub greatest_at : (f : ℕ → ℕ) (js : List ℕ) (i d : ℕ) → i < length js → f (slice_index_or js i d) ≤ greatest (map f js)
greatest_at f [] i d h = absurd (omega arith)
greatest_at f (j ∷ js) zero d h = le-max_left (f j) (greatest (map f js))
greatest_at f (j ∷ js) (suc i) d h = le_trans (greatest_at f js i d (omega arith)) (le-max_right (f j) (greatest (map f js)))

pub greatest_has : (f : ℕ → ℕ) (js : List ℕ) (j : ℕ) → Contains js j → f j ≤ greatest (map f js)
greatest_has f js j c = subst (λ u. f u ≤ greatest (map f js)) c.2 (greatest_at f js c.0 j c.1)

pub greatest_in : {A : Type 0} (f : A → ℕ) (xs : List A) (k : ℕ) (x : A) → slice_get xs k ≡ Some x → f x ≤ greatest (map f xs)
greatest_in f [] k x h = cc
greatest_in f (y ∷ ys) zero x h =
    let e : y ≡ x = cc in
    subst (λ u. f u ≤ greatest (map f (y ∷ ys))) e (le-max_left (f y) (greatest (map f ys)))
greatest_in f (y ∷ ys) (suc k) x h = le_trans (greatest_in f ys k x h) (le-max_right (f y) (greatest (map f ys)))

-- one of the numbers is the greatest
pub record Attained (f : ℕ → ℕ) (js : List ℕ) : Type 0 where
  pub at : ℕ
  pub in_list : Contains js at
  pub is : f at ≡ greatest (map f js)

attained_first : (f : ℕ → ℕ) (j : ℕ) (js : List ℕ) → greatest (map f js) ≤ f j → Attained f (j ∷ js)
attained_first f j js h = record { at = j; in_list = (0, omega arith, refl); is = sym (max-eq_left h) }

later : (j : ℕ) (js : List ℕ) (i : ℕ) → Contains js i → Contains (j ∷ js) i
later j js i c = (suc c.0, omega (arith, c.1), c.2)

pub attained : (f : ℕ → ℕ) (j : ℕ) (js : List ℕ) → Attained f (j ∷ js)
attained f j [] = attained_first f j [] (omega arith)
attained f j (i ∷ js) =
    let rest = attained f i js in
    ⊎_elim
    (λ (h : greatest (map f (i ∷ js)) < f j). attained_first f j (i ∷ js) (omega (arith, h)))
    (λ (h : f j ≤ greatest (map f (i ∷ js))).
    record { at = rest.at; in_list = later j (i ∷ js) rest.at rest.in_list; is = rest.is ∙ sym (max-eq_right h) })
    (cases_lt (greatest (map f (i ∷ js))) (f j))

-- ---- a list that holds each number from 1 to n is at least n long
pub IsIn : ℕ → List ℕ → Type 0
IsIn c [] = ⊥
IsIn c (x ∷ xs) = (x ≡ c) ⊎ IsIn c xs

without : ℕ → List ℕ → List ℕ
without c [] = []
without c (x ∷ xs) = if eqb x c then xs else (x ∷ without c xs)

length_without : (c : ℕ) (xs : List ℕ) → IsIn c xs → length xs ≡ suc (length (without c xs))
unfolding IsIn without
length_without c [] h = absurd h
length_without c (x ∷ xs) h =
    ⊎_elim
    (λ (same : (eqb x c ≡ true) × (x ≡ c)). rw same.0 refl)
    (λ (other : (eqb x c ≡ false) × (x ≢ c)).
    let deeper : IsIn c xs = ⊎_elim (λ (e : x ≡ c). absurd (other.1 e)) (λ (i : IsIn c xs). i) h in
    rw other.0 (ap suc (length_without c xs deeper)))
    (eqb_tells x c)

kept : (c a : ℕ) (xs : List ℕ) → a ≢ c → IsIn a xs → IsIn a (without c xs)
unfolding IsIn without
kept c a [] ne h = absurd h
kept c a (x ∷ xs) ne h =
    ⊎_elim
    (λ (same : (eqb x c ≡ true) × (x ≡ c)).
    rw same.0 (⊎_elim (λ (e : x ≡ a). absurd (ne (sym e ∙ same.1))) (λ (i : IsIn a xs). i) h))
    (λ (other : (eqb x c ≡ false) × (x ≢ c)).
    rw other.0 (⊎_elim (λ (e : x ≡ a). inl e) (λ (i : IsIn a xs). inr (kept c a xs ne i)) h))
    (eqb_tells x c)

pub long_enough : (n : ℕ) (xs : List ℕ) → ((c : ℕ) → 1 ≤ c → c ≤ n → IsIn c xs) → n ≤ length xs
long_enough zero xs h = omega arith
long_enough (suc n) xs h =
    let shorter = length_without (suc n) xs (h (suc n) (omega arith) (omega arith)) in
    let rest = long_enough n (without (suc n) xs)
    (λ c low high. let ne : c ≢ suc n = omega arith in kept (suc n) c xs ne (h c low (omega arith))) in
    omega arith

pub in_map : {A : Type 0} (f : A → ℕ) (xs : List A) (k : ℕ) (x : A) → slice_get xs k ≡ Some x → IsIn (f x) (map f xs)
unfolding IsIn
in_map f [] k x h = cc
in_map f (y ∷ ys) zero x h = let e : y ≡ x = cc in inl (ap f e)
in_map f (y ∷ ys) (suc k) x h = inr (in_map f ys k x h)
