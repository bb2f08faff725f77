-- An answer of which nothing is left where a range begins or ends has nothing left at all.
use Rattle.std.proofs.Common.{◌≡◌, ◌⊎◌, inl, inr, ℕ, zero, suc, ◌+◌, Bool, true, false, not, ◌&&◌, ◌||◌, List, [], ◌∷◌, refl, sym, ap, ◌∙◌, subst, arith}
use Rattle.std.proofs.lemmas.Int.{ints}
use Rattle.std.specs.Prelude.{ℤ, pos, negsuc, ◌+ℤ◌, ◌≤ℤ◌, int_lt}
use Rattle.std.specs.List.{list_any, list_all}
use Rattle.std.proofs.lemmas.Bool.{cases_eq, not-true, or_cases, and_from}
use Rattle.plain_laws.proofs.Truths.{and_first, and_second}
use Rattle.sdl_ast.specs.declared.tree.Literal.{Literal}
use Rattle.sdl_ast.specs.declared.tree.Literal.TheVariants.{Integer, Boolean}
use Rattle.sdl_ast.specs.declared.tree.Relation.{Relation}
use Rattle.sdl_ast.specs.declared.tree.Relation.TheVariants.{Equal, NotEqual, Less, LessEqual, Greater, GreaterEqual}
use Rattle.sdl_ast.specs.declared.tree.Range.{Range}
use Rattle.sdl_ast.specs.declared.tree.Range.TheVariants.{Value, Compared, Between}
use Rattle.sdl_warnings.specs.Values.{compares, stands, has_value, is_left, none_from, LEAST, INTEGERS}
use Rattle.sdl_warnings.specs.Bounds.{GREATEST, none_at, none_at_range, IsLeft}

-- the next Integer stands to a constant as this one does, unless one of them is the constant
same_side : (r : Relation) (x k : ℤ) → (x ≡ k → ⊥) → (x +ℤ pos 1 ≡ k → ⊥) → compares r (x +ℤ pos 1) k ≡ compares r x k
same_side Equal x k h i = grind (arith, ints)
same_side NotEqual x k h i = grind (arith, ints)
same_side Less x k h i = grind (arith, ints)
same_side LessEqual x k h i = grind (arith, ints)
same_side Greater x k h i = grind (arith, ints)
same_side GreaterEqual x k h i = grind (arith, ints)

eq_or : (x k : ℤ) → (x ≡ k) ⊎ (x ≡ k → ⊥)
eq_or (pos a) (pos b) = elim (cases_eq a b) [
  | inl e ↦ inl (ap pos e)
  | inr h ↦ inr (λ e. h (omega (arith, ints, e)))
]
eq_or (pos a) (negsuc b) = inr (λ e. absurd (omega (arith, ints, e)))
eq_or (negsuc a) (pos b) = inr (λ e. absurd (omega (arith, ints, e)))
eq_or (negsuc a) (negsuc b) = elim (cases_eq a b) [
  | inl e ↦ inl (ap negsuc e)
  | inr h ↦ inr (λ e. h (omega (arith, ints, e)))
]

-- a place where a range begins or ends
at_bound : (T : Literal → Bool) (x k : ℤ) → none_at T (Integer k) ≡ true → (x +ℤ pos 1) ≤ℤ GREATEST → (x ≡ k) ⊎ (x +ℤ pos 1 ≡ k) → T (Integer (x +ℤ pos 1)) ≡ false
at_bound T x k none fits (inr e) = subst (λ y. T (Integer y) ≡ false) (sym e) (not-true (T (Integer k)) (and_first _ _ none))
at_bound T x k none fits (inl e) =
    let below : int_lt k GREATEST ≡ true = grind (arith, ints, e, fits) in
    let behind : T (Integer (k +ℤ pos 1)) ≡ false = elim (or_cases (not (int_lt k GREATEST)) _ (and_second _ _ none)) [
      | inl past ↦ absurd (let bad : true ≡ false = sym below ∙ not-true (int_lt k GREATEST) past in cc)
      | inr free ↦ not-true (T (Integer (k +ℤ pos 1))) free
    ] in
    subst (λ y. T (Integer (y +ℤ pos 1)) ≡ false) (sym e) behind

constant_step : (T : Literal → Bool) (r : Relation) (x : ℤ) (c : Literal) → none_at T c ≡ true → (x +ℤ pos 1) ≤ℤ GREATEST
    → (stands r (x +ℤ pos 1) c ≡ stands r x c) ⊎ (T (Integer (x +ℤ pos 1)) ≡ false)
constant_step T r x (Boolean b) none fits = inl refl
constant_step T r x (Integer k) none fits = elim (eq_or x k) [
  | inl e ↦ inr (at_bound T x k none fits (inl e))
  | inr h ↦ elim (eq_or (x +ℤ pos 1) k) [
    | inl e ↦ inr (at_bound T x k none fits (inr e))
    | inr i ↦ inl (same_side r x k h i)
  ]
]

range_step : (T : Literal → Bool) (x : ℤ) (r : Range) → none_at_range T r ≡ true → (x +ℤ pos 1) ≤ℤ GREATEST
    → (has_value (Integer (x +ℤ pos 1)) r ≡ has_value (Integer x) r) ⊎ (T (Integer (x +ℤ pos 1)) ≡ false)
range_step T x (Value k) none fits = constant_step T Equal x k.value none fits
range_step T x (Compared at r k) none fits = constant_step T r x k.value none fits
range_step T x (Between low high) none fits = elim (constant_step T GreaterEqual x low.value (and_first _ _ none) fits) [
  | inr f ↦ inr f
  | inl a ↦ elim (constant_step T LessEqual x high.value (and_second _ _ none) fits) [
    | inr f ↦ inr f
    | inl b ↦ inl (ap (λ u. u && stands LessEqual (x +ℤ pos 1) high.value) a ∙ ap (λ u. stands GreaterEqual x low.value && u) b)
  ]
]

ranges_step : (T : Literal → Bool) (x : ℤ) (rs : List Range) → list_all (none_at_range T) rs ≡ true → (x +ℤ pos 1) ≤ℤ GREATEST
    → (list_any (has_value (Integer (x +ℤ pos 1))) rs ≡ list_any (has_value (Integer x)) rs) ⊎ (T (Integer (x +ℤ pos 1)) ≡ false)
ranges_step T x [] none fits = inl refl
ranges_step T x (r ∷ rs) none fits = elim (range_step T x r (and_first _ _ none) fits) [
  | inr f ↦ inr f
  | inl a ↦ elim (ranges_step T x rs (and_second _ _ none) fits) [
    | inr f ↦ inr f
    | inl b ↦ inl (ap (λ u. u || list_any (has_value (Integer (x +ℤ pos 1))) rs) a ∙ ap (λ u. has_value (Integer x) r || u) b)
  ]
]

-- from one Integer to the next
next_spent : (earlier own : List Range) → list_all (none_at_range (is_left earlier own)) own ≡ true → list_all (none_at_range (is_left earlier own)) earlier ≡ true
    → (x : ℤ) → (x +ℤ pos 1) ≤ℤ GREATEST → is_left earlier own (Integer x) ≡ false → is_left earlier own (Integer (x +ℤ pos 1)) ≡ false
next_spent earlier own owns earliers x fits none = elim (ranges_step (is_left earlier own) x own owns fits) [
  | inr f ↦ f
  | inl a ↦ elim (ranges_step (is_left earlier own) x earlier earliers fits) [
    | inr f ↦ f
    | inl b ↦ ap (λ u. u && not (list_any (has_value (Integer (x +ℤ pos 1))) earlier)) a ∙ (ap (λ u. list_any (has_value (Integer x)) own && not u) b ∙ none)
  ]
]

run_spent : (f : ℤ → Bool) → ((x : ℤ) → (x +ℤ pos 1) ≤ℤ GREATEST → f x ≡ false → f (x +ℤ pos 1) ≡ false) → (n : ℕ) (x : ℤ) → x +ℤ pos n ≡ GREATEST +ℤ pos 1 → f x ≡ false
    → none_from f x n ≡ true
run_spent f step zero x e h = refl
run_spent f step (suc zero) x e h = and_from (not (f x)) true (ap not h) refl
run_spent f step (suc (suc n)) x e h =
    and_from (not (f x)) (none_from f (x +ℤ pos 1) (suc n)) (ap not h)
    (run_spent f step (suc n) (x +ℤ pos 1) (omega (arith, ints, e)) (step x (omega (arith, ints, e)) h))

all_integers : LEAST +ℤ pos INTEGERS ≡ GREATEST +ℤ pos 1
unfolding INTEGERS
all_integers = refl

pub spent : (earlier own : List Range) → list_all (none_at_range (is_left earlier own)) own ≡ true → list_all (none_at_range (is_left earlier own)) earlier ≡ true
    → is_left earlier own (Integer LEAST) ≡ false → none_from (λ x. is_left earlier own (Integer x)) LEAST INTEGERS ≡ true
spent earlier own owns earliers first =
    run_spent (λ x. is_left earlier own (Integer x)) (next_spent earlier own owns earliers) INTEGERS LEAST all_integers first

-- ---- an Integer that is left

no_and : (b : Bool) → (b && false) ≡ false
no_and true = refl
no_and false = refl

left_from : (f : ℤ → Bool) (n : ℕ) (x v : ℤ) → x ≤ℤ v → (v +ℤ pos 1) ≤ℤ (x +ℤ pos n) → f v ≡ true → none_from f x n ≡ false
left_from f zero x v least greatest h = absurd (omega (arith, ints, least, greatest))
left_from f (suc n) x v least greatest h = elim (eq_or x v) [
  | inl e ↦ ap (λ b. not b && none_from f (x +ℤ pos 1) n) (ap f e ∙ h)
  | inr other ↦ ap (λ b. not (f x) && b) (left_from f n (x +ℤ pos 1) v (next_least x v least other) (omega (arith, ints, greatest)) h) ∙ no_and (not (f x))
]
  where
    next_least : (x v : ℤ) → x ≤ℤ v → (x ≡ v → ⊥) → (x +ℤ pos 1) ≤ℤ v
    next_least x v least other = grind (arith, ints)

pub unspent : (earlier own : List Range) (v : ℤ) → IsLeft earlier own v → none_from (λ x. is_left earlier own (Integer x)) LEAST INTEGERS ≡ false
unspent earlier own v left =
    left_from (λ x. is_left earlier own (Integer x)) INTEGERS LEAST v left.least
    (subst (λ y. (v +ℤ pos 1) ≤ℤ y) (sym all_integers) (omega (arith, ints, left.greatest))) left.left

-- ---- what is made of all three

pub truth_left : (a b c : Bool) → b ≡ true → (a && (not b && c)) ≡ false
truth_left true b c h = ap (λ u. not u && c) h
truth_left false b c h = refl

pub untruth_left : (a b c : Bool) → c ≡ true → (a && (not b && not c)) ≡ false
untruth_left true true c h = refl
untruth_left true false c h = ap not h
untruth_left false b c h = refl

pub integer_left : (a b : Bool) → a ≡ false → (a && b) ≡ false
integer_left a b h = ap (λ u. u && b) h

pub nothing_left : (a b c : Bool) → a ≡ true → b ≡ false → c ≡ false → (a && (not b && not c)) ≡ true
nothing_left a b c h i j = ap (λ u. u && (not b && not c)) h ∙ (ap (λ u. not u && not c) i ∙ ap not j)
