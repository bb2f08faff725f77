-- Answers that name truth values: one of the two has an answer, and the sort of the question decides the answers.
use Rattle.std.proofs.Common.{◌≡◌, ◌+◌, ◌<◌, Bool, true, false, cond, ◌&&◌, List, [], ◌∷◌, ◌⊎◌, inl, inr, Some, refl, arith, nat_lt, nat_eq}
use Rattle.std.specs.List.{list_any, sum_by}
use Rattle.std.proofs.lemmas.Bool.Decides.{nat_tests}
use Rattle.std.proofs.lemmas.List.Sums.{sum_by-cons}
use Rattle.sdl_ast.specs.declared.tree.Sort as tree_sort
use Rattle.sdl_ast.specs.declared.tree.Sort.TheVariants as tree_sorts
use Rattle.sdl_ast.specs.declared.tree.Literal.{Literal}
use Rattle.sdl_ast.specs.declared.tree.Literal.TheVariants as literals
use Rattle.sdl_ast.specs.declared.tree.Range.{Range}
use Rattle.sdl_ast.specs.declared.tree.Range.TheVariants as ranges
use Rattle.sdl_ast.specs.Plain.{Choice}
use Rattle.turn_code.specs.declared.value.Sort.TheVariants.{Integer, Boolean}
use Rattle.sdl_sound.specs.Sorts.{has_sort}
use Rattle.sdl_sound.specs.Decisions.{has_else, is_value, names_value, times_named, answers_both}
use Rattle.sdl_meaning.specs.Code.{is_literal, names_truth}
use Rattle.sdl_meaning.specs.Declarations.{sort_of_tree}
use Rattle.plain_laws.proofs.Truths.{neither_second as or_back, neither_first as or_front, and_second, and_first}

not_named : (b : Bool) (k : Literal) → is_literal b k ≡ false → is_value b k ≡ 0
not_named b (literals.Integer k) e = refl
not_named true (literals.Boolean true) e = absurd (let k : ⊥ = cc in k)
not_named true (literals.Boolean false) e = refl
not_named false (literals.Boolean true) e = refl
not_named false (literals.Boolean false) e = absurd (let k : ⊥ = cc in k)

not_covered : (b : Bool) (r : Range) → names_truth b r ≡ false → names_value b r ≡ 0
not_covered b (ranges.Value k) e = not_named b k.value e
not_covered b (ranges.Compared at r k) e = refl
not_covered b (ranges.Between low high) e = refl

pub none_named : (b : Bool) (rs : List Range) → list_any (names_truth b) rs ≡ false → sum_by (names_value b) rs ≡ 0
none_named b [] e = refl
none_named b (r ∷ rs) e =
    let f = not_covered b r (or_front (names_truth b r) (list_any (names_truth b) rs) e) in
    let g = none_named b rs (or_back (names_truth b r) (list_any (names_truth b) rs) e) in
    omega (arith, f, g, sum_by-cons (names_value b) r rs)

pub both_named : (choice : Choice) (b : Bool) → answers_both choice ≡ true → (has_else choice ≡ true) ⊎ (0 < times_named b choice)
both_named choice b h = by_else (has_else choice) b refl h
  where
    by_else : (x b : Bool) → has_else choice ≡ x → cond x (nat_lt (times_named true choice + times_named false choice) 2) (nat_eq (times_named true choice) 1 && nat_eq (times_named false choice) 1) ≡ true → (x ≡ true) ⊎ (0 < times_named b choice)
    by_else true b e h = inl refl
    by_else false true e h = inr (let f : nat_eq (times_named true choice) 1 ≡ true = and_first (nat_eq (times_named true choice) 1) (nat_eq (times_named false choice) 1) h in grind (arith, nat_tests))
    by_else false false e h = inr (let f : nat_eq (times_named false choice) 1 ≡ true = and_second (nat_eq (times_named true choice) 1) (nat_eq (times_named false choice) 1) h in grind (arith, nat_tests))

pub truth_sort : (r : tree_sort.Sort) → has_sort tree_sorts.Boolean (Some r) ≡ true → sort_of_tree r ≡ Boolean
truth_sort tree_sorts.Integer e = absurd (let k : ⊥ = cc in k)
truth_sort tree_sorts.Boolean e = refl

pub number_sort : (r : tree_sort.Sort) → has_sort tree_sorts.Boolean (Some r) ≡ false → sort_of_tree r ≡ Integer
number_sort tree_sorts.Integer e = refl
number_sort tree_sorts.Boolean e = absurd (let k : ⊥ = cc in k)

pub answered_truth : (b : Bool) (x y : Bool) → b ≡ true → cond b x y ≡ true → x ≡ true
answered_truth true x y e h = h
answered_truth false x y e h = absurd (let k : ⊥ = cc in k)

pub answered_number : (b : Bool) (x y : Bool) → b ≡ false → cond b x y ≡ true → y ≡ true
answered_number true x y e h = absurd (let k : ⊥ = cc in k)
answered_number false x y e h = h
