-- Sorts as the text has them and as the draft has them.
use Rattle.std.proofs.Common.{◌≡◌, ℕ, zero, suc, ◌+◌, ◌<◌, ◌≤◌, Bool, true, false, not, cond, List, [], ◌∷◌, length, map, Option, Some, None, IsSome, refl, sym, ap, ◌∙◌, subst, arith, nat_lt}
use Rattle.std.specs.Prelude.{slice_get, find, option_map}
use Rattle.std.specs.List.{position, position_or_len}
use Rattle.std.specs.Option.{option_to_list, option_map_or}
use Rattle.std.proofs.lemmas.Bool.Decides.{nat_tests}
use Rattle.std.proofs.lemmas.List.{length-map}
use Rattle.sdl_ast.specs.declared.expression.Identifier.{Identifier}
use Rattle.sdl_ast.specs.declared.tree.Sort as tree_sort
use Rattle.sdl_ast.specs.declared.tree.Sort.TheVariants as tree_sorts
use Rattle.sdl_ast.specs.Plain.{Tree, number, truth, variable, unary, binary, PlainSignal, PlainBlock}
use Rattle.sdl_ast.specs.Places.{place_of}
use Rattle.turn_code.specs.declared.draft.DraftSignal.{DraftSignal}
use Rattle.turn_code.specs.declared.draft.DraftVariable.{DraftVariable}
use Rattle.turn_code.specs.Code.{sort_at}
use Rattle.turn_code.specs.Transitions.{parameters_of}
use Rattle.sdl_tables.specs.Names.{Variable, same_name, number_of, variables_of, signals_of, signal_names}
use Rattle.sdl_sound.specs.Sorts.{same_sort, has_sort, have_one_sort, variable_sort, unary_sort, binary_sort, sort_in, misfit, parameter_sorts}
use Rattle.sdl_meaning.specs.Outcomes.{Scope}
use Rattle.sdl_meaning.specs.Code.{number_or_zero}
use Rattle.sdl_meaning.specs.Named.{NamedTree}
use Rattle.sdl_meaning.specs.Declarations.{sort_of_tree, drafted, drafted_signal, drafted_signals, parameters_by}
use Rattle.std.proofs.lemmas.Option.{slice_get-map as slice_map}

-- The number of a name that exists is its place.
pub first_of_some : {A : Type 0} (p : A → Bool) (xs : List A) → IsSome (position p xs) → number_or_zero (position p xs) ≡ position_or_len p xs
first_of_some p xs h = by_test (nat_lt (position_or_len p xs) (length xs)) h
  where
    by_test : (b : Bool) → IsSome (cond b (Some (position_or_len p xs)) None) → number_or_zero (cond b (Some (position_or_len p xs)) None) ≡ position_or_len p xs
    by_test true h = refl
    by_test false h = absurd (let k : ⊥ = cc in k)

pub number_small : {A : Type 0} (p : A → Bool) (xs : List A) → IsSome (position p xs) → number_or_zero (position p xs) < length xs
number_small p xs h = by_test (nat_lt (position_or_len p xs) (length xs)) refl h
  where
    by_test : (b : Bool) → nat_lt (position_or_len p xs) (length xs) ≡ b → IsSome (cond b (Some (position_or_len p xs)) None) → number_or_zero (cond b (Some (position_or_len p xs)) None) < length xs
    by_test true e h = grind (arith, nat_tests)
    by_test false e h = absurd (let k : ⊥ = cc in k)

-- An item that is found is at its place.
module _ {A : Type 0} (name : A → Identifier) (x : List ℕ) where
  abbrev pub IsOf : A → Bool
  IsOf a = same_name x (name a).name

  abbrev pub place_in : List A → ℕ
  place_in xs = position_or_len (λ (id : Identifier). same_name x id.name) (map name xs)

  pub found_at : (xs : List A) → find IsOf xs ≡ slice_get xs (place_in xs)
  found_at [] = refl
  found_at (a ∷ xs) = by_test (IsOf a) (found_at xs)
    where
      by_test : (b : Bool) → find IsOf xs ≡ slice_get xs (place_in xs) → cond b (Some a) (find IsOf xs) ≡ slice_get (a ∷ xs) (cond (not b) (1 + place_in xs) 0)
      by_test true e = refl
      by_test false e = let f : 1 + place_in xs ≡ suc (place_in xs) = omega arith in e ∙ ap (λ k. slice_get (a ∷ xs) k) (sym f)

-- ---- variables

abbrev variable_name : Variable → Identifier
variable_name v = v.name

pub variable_sorted : (vs : List Variable) (x : List ℕ) (s : tree_sort.Sort) → IsSome (number_of (map variable_name vs) x) → variable_sort vs x ≡ Some s → sort_at (map drafted vs) (number_or_zero (number_of (map variable_name vs) x)) ≡ sort_of_tree s ∷ []
variable_sorted vs x s some e =
    let k = place_in variable_name x vs in
    let f : number_or_zero (number_of (map variable_name vs) x) ≡ k = first_of_some (λ (id : Identifier). same_name x id.name) (map variable_name vs) some in
    ap (sort_at (map drafted vs)) f ∙ ap (λ o. option_to_list (option_map (λ (x : DraftVariable). x.sort) o)) (slice_map drafted vs k) ∙ by_found (slice_get vs k) (ap (option_map (λ (v : Variable). v.sort)) (sym (found_at variable_name x vs)) ∙ e)
  where
    by_found : (o : Option Variable) → option_map (λ (v : Variable). v.sort) o ≡ Some s → option_to_list (option_map (λ (x : DraftVariable). x.sort) (option_map drafted o)) ≡ sort_of_tree s ∷ []
    by_found None e = absurd (let k : ⊥ = cc in k)
    by_found (Some v) e = let f : v.sort ≡ s = cc in ap (λ s. sort_of_tree s ∷ []) f

some_below : {A : Type 0} (xs : List A) (k : ℕ) → k < length xs → IsSome (slice_get xs k)
some_below [] k h = absurd (omega arith)
some_below (x ∷ xs) zero h = refl
some_below (x ∷ xs) (suc k) h = some_below xs k (omega arith)

-- A variable that exists has a sort.
pub record HasSort (o : Option tree_sort.Sort) : Type 0 where
  pub sort : tree_sort.Sort
  pub is : o ≡ Some sort

pub variable_has_sort : (vs : List Variable) (x : List ℕ) → IsSome (number_of (map variable_name vs) x) → HasSort (variable_sort vs x)
variable_has_sort vs x some =
    let k = place_in variable_name x vs in
    let f : number_or_zero (number_of (map variable_name vs) x) ≡ k = first_of_some (λ (id : Identifier). same_name x id.name) (map variable_name vs) some in
    let lt = number_small (λ (id : Identifier). same_name x id.name) (map variable_name vs) some in
    by_found (slice_get vs k) (found_at variable_name x vs) (some_below vs k (omega (arith, f, lt, length-map vs variable_name)))
  where
    by_found : (o : Option Variable) → find (λ (v : Variable). same_name x v.name.name) vs ≡ o → IsSome o → HasSort (variable_sort vs x)
    by_found None e h = absurd (let k : ⊥ = cc in k)
    by_found (Some v) e h = record { sort = v.sort; is = ap (option_map (λ (v : Variable). v.sort)) e }

-- An expression with known names has a sort.
pub tree_has_sort : (c : Scope) (t : Tree) → NamedTree c t → HasSort (sort_in (variables_of c.process) t)
tree_has_sort c (number at k) named = record { sort = tree_sorts.Integer; is = refl }
tree_has_sort c (truth at b) named = record { sort = tree_sorts.Boolean; is = refl }
tree_has_sort c (variable at n) named = variable_has_sort (variables_of c.process) n.name named
tree_has_sort c (unary at op t) named = record { sort = unary_sort op; is = refl }
tree_has_sort c (binary at op t u) named = record { sort = binary_sort op; is = refl }

-- ---- signals

abbrev signal_name : PlainSignal → Identifier
signal_name s = s.name

pub signal_sorted : (b : PlainBlock) (x : List ℕ) → IsSome (number_of (signal_names b) x) → parameters_of (slice_get (drafted_signals b) (number_or_zero (number_of (signal_names b) x))) ≡ map sort_of_tree (parameter_sorts b x)
signal_sorted b x some =
    let ss = signals_of b in
    let k = place_in signal_name x ss in
    let f : number_or_zero (number_of (signal_names b) x) ≡ k = first_of_some (λ (id : Identifier). same_name x id.name) (signal_names b) some in
    ap (λ k. parameters_of (slice_get (drafted_signals b) k)) f ∙ ap parameters_of (slice_map drafted_signal ss k)
    ∙ by_found (slice_get ss k) ∙ ap (λ o. map sort_of_tree (option_map_or (λ (s : PlainSignal). s.parameters) o [])) (sym (found_at signal_name x ss))
  where
    by_found : (o : Option PlainSignal) → parameters_of (option_map drafted_signal o) ≡ map sort_of_tree (option_map_or (λ (s : PlainSignal). s.parameters) o [])
    by_found None = refl
    by_found (Some s) = refl

pub none_past : {A : Type 0} (xs : List A) (k : ℕ) → length xs ≤ k → slice_get xs k ≡ None
none_past [] k h = refl
none_past (x ∷ xs) zero h = absurd (omega arith)
none_past (x ∷ xs) (suc k) h = none_past xs k (omega arith)

no_number : (b : Bool) (k : ℕ) → cond b (Some k) None ≡ None → b ≡ false
no_number true k e = absurd (let k : ⊥ = cc in k)
no_number false k e = refl

-- A name that is no signal has no parameters.
pub unsigned_sorts : (b : PlainBlock) (x : List ℕ) → number_of (signal_names b) x ≡ None → parameter_sorts b x ≡ []
unsigned_sorts b x none =
    let ss = signals_of b in
    let k = place_in signal_name x ss in
    let f = no_number (nat_lt k (length (signal_names b))) k none in
    let g : length (signal_names b) ≤ k = grind (arith, nat_tests) in
    let l = length-map ss signal_name in
    let past = none_past ss k (omega (arith, g, l)) in
    ap (λ o. option_map_or (λ (s : PlainSignal). s.parameters) o []) (found_at signal_name x ss ∙ past)

pub sorts_by : (b : PlainBlock) (x : List ℕ) (ss : List DraftSignal) (ids : List Identifier) (o : Option ℕ) → ss ≡ drafted_signals b → ids ≡ signal_names b → o ≡ number_of ids x → parameters_by ss o ≡ map sort_of_tree (parameter_sorts b x)
sorts_by b x ss ids None e f g = sym (ap (map sort_of_tree) (unsigned_sorts b x (ap (λ ids. number_of ids x) (sym f) ∙ sym g)))
sorts_by b x ss ids (Some n) e f g =
    let h : number_of (signal_names b) x ≡ Some n = ap (λ ids. number_of ids x) (sym f) ∙ sym g in
    ap (λ (ss : List DraftSignal). parameters_of (slice_get ss n)) e ∙ ap (λ o. parameters_of (slice_get (drafted_signals b) (number_or_zero o))) (sym h) ∙ signal_sorted b x (subst IsSome (sym h) refl)

-- ---- tests

same_sorts : (s r : tree_sort.Sort) → same_sort s r ≡ true → s ≡ r
same_sorts tree_sorts.Integer tree_sorts.Integer e = refl
same_sorts tree_sorts.Integer tree_sorts.Boolean e = absurd (let k : ⊥ = cc in k)
same_sorts tree_sorts.Boolean tree_sorts.Integer e = absurd (let k : ⊥ = cc in k)
same_sorts tree_sorts.Boolean tree_sorts.Boolean e = refl

pub has_this : (s : tree_sort.Sort) (o : Option tree_sort.Sort) → has_sort s o ≡ true → o ≡ Some s
has_this s None e = absurd (let k : ⊥ = cc in k)
has_this s (Some r) e = ap Some (sym (same_sorts s r e))

pub passed : (b : Bool) (at : ℕ) → cond b [] (at ∷ []) ≡ [] → b ≡ true
passed true at e = refl
passed false at e = absurd (let k : ⊥ = cc in k)

-- An expression that isn't misplaced has the required sort.
pub fits : (vs : List Variable) (s : tree_sort.Sort) (t : Tree) → misfit vs (Some s) t ≡ [] → sort_in vs t ≡ Some s
fits vs s t e = has_this s (sort_in vs t) (passed (have_one_sort (Some s) (sort_in vs t)) (place_of t) e)
