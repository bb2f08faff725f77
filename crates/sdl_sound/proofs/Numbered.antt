-- Names, their numbers in a list, and spellings of one name.
use Rattle.std.proofs.Common.{◌≡◌, ℕ, suc, zero, true, false, Bool, List, [], ◌∷◌, ◌++◌, length, None, Some, refl, sym, ap, ◌∙◌, subst, get_or, cond, inl, inr, position}
use Rattle.std.specs.Prelude.{slice_get, bytes_eq, find}
use Rattle.std.specs.List.{list_any, position_or_len}
use Rattle.std.specs.Option.{option_map}
use Rattle.std.proofs.lemmas.Bool.{cases_Bool, lt-ltb, or_parts}
use Rattle.std.proofs.lemmas.List.Folds.{list_any-append}
use Rattle.std.proofs.lemmas.List.Quantifiers.{position-Some}
use Rattle.std.proofs.lemmas.Option.{none-some, same_Some, slice_get-get_or, slice_get-map}
use Rattle.std.proofs.lemmas.Slice.Eq.{bytes_eq-Decides}
use Rattle.plain_laws.proofs.Lists.{append-nil_left, append-nil_right, no_mark}
use Rattle.plain_laws.proofs.Searches.{first_within}
use Rattle.sdl_lex.specs.Spelling.{folded}
use Rattle.sdl_tables.specs.sdl_ast_types.expression.Identifier.{Identifier}
use Rattle.sdl_tables.specs.Plain.{PlainConnection, PlainProcess}
use Rattle.sdl_tables.specs.Names.{same_name, is_in, number_of, connector_names, connection_named}
use Rattle.sdl_tables.specs.Scopes.{repeats}

pub same_folded : (x y : List ℕ) → same_name x y ≡ true → folded x ≡ folded y
same_folded x y h = (bytes_eq-Decides (folded x) (folded y)).0 h

pub folded_same : (x y : List ℕ) → folded x ≡ folded y → same_name x y ≡ true
folded_same x y h = (bytes_eq-Decides (folded x) (folded y)).1 h

-- The identifier at the number of a name has that name.
pub number_names : (ids : List Identifier) (x : List ℕ) (n : ℕ) → number_of ids x ≡ Some n
    → (id : Identifier) × (slice_get ids n ≡ Some id) × (same_name x id.name ≡ true)
number_names ids x n h =
    let blank : Identifier = record { name = []; at = 0 } in
    let told = position-Some (λ (id : Identifier). same_name x id.name) ids n blank h in
    (get_or ids n blank, slice_get-get_or ids n blank told.0, told.1)

pub same_back : (x y : List ℕ) → same_name x y ≡ true → same_name y x ≡ true
same_back x y h = folded_same y x (sym (same_folded x y h))

pub same_trans : (x y z : List ℕ) → same_name x y ≡ true → same_name y z ≡ true → same_name x z ≡ true
same_trans x y z h k = folded_same x z (same_folded x y h ∙ same_folded y z k)

-- Two spellings of one name occur in the same lists, and have the same number.
pub in_alike : (ids : List Identifier) (x y : List ℕ) → folded x ≡ folded y → is_in ids x ≡ is_in ids y
in_alike ids x y e = ap (λ k. list_any (λ (id : Identifier). bytes_eq k (folded id.name)) ids) e

pub number_alike : (ids : List Identifier) (x y : List ℕ) → same_name x y ≡ true → number_of ids x ≡ number_of ids y
number_alike ids x y h = ap (λ f. position (λ (id : Identifier). bytes_eq f (folded id.name)) ids) (same_folded x y h)

pub name_back : (x y z : List ℕ) → same_name x z ≡ true → same_name y z ≡ true → same_name x y ≡ true
name_back x y z h k = folded_same x y (same_folded x z h ∙ sym (same_folded y z k))

-- ---- a name in a list

pub some_number : (ids : List Identifier) (y : List ℕ) (k : ℕ) (id : Identifier) → slice_get ids k ≡ Some id → same_name y id.name ≡ true → number_of ids y ≡ None → ⊥
some_number ids y k id there same none =
    let p : Identifier → Bool = λ i. same_name y i.name in
    let below = lt-ltb (position_or_len p ids) (length ids) (first_within p ids k id there same) in
    let bad : Some (position_or_len p ids) ≡ None = sym (ap (λ b. cond b (Some (position_or_len p ids)) None) below) ∙ none in
    cc

pub nowhere : (ids : List Identifier) (y : List ℕ) (k : ℕ) (id : Identifier) → number_of ids y ≡ None → slice_get ids k ≡ Some id → same_name y id.name ≡ false
nowhere ids y k id none there = elim (cases_Bool (same_name y id.name)) [
  | inl same ↦ absurd (some_number ids y k id there same none)
  | inr other ↦ other
]

-- If no element passes the test, none is found.
find_none : {A : Type 0} (p : A → Bool) (xs : List A) → ((k : ℕ) (x : A) → slice_get xs k ≡ Some x → p x ≡ false) → find p xs ≡ None
find_none p [] h = refl
find_none p (x ∷ xs) h = ap (λ b. cond b (Some x) (find p xs)) (h 0 x refl) ∙ find_none p xs (λ k. h (suc k))

pub unnumbered : (p : PlainProcess) (y : List ℕ) → number_of (connector_names p) y ≡ None → connection_named p y ≡ None
unnumbered p y e = find_none (λ c. same_name y c.name.name) p.connections (λ k c there.
    nowhere (connector_names p) y k c.name e (slice_get-map (λ (c : PlainConnection). c.name) p.connections k ∙ ap (option_map (λ (c : PlainConnection). c.name)) there))

-- ---- lists without duplicate names

pub fresh : (before ids : List Identifier) (j : ℕ) (b : Identifier) → repeats before ids ≡ [] → slice_get ids j ≡ Some b → is_in before b.name ≡ false
fresh before [] j b h there = absurd (none-some b there)
fresh before (id ∷ ids) zero b h there =
    subst (λ (u : Identifier). is_in before u.name ≡ false) (same_Some id b there) (no_mark (is_in before id.name) id.at (append-nil_left _ _ h))
fresh before (id ∷ ids) (suc j) b h there =
    let later : is_in (before ++ id ∷ []) b.name ≡ false = fresh (before ++ id ∷ []) ids j b (append-nil_right _ _ h) there in
    (or_parts (is_in before b.name) (is_in (id ∷ []) b.name) (sym (list_any-append (λ i. same_name b.name i.name) before (id ∷ [])) ∙ later)).0

pub later_differs : (before ids : List Identifier) (id b : Identifier) (j : ℕ) → repeats (before ++ id ∷ []) ids ≡ [] → slice_get ids j ≡ Some b → same_name b.name id.name ≡ false
later_differs before ids id b j h there =
    let later : is_in (before ++ id ∷ []) b.name ≡ false = fresh (before ++ id ∷ []) ids j b h there in
    (or_parts (same_name b.name id.name) false
    (or_parts (is_in before b.name) (is_in (id ∷ []) b.name) (sym (list_any-append (λ i. same_name b.name i.name) before (id ∷ [])) ∙ later)).1).0
