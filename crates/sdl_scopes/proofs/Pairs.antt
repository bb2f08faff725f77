-- The sort of the variable with a name, and pairs of elements with the same index in two lists.
use Rattle.std.proofs.Common.{◌≡◌, ℕ, zero, suc, ◌+◌, ◌<◌, ◌≤◌, nat_lt, List, [], ◌∷◌, ◌++◌, map, length, take, zip, Option, None, Some, slice_get, find, get_or, refl, sym, ap, ◌∙◌, arith}
use Rattle.std.specs.List.{flat_map, position_or_len}
use Rattle.std.specs.Option.{option_map, option_map_or, option_and_then}
use Rattle.std.proofs.lemmas.List.{append-nil, length-map, map-append, take_more}
use Rattle.std.proofs.lemmas.Option.{slice_get_past, slice_get-get_or, slice_get-map}
use Rattle.std.proofs.lemmas.Grind.{flat_map-append}
use Rattle.sdl_ast.specs.declared.expression.Identifier.{Identifier}
use Rattle.sdl_tables.specs.Names.{same_name, number_of, Variable}
use Rattle.sdl_tables.specs.Rows.{variable_of}
use Rattle.sdl_tables.specs.declared.process_table.Variable as row
use Rattle.sdl_sound.specs.Sorts.{variable_sort}
use Rattle.plain_laws.proofs.Searches.{find-at, position-map}

-- The variable with a name is the one at the number of that name.
by_number : (vs : List Variable) (x : List ℕ) (ids : List Identifier) → ids ≡ map (λ v. v.name) vs
    → find (λ (v : Variable). same_name x v.name.name) vs ≡ option_and_then (slice_get vs) (number_of ids x)
by_number vs x ids e =
    let p = λ (v : Variable). same_name x v.name.name in
    find-at p vs (nat_lt (position_or_len p vs) (length vs)) refl
    ∙ ap (option_and_then (slice_get vs))
    (sym (position-map (λ (id : Identifier). same_name x id.name) (λ (v : Variable). v.name) vs) ∙ ap (λ (l : List Identifier). number_of l x) (sym e))

pub sort-none : (vs : List Variable) (x : List ℕ) (ids : List Identifier) → ids ≡ map (λ v. v.name) vs → None ≡ number_of ids x
    → None ≡ variable_sort vs x
sort-none vs x ids e n =
    sym (ap (option_map (λ (v : Variable). v.sort)) (by_number vs x ids e ∙ ap (option_and_then (slice_get vs)) (sym n)))

pub sort-some : (vs : List Variable) (x : List ℕ) (ids : List Identifier) (n : ℕ) (rows : List row.Variable) (r : row.Variable)
    → ids ≡ map (λ v. v.name) vs → Some n ≡ number_of ids x → map variable_of rows ≡ vs → n < length rows
    → Some (get_or rows n r).sort ≡ variable_sort vs x
sort-some vs x ids n rows r e h same lt =
    sym
    (ap (option_map (λ (v : Variable). v.sort))
    (by_number vs x ids e
    ∙ (ap (option_and_then (slice_get vs)) (sym h)
    ∙ (ap (λ (l : List Variable). slice_get l n) (sym same)
    ∙ (slice_get-map variable_of rows n ∙ ap (option_map variable_of) (slice_get-get_or rows n r lt))))))

pub sort-past : (vs : List Variable) (x : List ℕ) (ids : List Identifier) (n : ℕ) (rows : List row.Variable)
    → ids ≡ map (λ v. v.name) vs → Some n ≡ number_of ids x → map variable_of rows ≡ vs → length rows ≤ n
    → None ≡ variable_sort vs x
sort-past vs x ids n rows e h same past =
    sym
    (ap (option_map (λ (v : Variable). v.sort))
    (by_number vs x ids e
    ∙ (ap (option_and_then (slice_get vs)) (sym h)
    ∙ (ap (λ (l : List Variable). slice_get l n) (sym same)
    ∙ (slice_get-map variable_of rows n ∙ ap (option_map variable_of) (slice_get_past rows n past))))))

-- ---- pairs

pair_of : {A B : Type 0} → A → Option B → List (A × B)
pair_of x None = []
pair_of x (Some y) = (x, y) ∷ []

zip-push : {A B : Type 0} (xs : List A) (x : A) (ys : List B) → zip (xs ++ x ∷ []) ys ≡ zip xs ys ++ pair_of x (slice_get ys (length xs))
unfolding pair_of
zip-push [] x [] = refl
zip-push [] x (y ∷ ys) = refl
zip-push (a ∷ xs) x [] = refl
zip-push (a ∷ xs) x (b ∷ ys) = ap (λ r. (a, b) ∷ r) (zip-push xs x ys)

of_pair : {A B : Type 0} (f : A × B → List ℕ) (x : A) (o : Option B) → flat_map f (pair_of x o) ≡ option_map_or (λ y. f (x, y)) o []
unfolding pair_of
of_pair f x None = refl
of_pair f x (Some y) = append-nil (f (x, y))

length-take : {A : Type 0} (xs : List A) (i : ℕ) → i < length xs → length (take i xs) ≡ i
length-take [] i h = absurd (omega (arith, h))
length-take (x ∷ xs) zero h = refl
length-take (x ∷ xs) (suc i) h = ap suc (length-take xs i (omega (arith, h)))

-- One more pair.
pub pairs_more : {A B : Type 0} (f : A × B → List ℕ) (xs : List A) (i : ℕ) (d : A) (ys : List B) → i < length xs
    → flat_map f (zip (take (i + 1) xs) ys) ≡ flat_map f (zip (take i xs) ys) ++ option_map_or (λ y. f (get_or xs i d, y)) (slice_get ys i) []
pairs_more f xs i d ys lt =
    let x = get_or xs i d in
    ap (λ zs. flat_map f (zip zs ys)) (take_more xs i d lt)
    ∙ (ap (flat_map f) (zip-push (take i xs) x ys)
    ∙ (flat_map-append f (zip (take i xs) ys) (pair_of x (slice_get ys (length (take i xs))))
    ∙ ap (λ r. flat_map f (zip (take i xs) ys) ++ r)
    (of_pair f x (slice_get ys (length (take i xs))) ∙ ap (λ n. option_map_or (λ y. f (x, y)) (slice_get ys n) []) (length-take xs i lt))))

-- ---- pairs by the index of the second list

zip-none : {A B : Type 0} (xs : List A) (ys : List B) → ys ≡ [] → zip xs ys ≡ []
zip-none [] ys h = refl
zip-none (x ∷ xs) [] h = refl
zip-none (x ∷ xs) (y ∷ ys) h = absurd (cc)

pair_with : {A B : Type 0} → Option A → B → List (A × B)
pair_with None y = []
pair_with (Some x) y = (x, y) ∷ []

zip-beside : {A B : Type 0} (xs : List A) (ys : List B) (y : B) → zip xs (ys ++ y ∷ []) ≡ zip xs ys ++ pair_with (slice_get xs (length ys)) y
unfolding pair_with
zip-beside [] [] y = refl
zip-beside [] (b ∷ ys) y = refl
zip-beside (x ∷ xs) [] y = ap (λ l. (x, y) ∷ l) (zip-none xs [] refl)
zip-beside (x ∷ xs) (b ∷ ys) y = ap (λ r. (x, b) ∷ r) (zip-beside xs ys y)

of_pair_with : {A B : Type 0} (f : A × B → List ℕ) (o : Option A) (y : B) → flat_map f (pair_with o y) ≡ option_map_or (λ x. f (x, y)) o []
unfolding pair_with
of_pair_with f None y = refl
of_pair_with f (Some x) y = append-nil (f (x, y))

-- An empty second list yields no pairs.
pub nothing_beside : {A B : Type 0} (f : A × B → List ℕ) (xs : List A) → flat_map f (zip xs []) ≡ []
nothing_beside f xs = ap (flat_map f) (zip-none xs [] refl)

-- One more element in the second list.
pub beside_more : {A B : Type 0} (f : A × B → List ℕ) (xs : List A) (ys : List B) (i : ℕ) (y : B) → length ys ≡ i
    → flat_map f (zip xs (ys ++ y ∷ [])) ≡ flat_map f (zip xs ys) ++ option_map_or (λ x. f (x, y)) (slice_get xs i) []
beside_more f xs ys i y long =
    ap (flat_map f) (zip-beside xs ys y)
    ∙ (flat_map-append f (zip xs ys) (pair_with (slice_get xs (length ys)) y)
    ∙ ap (λ r. flat_map f (zip xs ys) ++ r)
    (of_pair_with f (slice_get xs (length ys)) y ∙ ap (λ n. option_map_or (λ x. f (x, y)) (slice_get xs n) []) long))

pub beside_taken : {A B : Type 0} (f : A × B → List ℕ) (xs : List A) (ys : List B) (i : ℕ) (y : B) → i < length ys → y ≡ get_or ys i y
    → flat_map f (zip xs (take (i + 1) ys)) ≡ flat_map f (zip xs (take i ys)) ++ option_map_or (λ x. f (x, y)) (slice_get xs i) []
beside_taken f xs ys i y within is =
    ap (λ l. flat_map f (zip xs l)) (take_more ys i y within ∙ ap (λ z. take i ys ++ z ∷ []) (sym is))
    ∙ beside_more f xs (take i ys) i y (length-take ys i within)

pub beside_mapped : {A B C : Type 0} (f : A × B → List ℕ) (xs : List A) (g : C → B) (ys : List C) (i : ℕ) (y : C) → i < length ys → y ≡ get_or ys i y
    → flat_map f (zip xs (map g (take (i + 1) ys))) ≡ flat_map f (zip xs (map g (take i ys))) ++ option_map_or (λ x. f (x, g y)) (slice_get xs i) []
beside_mapped f xs g ys i y within is =
    ap (λ l. flat_map f (zip xs l)) (ap (map g) (take_more ys i y within ∙ ap (λ z. take i ys ++ z ∷ []) (sym is)) ∙ map-append g (take i ys) (y ∷ []))
    ∙ beside_more f xs (map g (take i ys)) i (g y) (length-map (take i ys) g ∙ length-take ys i within)
