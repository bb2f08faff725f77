-- The inputs of each state, by the number of the state.
use Rattle.std.proofs.Common.{◌≡◌, ℕ, ◌+◌, ◌<◌, ◌==◌, Bool, true, false, List, [], ◌∷◌, ◌++◌, map, length, Some, if◌then◌else◌, slice_get, refl, sym, ap, ◌∙◌, subst, arith, get_or, set, zero, suc, ◌≢◌}
use Rattle.std.specs.List.{flat_map, enumerate_from}
use Rattle.std.specs.Option.{option_map_or}
use Rattle.std.proofs.lemmas.List.{append-nil}
use Rattle.std.proofs.lemmas.Option.{slice_get-get_or}
use Rattle.std.proofs.lemmas.Bool.{eqb-true, eqb-false}
use Rattle.sdl_ast.specs.declared.expression.Identifier.{Identifier}
use Rattle.sdl_ast.specs.Plain.{PlainState, PlainProcess}
use Rattle.sdl_tables.specs.Names.{given_to, of_state, by_state, states_of}
use Rattle.sdl_tables.specs.Rows.{row_at}

pub map-map : {A B C : Type 0} (g : B → C) (f : A → B) (xs : List A) → map g (map f xs) ≡ map (λ x. g (f x)) xs
map-map g f [] = refl
map-map g f (x ∷ xs) = ap (λ r. g (f x) ∷ r) (map-map g f xs)

by_number : {R X Y : Type 0} (read : R → List X) (f : ℕ → List X) (vs : List R) (xs : List Y) (k : ℕ) → length vs ≡ length xs
    → ((s : ℕ) → s < length vs → row_at read vs s ≡ f (k + s)) → map read vs ≡ map (λ s. f s.0) (enumerate_from k xs)
by_number read f [] [] k n h = refl
by_number read f [] (x ∷ xs) k n h = absurd (omega arith)
by_number read f (v ∷ vs) [] k n h = absurd (omega arith)
by_number read f (v ∷ vs) (x ∷ xs) k n h =
    let here : read v ≡ f k = h 0 (omega arith) ∙ ap f (omega arith) in
    let there : map read vs ≡ map (λ s. f s.0) (enumerate_from (k + 1) xs) =
    by_number read f vs xs (k + 1) (omega arith)
    (λ s lt. let e : k + suc s ≡ (k + 1) + s = omega arith in h (suc s) (omega arith) ∙ ap f e) in
    cc

pub rows-by_state : {R X : Type 0} (read : R → List X) (in_part : PlainState → List X) (p : PlainProcess) (vs : List R) → length vs ≡ length (states_of p)
    → ((s : ℕ) → s < length (states_of p) → row_at read vs s ≡ of_state in_part p s) → map read vs ≡ by_state in_part p
rows-by_state read in_part p vs n h =
    by_number read (of_state in_part p) vs (states_of p) 0 n
    (λ s lt. let e : s ≡ 0 + s = omega arith in h s (omega arith) ∙ ap (of_state in_part p) e)

pub slice_get-set_same : {X : Type 0} (xs : List X) (n : ℕ) (w : X) → n < length xs → slice_get (set xs n w) n ≡ Some w
slice_get-set_same [] n w h = absurd (omega arith)
slice_get-set_same (x ∷ xs) zero w h = refl
slice_get-set_same (x ∷ xs) (suc n) w h = slice_get-set_same xs n w (omega arith)

pub slice_get-set_other : {X : Type 0} (xs : List X) (n s : ℕ) (w : X) → n ≢ s → slice_get (set xs n w) s ≡ slice_get xs s
slice_get-set_other [] n s w h = refl
slice_get-set_other (x ∷ xs) zero zero w h = absurd (h refl)
slice_get-set_other (x ∷ xs) zero (suc s) w h = refl
slice_get-set_other (x ∷ xs) (suc n) zero w h = refl
slice_get-set_other (x ∷ xs) (suc n) (suc s) w h = slice_get-set_other xs n s w (λ e. h (ap suc e))

rows_after : {R X : Type 0} (read : R → List X) (vs : List R) (n s : ℕ) (v w : R) (extra : List X) → n < length vs
    → v ≡ get_or vs n v → read w ≡ read v ++ extra
    → (b : Bool) → (n == s) ≡ b → row_at read (set vs n w) s ≡ row_at read vs s ++ (if b then extra else [])
rows_after read vs n s v w extra lt old_row grown true e =
    let same : n ≡ s = eqb-true n s e in
    let old : slice_get vs n ≡ Some v = slice_get-get_or vs n v lt ∙ ap Some (sym old_row) in
    subst (λ (k : ℕ). row_at read (set vs n w) k ≡ row_at read vs k ++ extra) same
    (ap (λ o. option_map_or read o []) (slice_get-set_same vs n w lt)
    ∙ (grown ∙ ap (λ o. option_map_or read o [] ++ extra) (sym old)))
rows_after read vs n s v w extra lt old_row grown false e =
    ap (λ o. option_map_or read o []) (slice_get-set_other vs n s w (eqb-false n s e))
    ∙ sym (append-nil (row_at read vs s))

pub rows_at-set : {R X : Type 0} (read : R → List X) (vs : List R) (n : ℕ) (v w : R) (extra : List X) → n < length vs
    → v ≡ get_or vs n v → read w ≡ read v ++ extra
    → (s : ℕ) → row_at read (set vs n w) s ≡ row_at read vs s ++ (if n == s then extra else [])
rows_at-set read vs n v w extra lt old_row grown s = rows_after read vs n s v w extra lt old_row grown (n == s) refl

pub rows-collected : {R X : Type 0} (read : R → List X) (in_part : PlainState → List X) (p : PlainProcess) (states : List Identifier) (vs : List R) (done : List PlainState)
    → states ≡ states_of p → done ≡ p.states → length vs ≡ length states
    → ((s : ℕ) → s < length states → row_at read vs s ≡ flat_map (given_to in_part states s) done) → map read vs ≡ by_state in_part p
rows-collected read in_part p states vs done same all n h =
    rows-by_state read in_part p vs (n ∙ ap length same)
    (λ s lt. let there : s < length states = subst (λ (ids : List Identifier). s < length ids) (sym same) lt in
    h s there ∙ (ap (λ ids. flat_map (given_to in_part ids s) done) same ∙ ap (flat_map (given_to in_part (states_of p) s)) all))
