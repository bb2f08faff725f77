-- Invariants of loops that append to a list what each element of another list yields.
use Rattle.std.proofs.Common.{◌≡◌, ◌==◌, ℕ, zero, suc, ◌+◌, ◌<◌, false, if◌then◌else◌, Option, Some, None, List, [], ◌∷◌, ◌++◌, length, take, map, get_or, refl, sym, ap, ◌∙◌, append_assoc}
use Rattle.std.specs.List.{flat_map}
use Rattle.std.proofs.lemmas.List.{take_more, map_push, append-nil}
use Rattle.std.specs.Option.{option_map_or}
use Rattle.sdl_ast.specs.declared.expression.Identifier.{Identifier}
use Rattle.sdl_tables.specs.Names.{is_state, number_of}
use Rattle.sdl_tables.specs.Rows.{row_at}
use Rattle.sdl_tables.proofs.Numbers.{joined_push}

pub taken_more : {A : Type 0} (xs : List A) (i : ℕ) (x : A) → i < length xs → x ≡ get_or xs i x → take (i + 1) xs ≡ take i xs ++ x ∷ []
taken_more xs i x lt is = take_more xs i x lt ∙ ap (λ y. take i xs ++ y ∷ []) (sym is)

-- One more element, for `map`.
pub map_on : {A B : Type 0} (f : A → B) (start now next : List B) (xs ys : List A) (x : A) → ys ≡ xs ++ x ∷ [] → now ≡ start ++ map f xs → next ≡ now ++ f x ∷ []
    → next ≡ start ++ map f ys
map_on f start now next xs ys x last before more =
    more ∙ (ap (λ l. l ++ f x ∷ []) before ∙ (append_assoc start (map f xs) (f x ∷ []) ∙ ap (λ l. start ++ l) (sym (map_push f xs x) ∙ sym (ap (map f) last))))

-- One more element, for `flat_map`.
pub join_on : {A B : Type 0} (f : A → List B) (start now next : List B) (xs ys : List A) (x : A) → ys ≡ xs ++ x ∷ [] → now ≡ start ++ flat_map f xs → next ≡ now ++ f x
    → next ≡ start ++ flat_map f ys
join_on f start now next xs ys x last before more =
    more ∙ (ap (λ l. l ++ f x) before ∙ (append_assoc start (flat_map f xs) (f x) ∙ ap (λ l. start ++ l) (sym (joined_push f xs x) ∙ sym (ap (flat_map f) last))))

-- The view of a list after a push.
pub pushed : {A B : Type 0} (g : A → B) (old new : List A) (y : A) → new ≡ old ++ y ∷ [] → map g new ≡ map g old ++ g y ∷ []
pushed g old new y more = ap (map g) more ∙ map_push g old y

-- An element that yields nothing.
pub join_nothing : {A B : Type 0} (f : A → List B) (start now next : List B) (xs ys : List A) (x : A) → ys ≡ xs ++ x ∷ [] → now ≡ start ++ flat_map f xs → next ≡ now → f x ≡ []
    → next ≡ start ++ flat_map f ys
join_nothing f start now next xs ys x last before same none =
    join_on f start now next xs ys x last before (same ∙ (sym (append-nil now) ∙ ap (λ l. now ++ l) (sym none)))

-- One more row, which is empty.
pub row_at-push : {R X : Type 0} (read : R → List X) (rows : List R) (row : R) → read row ≡ [] → ((s : ℕ) → row_at read rows s ≡ []) → (s : ℕ) → row_at read (rows ++ row ∷ []) s ≡ []
row_at-push read [] row none all zero = none
row_at-push read [] row none all (suc s) = refl
row_at-push read (r ∷ rows) row none all zero = all zero
row_at-push read (r ∷ rows) row none all (suc s) = row_at-push read rows row none (λ k. all (suc k)) s

-- One more name of a STATE part, which is the name of the state with this number.
pub given_on : {X : Type 0} (states : List Identifier) (s : ℕ) (extra start now next : List X) (names more : List Identifier) (id : Identifier) (n : ℕ) → more ≡ names ++ id ∷ []
    → now ≡ start ++ flat_map (λ x. if is_state states s x.name then extra else []) names → next ≡ now ++ (if n == s then extra else []) → number_of states id.name ≡ Some n
    → next ≡ start ++ flat_map (λ x. if is_state states s x.name then extra else []) more
given_on states s extra start now next names more id n last before grows found =
    let gives : (if n == s then extra else []) ≡ (if is_state states s id.name then extra else []) =
    ap (λ o. if option_map_or (λ m. m == s) o false then extra else []) (sym found) in
    join_on (λ x. if is_state states s x.name then extra else []) start now next names more id last before (grows ∙ ap (λ l. now ++ l) gives)

nobody : (o : Option ℕ) → ((n : ℕ) → o ≡ Some n → ⊥) → o ≡ None
nobody None h = refl
nobody (Some n) h = absurd (h n refl)

-- One more name of a STATE part, which names no state.
pub given_nothing : {X : Type 0} (states : List Identifier) (s : ℕ) (extra start now next : List X) (names more : List Identifier) (id : Identifier) (o : Option ℕ) → more ≡ names ++ id ∷ []
    → now ≡ start ++ flat_map (λ x. if is_state states s x.name then extra else []) names → next ≡ now → o ≡ number_of states id.name → ((n : ℕ) → o ≡ Some n → ⊥)
    → next ≡ start ++ flat_map (λ x. if is_state states s x.name then extra else []) more
given_nothing states s extra start now next names more id o last before same found h =
    let none : (if is_state states s id.name then extra else []) ≡ [] =
    ap (λ o. if option_map_or (λ m. m == s) o false then extra else []) (sym found ∙ nobody o h) in
    join_nothing (λ x. if is_state states s x.name then extra else []) start now next names more id last before same none
