-- The keys and values of a table of names.
use Rattle.std.proofs.Common.{◌≡◌, ◌<◌, ℕ, Bool, true, false, cond, nat_lt, length, IfSome, ◌||◌, List, [], ◌∷◌, ◌++◌, map, Option, None, Some, is_some, if◌then◌else◌, position, bytes_eq, ◌+◌, refl, sym, ap, ◌∙◌, true≢false, arith}
use Rattle.std.proofs.lemmas.Iterator.Adapters.{position_from-zero}
use Rattle.std.proofs.lemmas.List.{map-append}
use Rattle.std.proofs.lemmas.Bool.Decides.{leb_tells}
use Rattle.std.specs.List.{list_any, position_from, position_or_len}
use Rattle.std.specs.Map.{lookup, keys_of, values_of}
use Rattle.sdl_ast.specs.Spelling.{folded}
use Rattle.sdl_ast.specs.declared.expression.Identifier.{Identifier}
use Rattle.plain_laws.proofs.Searches.{position-map}
use Rattle.sdl_tables.specs.Names.{is_in, number_of, add_name}

-- The key of an identifier.
abbrev pub key_of : Identifier → List ℕ
key_of id = folded id.name

some-cond : {X : Type 0} (b : Bool) (x : X) (o : Option X) → is_some (cond b (Some x) o) ≡ (b || is_some o)
some-cond true x o = refl
some-cond false x o = refl

within-cond : (b : Bool) (k n : ℕ) → nat_lt k n ≡ b → IfSome (cond b (Some k) None) (λ i. i < n)
within-cond true k n e = below
  where
    below : k < n
    below = grind (arith, leb_tells, e)
within-cond false k n e = tt

-- A test passes for some element exactly if it has a first place.
module _ {X : Type 0} (p : X → Bool) where
  found-from : (k : ℕ) (xs : List X) → is_some (position_from p k xs) ≡ list_any p xs
  found-from k [] = refl
  found-from k (x ∷ xs) = some-cond (p x) k (position_from p (k + 1) xs) ∙ ap (λ r. p x || r) (found-from (k + 1) xs)

  pub is_some-position : (xs : List X) → is_some (position p xs) ≡ list_any p xs
  is_some-position xs = ap is_some (position_from-zero p xs) ∙ found-from 0 xs

  pub position-within : (xs : List X) → IfSome (position p xs) (λ n. n < length xs)
  position-within xs = within-cond (nat_lt (position_or_len p xs) (length xs)) (position_or_len p xs) (length xs) refl

pub is_some-lookup : {K X : Type 0} (t : K → Bool) (es : List (K × X)) → is_some (lookup t es) ≡ list_any t (keys_of es)
is_some-lookup t [] = refl
is_some-lookup t (e ∷ es) = some-cond (t e.0) e.1 (lookup t es) ∙ ap (λ r. t e.0 || r) (is_some-lookup t es)

pub is_none : {X : Type 0} (o : Option X) → is_some o ≡ false → o ≡ None
is_none None h = refl
is_none (Some x) h = absurd (true≢false h)

pub list_any-map : {A B : Type 0} (t : B → Bool) (f : A → B) (xs : List A) → list_any t (map f xs) ≡ list_any (λ x. t (f x)) xs
list_any-map t f [] = refl
list_any-map t f (x ∷ xs) = ap (λ r. t (f x) || r) (list_any-map t f xs)

-- Each key is that of its value.
abbrev pub Keyed : List (List ℕ × Identifier) → Type 0
Keyed es = keys_of es ≡ map key_of (values_of es)

pub holds_name : (es : List (List ℕ × Identifier)) (x : List ℕ) → Keyed es
    → is_some (lookup (bytes_eq (folded x)) es) ≡ is_in (values_of es) x
holds_name es x h =
    is_some-lookup (bytes_eq (folded x)) es ∙ (ap (list_any (bytes_eq (folded x))) h ∙ list_any-map (bytes_eq (folded x)) key_of (values_of es))

pub finds_number : (es : List (List ℕ × Identifier)) (x : List ℕ) → Keyed es
    → position (bytes_eq (folded x)) (keys_of es) ≡ number_of (values_of es) x
finds_number es x h = ap (position (bytes_eq (folded x))) h ∙ position-map (bytes_eq (folded x)) key_of (values_of es)

pub values-push : (es : List (List ℕ × Identifier)) (k : List ℕ) (id : Identifier)
    → values_of (es ++ (k, id) ∷ []) ≡ values_of es ++ id ∷ []
values-push es k id = map-append (λ e. e.1) es ((k, id) ∷ [])

pub Keyed-push : (es : List (List ℕ × Identifier)) (id : Identifier) → Keyed es → Keyed (es ++ (folded id.name, id) ∷ [])
Keyed-push es id h =
    map-append (λ e. e.0) es ((folded id.name, id) ∷ [])
    ∙ (ap (λ ks. ks ++ folded id.name ∷ []) h
    ∙ (sym (map-append key_of (values_of es) (id ∷ [])) ∙ ap (map key_of) (sym (values-push es (folded id.name) id))))

pub add_name-present : (ids : List Identifier) (id : Identifier) → is_in ids id.name ≡ true → add_name ids id ≡ ids
add_name-present ids id h = ap (λ b. if b then ids else ids ++ id ∷ []) h

pub add_name-new : (ids : List Identifier) (id : Identifier) → is_in ids id.name ≡ false → add_name ids id ≡ ids ++ id ∷ []
add_name-new ids id h = ap (λ b. if b then ids else ids ++ id ∷ []) h

-- A name that isn't in the table is appended.
pub entries-new : (es : List (List ℕ × Identifier)) (id : Identifier) → Keyed es → is_in (values_of es) id.name ≡ false
    → lookup (bytes_eq (folded id.name)) es ≡ None
entries-new es id h absent = is_none (lookup (bytes_eq (folded id.name)) es) (holds_name es id.name h ∙ absent)
