-- The numbers of names: if names differ, each has the number of its place.
use Rattle.std.proofs.Common.{◌≡◌, ℕ, zero, suc, ◌+◌, ◌<◌, Bool, true, false, not, cond, ◌||◌, List, [], ◌∷◌, ◌++◌, length, get_or, take, Some, None, refl, sym, ap, ◌∙◌, arith, append_assoc, nat_lt}
use Rattle.std.specs.Prelude.{slice_get}
use Rattle.std.specs.List.{list_any, position, position_or_len, prefix_len}
use Rattle.std.proofs.lemmas.Bool.Decides.{nat_tests}
use Rattle.std.proofs.lemmas.List.{append-nil}
use Rattle.std.proofs.lemmas.List.Quantifiers.{position-Some}
use Rattle.std.proofs.lemmas.Option.{slice_get-get_or}
use Rattle.sdl_ast.specs.declared.expression.Identifier.{Identifier}
use Rattle.sdl_tables.specs.Names.{same_name, is_in, number_of}
use Rattle.sdl_tables.specs.Scopes.{repeats}
use Rattle.plain_laws.proofs.Lists.{append-nil_left as nil_front, append-nil_right as nil_back}
pub use Rattle.sdl_tables.proofs.Numbers.{same_self}
pub use Rattle.sdl_sound.proofs.Numbered.{number_alike, same_back as same_other_way}

-- The number of a name is the place of an identifier with that name.
pub record HasNumber (ids : List Identifier) (x : List ℕ) (v : ℕ) : Type 0 where
  pub id : Identifier
  pub there : slice_get ids v ≡ Some id
  pub within : v < length ids
  pub same : same_name x id.name ≡ true

pub number_there : (ids : List Identifier) (x : List ℕ) (v : ℕ) → number_of ids x ≡ Some v → HasNumber ids x v
number_there ids x v e =
    let d : Identifier = record { name = x; at = 0 } in
    let h = position-Some (λ (id : Identifier). same_name x id.name) ids v d e in
    record { id = get_or ids v d; there = slice_get-get_or ids v d h.0; within = h.0; same = h.1 }

-- The first item that passes a test is the one before which none passes.
first_at : {A : Type 0} (p : A → Bool) (xs : List A) (v : ℕ) (x : A) → list_any p (take v xs) ≡ false → slice_get xs v ≡ Some x → p x ≡ true → (prefix_len (λ x. not (p x)) xs ≡ v) × (v < length xs)
first_at p [] v x none at h = absurd (let k : ⊥ = cc in k)
first_at p (y ∷ xs) zero x none at h =
    let e : y ≡ x = cc in
    let q : p y ≡ true = ap p e ∙ h in
    (ap (λ b. cond (not b) (1 + prefix_len (λ x. not (p x)) xs) 0) q, omega arith)
first_at p (y ∷ xs) (suc v) x none at h = by_test (p y) refl none (λ e. first_at p xs v x e at h)
  where
    by_test : (b : Bool) → p y ≡ b → b || list_any p (take v xs) ≡ false → (list_any p (take v xs) ≡ false → (prefix_len (λ x. not (p x)) xs ≡ v) × (v < length xs)) → (cond (not (p y)) (1 + prefix_len (λ x. not (p x)) xs) 0 ≡ suc v) × (suc v < length (y ∷ xs))
    by_test true e none more = absurd (let k : ⊥ = cc in k)
    by_test false e none more =
        let r = more none in
        (ap (λ b. cond (not b) (1 + prefix_len (λ x. not (p x)) xs) 0) e ∙ omega (arith, r.0), omega (arith, r.1))

position_at : {A : Type 0} (p : A → Bool) (xs : List A) (v : ℕ) (x : A) → list_any p (take v xs) ≡ false → slice_get xs v ≡ Some x → p x ≡ true → position p xs ≡ Some v
position_at p xs v x none at h =
    let r = first_at p xs v x none at h in
    let n = position_or_len p xs in
    let e : n ≡ v = r.0 in
    let lt : n < length xs = omega (arith, e, r.1) in
    let t : nat_lt n (length xs) ≡ true = grind (arith, nat_tests) in
    ap (λ b. cond b (Some n) None) t ∙ ap Some e

pub not_marked : (b : Bool) (at : ℕ) → cond b (at ∷ []) [] ≡ [] → b ≡ false
not_marked true at e = absurd (let k : ⊥ = cc in k)
not_marked false at e = refl

-- If no name repeats, no identifier before this one has its name.
none_before : (before ids : List Identifier) (v : ℕ) (id : Identifier) → repeats before ids ≡ [] → slice_get ids v ≡ Some id → is_in (before ++ take v ids) id.name ≡ false
none_before before [] v id h at = absurd (let k : ⊥ = cc in k)
none_before before (x ∷ ids) zero id h at =
    let e : x ≡ id = cc in
    let here = not_marked (is_in before x.name) x.at (nil_front _ (repeats (before ++ x ∷ []) ids) h) in
    ap (λ l. is_in l id.name) (append-nil before) ∙ ap (λ (x : Identifier). is_in before x.name) (sym e) ∙ here
none_before before (x ∷ ids) (suc v) id h at =
    let rest = nil_back (cond (is_in before x.name) (x.at ∷ []) []) (repeats (before ++ x ∷ []) ids) h in
    ap (λ l. is_in l id.name) (sym (append_assoc before (x ∷ []) (take v ids))) ∙ none_before (before ++ x ∷ []) ids v id rest at

-- If no name repeats, the number of each identifier is its place.
abbrev pub AreNumbered : List Identifier → Type 0
AreNumbered ids = (v : ℕ) (id : Identifier) → slice_get ids v ≡ Some id → number_of ids id.name ≡ Some v

pub are_numbered : (ids : List Identifier) → repeats [] ids ≡ [] → AreNumbered ids
are_numbered ids h v id at = position_at (λ (x : Identifier). same_name id.name x.name) ids v id (none_before [] ids v id h at) at (same_self id.name)
