-- Bits of variables, and the flows of transitions one after another.
use Rattle.std.proofs.Common.{◌≡◌, ◌≢◌, ℕ, zero, suc, ◌-◌, ◌*◌, ◌%◌, ◌^◌, ◌<◌, ◌≤◌, Bool, true, false, not, ◌&&◌, ◌||◌, if◌then◌else◌, eqb, List, [], ◌∷◌, ◌++◌, None, Some, get_or, refl, sym, ap, ◌∙◌, subst, arith, inl, inr}
use Rattle.std.specs.Prelude.{slice_get}
use Rattle.std.specs.Int.{bit_at, bit_not, w32}
use Rattle.std.proofs.lemmas.Nat.Bits.{bit_at_and, bit_at_or, bit_at_not, bit_at-lt, bit_at-zero, bit_at_ones, bit_at-pow_same, bit_at-pow_other}
use Rattle.std.proofs.lemmas.Bool.{cases_eq, cases_Bool}
use Rattle.std.proofs.lemmas.List.Quantifiers.{position-Some}
use Rattle.std.proofs.Math.Bool.{or-false, and-false as and_false}
use Rattle.std.proofs.Math.Nat.{one-mul, mod-eq_of_lt}
use Rattle.std.proofs.Math.Pow.{pow-lt}
use Rattle.std.proofs.lemmas.Option.{get_or_from_slice_get, slice_get-get_or}
use lib.Bits.{bit_and, bit_or}
use Rattle.sdl_unset.specs.Graph.{has}
use Rattle.sdl_ast.specs.declared.expression.Identifier.{Identifier}
use Rattle.sdl_ast.specs.Plain.{PlainProcess}
use Rattle.sdl_tables.specs.Names.{same_name, is_in, number_of, variable_names}
use Rattle.sdl_tables.specs.Scopes.{repeats}
use Rattle.sdl_sound.specs.Paths.{Event, reads, sets, reads_first, sets_in}
use Rattle.sdl_unset.specs.Flows.{Tells, Does}
use Rattle.sdl_unset.specs.declared.firsts.Firsts.{Firsts}
use Rattle.sdl_unset.specs.declared.flow.Flow.{Flow}
use Rattle.sdl_sound.proofs.Numbered.{nowhere, same_back as same_name-sym, same_trans as same_name-trans, later_differs}
use Rattle.sdl_sound.proofs.Walks.{reads_first-append, sets_in-append}
use Rattle.plain_laws.proofs.Numbers.{most_is_one, least_is_one}
use Rattle.plain_laws.proofs.Lists.{append-nil_right}

-- ---- bits

rest_is_one : (m : ℕ) → m < 2 → eqb (1 - m) 1 ≡ not (eqb m 1)
rest_is_one zero p = refl
rest_is_one (suc zero) p = refl
rest_is_one (suc (suc m)) p = absurd (omega arith)

pub has_and : (a b v : ℕ) → has (bit_and a b) v ≡ (has a v && has b v)
unfolding has
has_and a b v = ap (λ n. eqb n 1) (bit_at_and a b v) ∙ least_is_one (bit_at a v) (bit_at b v) (bit_at-lt a v) (bit_at-lt b v)

pub has_or : (a b v : ℕ) → has (bit_or a b) v ≡ (has a v || has b v)
unfolding has
has_or a b v = ap (λ n. eqb n 1) (bit_at_or a b v) ∙ most_is_one (bit_at a v) (bit_at b v) (bit_at-lt a v) (bit_at-lt b v)

pub has_not : (a v : ℕ) → a < 2 ^ 32 → v < 32 → has (bit_not w32 a) v ≡ not (has a v)
unfolding has
has_not a v p q = ap (λ n. eqb n 1) (bit_at_not w32 a v p q) ∙ rest_is_one (bit_at a v) (bit_at-lt a v)

pub has_none : (v : ℕ) → has 0 v ≡ false
unfolding has
has_none v = ap (λ n. eqb n 1) (bit_at-zero v)

pub has_all : (v : ℕ) → v < 32 → has 4294967295 v ≡ true
unfolding has
has_all v p = ap (λ n. eqb n 1) (bit_at_ones 32 v p)

pub has_same : (k : ℕ) → has (2 ^ k) k ≡ true
unfolding has
has_same k = ap (λ n. eqb n 1) (bit_at-pow_same k)

pub has_other : (k v : ℕ) → v ≢ k → has (2 ^ k) v ≡ false
unfolding has
has_other k v ne = ap (λ n. eqb n 1) (bit_at-pow_other k v ne)

-- ---- events one after another

neither : (s t u : Bool) → not t ≡ u → not (s || t) ≡ (not s && u)
neither true t u h = refl
neither false t u h = h

pub does_none : (firsts : Firsts) (p : PlainProcess) → Does p [] (record { reads = 0; keeps = 4294967295; firsts = firsts })
unfolding Does
does_none firsts p = (
  record { at = λ v id small there. has_none v },
  record { at = λ v id small there. has_all v small },
)

pub does_after : (firsts : Firsts) (p : PlainProcess) (xs ys : List Event) (f g : Flow) → Does p xs f → Does p ys g
    → Does p (xs ++ ys) (record { reads = bit_or f.reads (bit_and f.keeps g.reads); keeps = bit_and f.keeps g.keeps; firsts = firsts })
unfolding Does
does_after firsts p xs ys f g d e = (
  record {
    at = λ v id small there.
        let first : has f.reads v ≡ reads_first xs id.name = d.0.at v id small there in
        let kept : has f.keeps v ≡ not (sets_in xs id.name) = d.1.at v id small there in
        let next : has g.reads v ≡ reads_first ys id.name = e.0.at v id small there in
        let one : has (bit_or f.reads (bit_and f.keeps g.reads)) v ≡ (has f.reads v || has (bit_and f.keeps g.reads) v) = has_or f.reads (bit_and f.keeps g.reads) v in
        let two : has (bit_and f.keeps g.reads) v ≡ (has f.keeps v && has g.reads v) = has_and f.keeps g.reads v in
        let all = reads_first-append xs ys id.name in
        cc;
  },
  record {
    at = λ v id small there.
        let kept : has f.keeps v ≡ not (sets_in xs id.name) = d.1.at v id small there in
        let next : has g.keeps v ≡ not (sets_in ys id.name) = e.1.at v id small there in
        let one : has (bit_and f.keeps g.keeps) v ≡ (has f.keeps v && has g.keeps v) = has_and f.keeps g.keeps v in
        let all = sets_in-append xs ys id.name in
        cc;
  },
)

-- ---- the variable with a name

-- If no name occurs twice, two places with the same name are equal.
pub one_place : (before ids : List Identifier) (i j : ℕ) (a b : Identifier) → repeats before ids ≡ []
    → slice_get ids i ≡ Some a → slice_get ids j ≡ Some b → same_name b.name a.name ≡ true → i ≡ j
one_place before [] i j a b h p q s = cc
one_place before (id ∷ ids) zero zero a b h p q s = refl
one_place before (id ∷ ids) zero (suc j) a b h p q s =
    let e : id ≡ a = cc in
    let rest : repeats (before ++ id ∷ []) ids ≡ [] = append-nil_right (if is_in before id.name then id.at ∷ [] else []) (repeats (before ++ id ∷ []) ids) h in
    let other : same_name b.name id.name ≡ false = later_differs before ids id b j rest q in
    let same : same_name b.name id.name ≡ true = subst (λ (u : Identifier). same_name b.name u.name ≡ true) (sym e) s in
    cc
one_place before (id ∷ ids) (suc i) zero a b h p q s =
    let e : id ≡ b = cc in
    let rest : repeats (before ++ id ∷ []) ids ≡ [] = append-nil_right (if is_in before id.name then id.at ∷ [] else []) (repeats (before ++ id ∷ []) ids) h in
    let other : same_name a.name id.name ≡ false = later_differs before ids id a i rest p in
    let same : same_name a.name id.name ≡ true = subst (λ (u : Identifier). same_name a.name u.name ≡ true) (sym e) (same_name-sym b.name a.name s) in
    cc
one_place before (id ∷ ids) (suc i) (suc j) a b h p q s =
    ap suc (one_place (before ++ id ∷ []) ids i j a b (append-nil_right _ _ h) p q s)

differs : (x y : List ℕ) → same_name y x ≡ false → same_name x y ≡ false
differs x y h = elim (cases_Bool (same_name x y)) [
  | inl same ↦ let back = same_name-sym x y same in cc
  | inr other ↦ other
]

-- Only the variable with number n has its name.
other_name : (ids : List Identifier) (x : List ℕ) (n v : ℕ) (id : Identifier) → repeats [] ids ≡ [] → number_of ids x ≡ Some n
    → slice_get ids v ≡ Some id → v ≢ n → same_name id.name x ≡ false
other_name ids x n v id distinct is there ne = elim (cases_Bool (same_name id.name x)) [
  | inl same ↦
      let found = position-Some (λ i. same_name x i.name) ids n id is in
      let both = same_name-trans id.name x (get_or ids n id).name same found.1 in
      absurd (ne (sym (one_place [] ids n v (get_or ids n id) id distinct (slice_get-get_or ids n id found.0) there both)))
  | inr other ↦ other
]

pub own_name : (ids : List Identifier) (x : List ℕ) (n : ℕ) (id : Identifier) → number_of ids x ≡ Some n → slice_get ids n ≡ Some id → same_name id.name x ≡ true
own_name ids x n id is there =
    let found = position-Some (λ i. same_name x i.name) ids n id is in
    same_name-sym x id.name (ap (λ (i : Identifier). same_name x i.name) (sym (get_or_from_slice_get ids n id id there)) ∙ found.1)

one_bit : (n : ℕ) → n < 32 → 1 * 2 ^ n % 4294967296 ≡ 2 ^ n
one_bit n low = ap (λ k. k % 4294967296) (one-mul (2 ^ n)) ∙ mod-eq_of_lt (pow-lt low)

pub bit_named : (ids : List Identifier) (x : List ℕ) (n : ℕ) → repeats [] ids ≡ [] → number_of ids x ≡ Some n → n < 32
    → Tells ids (λ y. same_name y x) (1 * 2 ^ n % 4294967296)
bit_named ids x n distinct is low = record {
  at = λ v id small there.
      let power : 1 * 2 ^ n % 4294967296 ≡ 2 ^ n = one_bit n low in
      elim (cases_eq v n) [
        | inl e ↦ ap (λ b. has b v) power ∙ (ap (λ k. has (2 ^ k) v) (sym e) ∙ (has_same v ∙ sym (own_name ids x v id (is ∙ ap Some (sym e)) there)))
        | inr ne ↦ ap (λ b. has b v) power ∙ (has_other n v ne ∙ sym (other_name ids x n v id distinct is there ne))
      ];
}

pub bit_past : (ids : List Identifier) (x : List ℕ) (n : ℕ) → repeats [] ids ≡ [] → number_of ids x ≡ Some n → 32 ≤ n
    → Tells ids (λ y. same_name y x) 0
bit_past ids x n distinct is high = record {
  at = λ v id small there.
      has_none v ∙ sym (other_name ids x n v id distinct is there (omega arith));
}

pub bit_none : (ids : List Identifier) (x : List ℕ) → number_of ids x ≡ None → Tells ids (λ y. same_name y x) 0
bit_none ids x is = record {
  at = λ v id small there.
      has_none v ∙ sym (differs id.name x (nowhere ids x v id is there));
}

-- ---- one event

pub does_read : (firsts : Firsts) (p : PlainProcess) (x : List ℕ) (bits : ℕ) → Tells (variable_names p) (λ y. same_name y x) bits
    → Does p (reads x ∷ []) (record { reads = bits; keeps = 4294967295; firsts = firsts })
unfolding Does
does_read firsts p x bits h = (
  record { at = λ v id small there. h.at v id small there ∙ sym (or-false (same_name id.name x)) },
  record { at = λ v id small there. has_all v small },
)

pub does_set : (firsts : Firsts) (p : PlainProcess) (x : List ℕ) (bits : ℕ) → bits < 2 ^ 32 → Tells (variable_names p) (λ y. same_name y x) bits
    → Does p (sets x ∷ []) (record { reads = 0; keeps = 4294967295 - bits; firsts = firsts })
unfolding Does
does_set firsts p x bits fits h = (
  record { at = λ v id small there. has_none v ∙ sym (and_false (not (same_name id.name x))) },
  record {
    at = λ v id small there.
        has_not bits v fits small ∙ ap not (h.at v id small there ∙ sym (or-false (same_name id.name x)));
  },
)
