-- Words made from values, one after another, and values made from words.
use Rattle.std.proofs.Common.{◌≡◌, ◌≢◌, ℕ, zero, suc, ◌+◌, ◌*◌, ◌/◌, ◌%◌, ◌<◌, ◌≤◌, ◌↔◌, eqb, Bool as Truth, true, false, if◌then◌else◌, IsTrue, pos, List, [], ◌∷◌, ◌++◌, length, take, get_or, Option, Some, None, refl, sym, ap, ◌∙◌, subst, ⊎_elim, arith}
use Rattle.std.specs.Prelude.{slice_get, slice_index_or}
use Rattle.std.specs.Int.{bit_at}
use Rattle.std.proofs.lemmas.Bool.Decides.{eqb_tells}
use Rattle.std.proofs.lemmas.List.{take_more, length-set}
use Rattle.std.proofs.lemmas.Nat.Bits.{bit_at-zero, bit_at_lowest, bit_at-suc}
use Rattle.std.proofs.lemmas.Option.{slice_get-get_or, get_or_from_slice_get, same_Some}
use Rattle.turn_code.specs.Values.{sort_of}
use Rattle.turn_code.specs.Fits.{HasSort, HaveSorts}
use Rattle.turn_code.specs.declared.value.Sort.{Sort}
use Rattle.turn_code.specs.declared.value.Value.{Value}
use Rattle.turn_code.specs.declared.draft.DraftVariable.{DraftVariable}
use Rattle.turn_code.specs.Bare.{Bare, kept}
use Rattle.turn_code.specs.Meant.{word_of, IsKept}
use Rattle.turn_code.specs.Sorts.{is_boolean, sort_bits, sorts_of}
use Rattle.turn_machine.specs.Wording.{kept_value, IsKeptTo, IsVariable, AreVariables}
use Rattle.turn_code.proofs.Standing.{kept_here, kept_elsewhere}

-- ---- storing values
pub kept_to_none : (b : Bare) (vs : List (Option Value)) → b.set ≡ 0 → length b.variables ≡ 32 → IsKeptTo b b vs 0
kept_to_none b vs none room = record {
  kept = λ v x less e. absurd (omega (arith, less));
  none = λ v least. ap (λ u. bit_at u v) none ∙ bit_at-zero v;
  room = room;
  stack = refl;
  depth = refl;
  params = refl;
}

at_it : (b : Bare) (n : ℕ) (x : Option Value) → n < length b.variables → bit_at b.set n ≡ 0 → IsKept (kept_value b n x) n x
at_it b n None room h = h
at_it b n (Some y) room h = kept_here b n y room

elsewhere : (b : Bare) (n v : ℕ) (o x : Option Value) → v ≢ n → IsKept b v x → IsKept (kept_value b n o) v x
elsewhere b n v None x ne h = h
elsewhere b n v (Some y) x ne h = kept_elsewhere b n v (word_of y) x ne h

kept_before : (b : Bare) (vs : List (Option Value)) (n : ℕ) (o : Option Value) → n < length b.variables → slice_get vs n ≡ Some o → bit_at b.set n ≡ 0
    → ((v : ℕ) (x : Option Value) → v < n → slice_get vs v ≡ Some x → IsKept b v x)
    → (v : ℕ) (x : Option Value) → v < n + 1 → slice_get vs v ≡ Some x → IsKept (kept_value b n o) v x
kept_before b vs n o room here none before v x less e =
    ⊎_elim
    (λ (same : (eqb v n ≡ true) × (v ≡ n)).
    let own : o ≡ x = same_Some o x (sym here ∙ sym (ap (λ u. slice_get vs u) same.1) ∙ e) in
    subst (λ (u : ℕ). IsKept (kept_value b n o) u x) (sym same.1) (subst (λ (u : Option Value). IsKept (kept_value b n o) n u) own (at_it b n o room none)))
    (λ (other : (eqb v n ≡ false) × (v ≢ n)). elsewhere b n v o x other.1 (before v x (omega (arith, less, other.1)) e))
    (eqb_tells v n)

none_behind : (b : Bare) (n : ℕ) (o : Option Value) → ((v : ℕ) → n ≤ v → bit_at b.set v ≡ 0) → (v : ℕ) → n + 1 ≤ v → bit_at (kept_value b n o).set v ≡ 0
none_behind b n None none v least = none v (omega arith)
none_behind b n (Some y) none v least =
    let apart : v ≢ n = omega arith in
    let is : IsKept (kept b n (word_of y)) v None = kept_elsewhere b n v (word_of y) None apart (none v (omega arith)) in
    is

room_stays : (b : Bare) (n : ℕ) (o : Option Value) → length (kept_value b n o).variables ≡ length b.variables
room_stays b n None = refl
room_stays b n (Some y) = length-set b.variables n (word_of y)

stack_stays : (b : Bare) (n : ℕ) (o : Option Value) → (kept_value b n o).stack ≡ b.stack
stack_stays b n None = refl
stack_stays b n (Some y) = refl

depth_stays : (b : Bare) (n : ℕ) (o : Option Value) → (kept_value b n o).depth ≡ b.depth
depth_stays b n None = refl
depth_stays b n (Some y) = refl

params_stay : (b : Bare) (n : ℕ) (o : Option Value) → (kept_value b n o).params ≡ b.params
params_stay b n None = refl
params_stay b n (Some y) = refl

one_more_kept : (old b : Bare) (vs : List (Option Value)) (n : ℕ) (o : Option Value) → n < 32 → slice_get vs n ≡ Some o → IsKeptTo old b vs n
    → IsKeptTo old (kept_value b n o) vs (n + 1)
one_more_kept old b vs n o less here h =
    let wide : length b.variables ≡ 32 = h.room in
    let within : n < length b.variables = omega arith in
    let free : bit_at b.set n ≡ 0 = h.none n (omega arith) in
    record {
      kept = kept_before b vs n o within here free h.kept;
      none = none_behind b n o h.none;
      room = room_stays b n o ∙ wide;
      stack = stack_stays b n o ∙ h.stack;
      depth = depth_stays b n o ∙ h.depth;
      params = params_stay b n o ∙ h.params;
    }

kept_to_more : (old b new : Bare) (vs : List (Option Value)) (n : ℕ) (o : Option Value) → n < 32 → slice_get vs n ≡ Some o → IsKeptTo old b vs n
    → new ≡ kept_value b n o → IsKeptTo old new vs (n + 1)
kept_to_more old b new vs n o less here h e = subst (λ (u : Bare). IsKeptTo old u vs (n + 1)) (sym e) (one_more_kept old b vs n o less here h)

pub kept_to_next : (old b new : Bare) (vs : List (Option Value)) (n : ℕ) (d : Option Value) → n < length vs → length vs ≤ 32 → IsKeptTo old b vs n
    → new ≡ kept_value b n (get_or vs n d) → IsKeptTo old new vs (n + 1)
kept_to_next old b new vs n d less few h e = kept_to_more old b new vs n (get_or vs n d) (omega arith) (slice_get-get_or vs n d less) h e

-- ---- values of words
bit_tells : (t q : Truth) (n : ℕ) → (IsTrue t ↔ (n ≡ 1)) → n ≡ (if q then 1 else 0) → q ≡ t
bit_tells true true n h e = refl
bit_tells true false n h e = let one : n ≡ 1 = h.0 refl in absurd (omega arith)
bit_tells false true n h e = let one : false ≡ true = h.1 e in cc
bit_tells false false n h e = refl

pub told_some : (b : Bare) (bits v word : ℕ) (t : Truth) (r : Value) (o : Option Value) → bit_at b.set v ≡ 1 → (IsTrue t ↔ (bit_at bits v ≡ 1))
    → ((x : Value) → word_of x ≡ slice_index_or b.variables v (pos 0) → is_boolean (sort_of x) ≡ t → r ≡ x) → IsVariable b bits v o → Some r ≡ o
told_some b bits v word t r None set is one h = absurd (omega arith)
told_some b bits v word t r (Some y) set is one h =
    ap Some (one y (sym (get_or_from_slice_get b.variables v (word_of y) (pos 0) h.1)) (bit_tells t (is_boolean (sort_of y)) (bit_at bits v) is h.2))

pub told_none : (b : Bare) (bits v : ℕ) (o : Option Value) → (bit_at b.set v ≡ 1 → ⊥) → IsVariable b bits v o → None ≡ o
told_none b bits v None unset h = refl
told_none b bits v (Some y) unset h = absurd (unset h.0)

pub told_more : (vs items items' : List (Option Value)) (n : ℕ) (r : Option Value) → n < length vs → items ≡ take n vs → items' ≡ items ++ r ∷ []
    → ((o : Option Value) → slice_get vs n ≡ Some o → r ≡ o) → items' ≡ take (n + 1) vs
told_more vs items items' n r less same more one =
    let is : r ≡ get_or vs n r = one (get_or vs n r) (slice_get-get_or vs n r less) in
    more ∙ ap (λ u. u ++ r ∷ []) same ∙ ap (λ u. take n vs ++ u ∷ []) is ∙ sym (take_more vs n r less)

-- ---- the bits of sorts
half : (t : Truth) (n : ℕ) → ((if t then 1 else 0) + 2 * n) / 2 ≡ n
half true n = omega arith
half false n = omega arith

rest_of : (t : Truth) (n : ℕ) → ((if t then 1 else 0) + 2 * n) % 2 ≡ (if t then 1 else 0)
rest_of true n = omega arith
rest_of false n = omega arith

bits_at : (xs : List DraftVariable) (vs : List (Option Value)) (v : ℕ) (y : Value) → HaveSorts xs vs → slice_get vs v ≡ Some (Some y)
    → bit_at (sort_bits (sorts_of xs)) v ≡ (if is_boolean (sort_of y) then 1 else 0)
bits_at [] [] v y h e = cc
bits_at [] (o ∷ vs) v y h e = absurd h
bits_at (x ∷ xs) [] v y h e = absurd h
bits_at (x ∷ xs) (o ∷ vs) zero y h e =
    let own : HasSort x (Some y) = subst (λ (u : Option Value). HasSort x u) (same_Some o (Some y) e) h.0 in
    let sort : sort_of y ≡ x.sort = own in
    bit_at_lowest (sort_bits (sorts_of (x ∷ xs))) ∙ rest_of (is_boolean x.sort) (sort_bits (sorts_of xs))
    ∙ ap (λ (u : Sort). if◌then◌else◌ {A = ℕ} (is_boolean u) 1 0) (sym sort)
bits_at (x ∷ xs) (o ∷ vs) (suc v) y h e =
    bit_at-suc (sort_bits (sorts_of (x ∷ xs))) v ∙ ap (λ n. bit_at n v) (half (is_boolean x.sort) (sort_bits (sorts_of xs)))
    ∙ bits_at xs vs v y h.1 e

one_variable : (b : Bare) (bits v : ℕ) (o : Option Value) → IsKept b v o
    → ((y : Value) → o ≡ Some y → bit_at bits v ≡ (if is_boolean (sort_of y) then 1 else 0)) → IsVariable b bits v o
one_variable b bits v None k sort = k
one_variable b bits v (Some y) k sort = (k.0, k.1, sort y refl)

pub variables_told : (b : Bare) (xs : List DraftVariable) (vs : List (Option Value)) (bits : ℕ) → ((v : ℕ) (x : Option Value) → slice_get vs v ≡ Some x → IsKept b v x)
    → HaveSorts xs vs → bits ≡ sort_bits (sorts_of xs) → AreVariables b bits vs
variables_told b xs vs bits k sorts is =
    λ v x e.
    one_variable b bits v x (k v x e)
    (λ y same. ap (λ u. bit_at u v) is ∙ bits_at xs vs v y sorts (e ∙ ap Some same))
