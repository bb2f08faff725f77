-- Words still represent the values after one is pushed, popped, stored in a variable or sent.
use Rattle.std.proofs.Common.{◌≡◌, ◌≢◌, ℕ, zero, suc, ◌+◌, ◌-◌, ◌^◌, ◌<◌, ◌≤◌, eqb, true, false, ℤ, pos, List, [], ◌∷◌, ◌++◌, length, map, take, drop, reverse, replicate, Option, Some, None, refl, sym, ap, ◌∙◌, subst, ⊎_elim, arith}
use Rattle.std.specs.Prelude.{slice_get, slice_set, slice_index_or, bit_or}
use Rattle.std.specs.Int.{bit_at}
use Rattle.std.proofs.lemmas.Bool.Decides.{eqb_tells}
use Rattle.std.proofs.lemmas.List.{length-reverse, length-drop, reverse-append, map-append, take-map}
use Rattle.std.proofs.lemmas.Nat.Bits.{bit_at_or, bit_at-lt, bit_at-pow_same, bit_at-pow_other}
use Rattle.std.proofs.lemmas.Option.{get_or_from_slice_get, same_Some}
use Rattle.turn_code.proofs.Lists.{map_drop, map_length}
use Rattle.plain_laws.proofs.Places.{get_set_same, get_set_other, written_same}
use Rattle.turn_code.specs.declared.value.Value.{Value}
use Rattle.turn_code.specs.Bare.{Bare, with_stack, pushed, on_word, on_words, words_taken, kept, Did}
use Rattle.turn_code.specs.Meant.{word_of, IsKept, AreWordsOf}

-- ---- one variable
kept_alike : (b c : Bare) (v : ℕ) (x : Option Value) → c.set ≡ b.set → c.variables ≡ b.variables → IsKept b v x → IsKept c v x
kept_alike b c v None s w h = ap (λ u. bit_at u v) s ∙ h
kept_alike b c v (Some x) s w h = (ap (λ u. bit_at u v) s ∙ h.0, ap (λ u. slice_get u v) w ∙ h.1)

-- setting one more bit
bit_here : (n v : ℕ) → bit_at (bit_or n (2 ^ v)) v ≡ 1
bit_here n v =
    let both = bit_at_or n (2 ^ v) v in
    let one = bit_at-pow_same v in
    let low = bit_at-lt n v in
    omega arith

bit_elsewhere : (n v u : ℕ) → u ≢ v → bit_at (bit_or n (2 ^ v)) u ≡ bit_at n u
bit_elsewhere n v u ne =
    let both = bit_at_or n (2 ^ v) u in
    let none = bit_at-pow_other v u ne in
    omega arith

pub kept_here : (b : Bare) (v : ℕ) (y : Value) → v < length b.variables → IsKept (kept b v (word_of y)) v (Some y)
kept_here b v y within = (bit_here b.set v, get_set_same b.variables v (word_of y) within)

pub kept_elsewhere : (b : Bare) (v u : ℕ) (z : ℤ) (x : Option Value) → u ≢ v → IsKept b u x → IsKept (kept b v z) u x
kept_elsewhere b v u z None ne h = bit_elsewhere b.set v u ne ∙ h
kept_elsewhere b v u z (Some x) ne h = (bit_elsewhere b.set v u ne ∙ h.0, get_set_other b.variables v u z ne ∙ h.1)

-- ---- the operands
-- a change of the stack makes the words represent other operands
pub on_stack : (b : Bare) (os rest : List Value) (vs : List (Option Value)) (ps : List Value) (zs : List ℤ) (n : ℕ) → AreWordsOf b os vs ps
    → zs ≡ map word_of rest → n ≡ length rest → AreWordsOf (with_stack b zs n) rest vs ps
on_stack b os rest vs ps zs n h e long = record {
  operands = e;
  depth = long;
  variables = λ v x there. kept_alike b (with_stack b zs n) v x refl refl (h.variables v x there);
  parameters = h.parameters;
}

pub one_more : (b : Bare) (y : Value) (os : List Value) (vs : List (Option Value)) (ps : List Value) → AreWordsOf b os vs ps
    → AreWordsOf (pushed b (word_of y)) (y ∷ os) vs ps
one_more b y os vs ps h =
    let d : b.depth ≡ length os = h.depth in
    on_stack b os (y ∷ os) vs ps (word_of y ∷ b.stack) (b.depth + 1) h (ap (λ u. word_of y ∷ u) h.operands) (omega arith)

pub top_is : (b : Bare) (y : Value) (os : List Value) (vs : List (Option Value)) (ps : List Value) → AreWordsOf b (y ∷ os) vs ps
    → slice_index_or b.stack 0 (pos 0) ≡ word_of y
top_is b y os vs ps h = ap (λ u. slice_index_or u 0 (pos 0)) h.operands

pub second_is : (b : Bare) (y x : Value) (os : List Value) (vs : List (Option Value)) (ps : List Value) → AreWordsOf b (y ∷ x ∷ os) vs ps
    → slice_index_or b.stack 1 (pos 0) ≡ word_of x
second_is b y x os vs ps h = ap (λ u. slice_index_or u 1 (pos 0)) h.operands

pub one_less : (b : Bare) (y : Value) (os : List Value) (vs : List (Option Value)) (ps : List Value) → AreWordsOf b (y ∷ os) vs ps
    → AreWordsOf (with_stack b (drop 1 b.stack) (b.depth - 1)) os vs ps
one_less b y os vs ps h =
    let d : b.depth ≡ length (y ∷ os) = h.depth in
    on_stack b (y ∷ os) os vs ps (drop 1 b.stack) (b.depth - 1) h (ap (drop 1) h.operands) (omega arith)

pub two_less : (b : Bare) (y x : Value) (os : List Value) (vs : List (Option Value)) (ps : List Value) → AreWordsOf b (y ∷ x ∷ os) vs ps
    → AreWordsOf (with_stack b (drop 2 b.stack) (b.depth - 2)) os vs ps
two_less b y x os vs ps h =
    let d : b.depth ≡ length (y ∷ x ∷ os) = h.depth in
    on_stack b (y ∷ x ∷ os) os vs ps (drop 2 b.stack) (b.depth - 2) h (ap (drop 2) h.operands) (omega arith)

-- popping one word, or two, leaves words that represent the values left
pub on_one : (P : Did → Type 0) (b : Bare) (y : Value) (os : List Value) (vs : List (Option Value)) (ps : List Value) (go : ℤ → Bare → Did)
    → AreWordsOf b (y ∷ os) vs ps → ((c : Bare) → AreWordsOf c os vs ps → P (go (word_of y) c)) → P (on_word b go)
on_one P b y os vs ps go h f =
    let c : Bare = with_stack b (drop 1 b.stack) (b.depth - 1) in
    subst (λ (z : ℤ). P (go z c)) (sym (top_is b y os vs ps h)) (f c (one_less b y os vs ps h))

pub on_two : (P : Did → Type 0) (b : Bare) (y x : Value) (os : List Value) (vs : List (Option Value)) (ps : List Value) (go : ℤ → ℤ → Bare → Did)
    → AreWordsOf b (y ∷ x ∷ os) vs ps → ((c : Bare) → AreWordsOf c os vs ps → P (go (word_of x) (word_of y) c)) → P (on_words b go)
on_two P b y x os vs ps go h f =
    let c : Bare = with_stack b (drop 2 b.stack) (b.depth - 2) in
    subst (λ (z : ℤ). P (go (slice_index_or b.stack 1 (pos 0)) z c)) (sym (top_is b y (x ∷ os) vs ps h)) (
    subst (λ (z : ℤ). P (go z (word_of y) c)) (sym (second_is b y x os vs ps h)) (f c (two_less b y x os vs ps h)))

-- ---- several operands at once
map_turned : {A B : Type 0} (f : A → B) (xs : List A) → map f (reverse xs) ≡ reverse (map f xs)
map_turned f [] = refl
map_turned f (x ∷ xs) =
    ap (map f) (reverse-append (x ∷ []) xs) ∙ map-append f (reverse xs) (x ∷ [])
    ∙ ap (λ u. u ++ f x ∷ []) (map_turned f xs) ∙ sym (reverse-append (f x ∷ []) (map f xs))

front : {A : Type 0} (xs ys : List A) (n : ℕ) → length xs ≡ n → take n (xs ++ ys) ≡ xs
front [] ys zero e = refl
front [] ys (suc n) e = absurd (omega arith)
front (x ∷ xs) ys zero e = absurd (omega arith)
front (x ∷ xs) ys (suc n) e = ap (λ u. x ∷ u) (front xs ys n (omega arith))

pub long_taken : {A : Type 0} (n : ℕ) (xs : List A) → n ≤ length xs → length (take n xs) ≡ n
long_taken zero xs h = refl
long_taken (suc n) [] h = absurd (omega arith)
long_taken (suc n) (x ∷ xs) h = ap suc (long_taken n xs (omega arith))

pub taken_is : (b : Bare) (n : ℕ) (os : List Value) (vs : List (Option Value)) (ps : List Value) → AreWordsOf b os vs ps → n ≤ length os
    → take n (words_taken n b) ≡ map word_of (reverse (take n os))
taken_is b n os vs ps h few =
    let words : take n b.stack ≡ map word_of (take n os) = ap (take n) h.operands ∙ take-map word_of n os in
    let turned : reverse (take n b.stack) ≡ map word_of (reverse (take n os)) = ap reverse words ∙ sym (map_turned word_of (take n os)) in
    let long : length (reverse (take n b.stack)) ≡ n =
    ap length turned ∙ map_length word_of (reverse (take n os)) ∙ length-reverse (take n os) ∙ long_taken n os few in
    front (reverse (take n b.stack)) (replicate (4 - n) (pos 0)) n long ∙ turned

pub so_many_less : (b : Bare) (n : ℕ) (os : List Value) (vs : List (Option Value)) (ps : List Value) → AreWordsOf b os vs ps
    → AreWordsOf (with_stack b (drop n b.stack) (b.depth - n)) (drop n os) vs ps
so_many_less b n os vs ps h =
    on_stack b os (drop n os) vs ps (drop n b.stack) (b.depth - n) h (ap (drop n) h.operands ∙ sym (map_drop word_of n os))
    (ap (λ u. u - n) h.depth ∙ sym (length-drop n os))

-- ---- variables and parameters
pub variable_is : (b : Bare) (v : ℕ) (y : Value) (os : List Value) (vs : List (Option Value)) (ps : List Value) → AreWordsOf b os vs ps
    → slice_get vs v ≡ Some (Some y) → slice_index_or b.variables v (pos 0) ≡ word_of y
variable_is b v y os vs ps h e =
    let k : IsKept b v (Some y) = h.variables v (Some y) e in
    get_or_from_slice_get b.variables v (word_of y) (pos 0) k.1

pub parameter_is : (b : Bare) (j : ℕ) (y : Value) (os : List Value) (vs : List (Option Value)) (ps : List Value) → AreWordsOf b os vs ps
    → slice_get ps j ≡ Some y → slice_index_or b.params j (pos 0) ≡ word_of y
parameter_is b j y os vs ps h e = get_or_from_slice_get b.params j (word_of y) (pos 0) (h.parameters j y e)

kept_at : (b : Bare) (v u : ℕ) (old x : Option Value) (y : Value) (vs : List (Option Value)) → u ≡ v → v < length b.variables → slice_get vs v ≡ Some old
    → slice_get (slice_set vs v (Some y)) u ≡ Some x → IsKept (kept b v (word_of y)) u x
kept_at b v u old x y vs is within there e =
    let here : slice_get (slice_set vs v (Some y)) v ≡ Some (Some y) = written_same vs v old (Some y) there in
    let moved : slice_get (slice_set vs v (Some y)) u ≡ slice_get (slice_set vs v (Some y)) v = ap (λ w. slice_get (slice_set vs v (Some y)) w) is in
    let same : Some y ≡ x = same_Some (Some y) x (sym here ∙ sym moved ∙ e) in
    subst (λ (o : Option Value). IsKept (kept b v (word_of y)) u o) same (
    subst (λ (w : ℕ). IsKept (kept b v (word_of y)) w (Some y)) (sym is) (kept_here b v y within))

-- storing a word in a variable, which the variable set then includes
pub one_kept : (b : Bare) (v : ℕ) (old : Option Value) (y : Value) (os : List Value) (vs : List (Option Value)) (ps : List Value) → AreWordsOf b os vs ps
    → v < length b.variables → slice_get vs v ≡ Some old → AreWordsOf (kept b v (word_of y)) os (slice_set vs v (Some y)) ps
one_kept b v old y os vs ps h within there = record {
  operands = h.operands;
  depth = h.depth;
  variables = λ u x e.
      ⊎_elim
      (λ (same : (eqb u v ≡ true) × (u ≡ v)). kept_at b v u old x y vs same.1 within there e)
      (λ (other : (eqb u v ≡ false) × (u ≢ v)).
      kept_elsewhere b v u (word_of y) x other.1 (h.variables u x (sym (get_set_other vs v u (Some y) other.1) ∙ e)))
      (eqb_tells u v);
  parameters = h.parameters;
}
