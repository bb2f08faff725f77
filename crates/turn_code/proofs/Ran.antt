-- A safe run ends, and its count says how many instructions it took.
use Rattle.std.proofs.Common.{◌≡◌, ℕ, zero, suc, ◌+◌, ◌≤◌, ℤ, pos, Bool as Truth, true, false, if◌then◌else◌, List, [], ◌∷◌, length, take, drop, reverse, Option, Some, None, refl, arith}
use Rattle.std.specs.Prelude.{slice_get, int_lt, nat_le}
use Rattle.turn_code.specs.Values.{holds, is_between}
use Rattle.turn_code.specs.Run.{Progress, After, goes, ends, stuck, loaded, stored, given, on_top, on_integer, on_boolean, on_integers, on_booleans, on_operands, sent, address_of, act, act_if, step, tick, Ran, ended, go_on, exec, CountIs}
use Rattle.turn_code.specs.Transitions.{Transition}
use Rattle.turn_code.specs.Safe.{EndsWell, IsSafeAfter, IsSafe}
use Rattle.turn_code.specs.declared.value.Value.{Value}
use Rattle.turn_code.specs.declared.value.Value.TheVariants.{Int, Bool}
use Rattle.turn_code.specs.declared.numbers.SignalNumber.{SignalNumber}
use Rattle.turn_code.specs.declared.input.Input.{Input}
use Rattle.turn_code.specs.declared.input.Address.{Address}
use Rattle.turn_code.specs.declared.instruction.Instruction.{Instruction}
use Rattle.turn_code.specs.declared.instruction.Instruction.TheVariants.{Int as PutInt, Bool as PutBool, Load, Store, Param, Add, Sub, Mul, Div, Mod, Rem, Neg, Not, And, Or, Xor, Same, Compare, Case, CaseWithin, Pick, Drop, Jump, Output, Set, Reset, Next, Stop}
use Rattle.turn_code.specs.declared.machine.End.{End}
use Rattle.turn_code.specs.declared.trouble.Trouble.TheVariants.{Underflow}

loaded_count : (k : ℕ) (os : List Value) (s : Progress) (o : Option (Option Value)) → CountIs s.count (loaded k os s o)
loaded_count k os s None = tt
loaded_count k os s (Some None) = tt
loaded_count k os s (Some (Some x)) = refl

stored_count : (k : ℕ) (os : List Value) (s : Progress) (v : ℕ) (x : Value) (o : Option (Option Value)) → CountIs s.count (stored k os s v x o)
stored_count k os s v x None = tt
stored_count k os s v x (Some old) = refl

given_count : (k : ℕ) (os : List Value) (s : Progress) (o : Option Value) → CountIs s.count (given k os s o)
given_count k os s None = tt
given_count k os s (Some x) = refl

sent_count : (n : SignalNumber) (o : Option Address) (vs : List Value) (k : ℕ) (os : List Value) (s : Progress) → CountIs s.count (sent n o vs k os s)
sent_count n None vs k os s = tt
sent_count n (Some p) vs k os s = refl

cond_count : (c : ℕ) (b : Truth) (x y : After) → CountIs c x → CountIs c y → CountIs c (if b then x else y)
cond_count c true x y h i = h
cond_count c false x y h i = i

top_count : (c : ℕ) (os : List Value) (go : Value → List Value → After) → ((x : Value) (rest : List Value) → CountIs c (go x rest)) → CountIs c (on_top os go)
top_count c [] go h = tt
top_count c (x ∷ os) go h = h x os

integer_count : (c : ℕ) (os : List Value) (go : ℤ → List Value → After) → ((x : ℤ) (rest : List Value) → CountIs c (go x rest)) → CountIs c (on_integer os go)
integer_count c [] go h = tt
integer_count c (Int x ∷ os) go h = h x os
integer_count c (Bool x ∷ os) go h = tt

boolean_count : (c : ℕ) (os : List Value) (go : Truth → List Value → After) → ((x : Truth) (rest : List Value) → CountIs c (go x rest)) → CountIs c (on_boolean os go)
boolean_count c [] go h = tt
boolean_count c (Int x ∷ os) go h = tt
boolean_count c (Bool x ∷ os) go h = h x os

integers_count : (c : ℕ) (os : List Value) (go : ℤ → ℤ → List Value → After) → ((x y : ℤ) (rest : List Value) → CountIs c (go x y rest)) → CountIs c (on_integers os go)
integers_count c [] go h = tt
integers_count c (y ∷ []) go h = tt
integers_count c (Int y ∷ Int x ∷ os) go h = h x y os
integers_count c (Int y ∷ Bool x ∷ os) go h = tt
integers_count c (Bool y ∷ x ∷ os) go h = tt

booleans_count : (c : ℕ) (os : List Value) (go : Truth → Truth → List Value → After) → ((x y : Truth) (rest : List Value) → CountIs c (go x y rest)) → CountIs c (on_booleans os go)
booleans_count c [] go h = tt
booleans_count c (y ∷ []) go h = tt
booleans_count c (Bool y ∷ Bool x ∷ os) go h = h x y os
booleans_count c (Bool y ∷ Int x ∷ os) go h = tt
booleans_count c (Int y ∷ x ∷ os) go h = tt

operands_count : (c n : ℕ) (os : List Value) (go : List Value → List Value → After) → ((vs rest : List Value) → CountIs c (go vs rest)) → CountIs c (on_operands n os go)
operands_count c n os go h = cond_count c (nat_le n (length os)) (go (reverse (take n os)) (drop n os)) (stuck Underflow) (h (reverse (take n os)) (drop n os)) tt

pub act_count : (i : Instruction) (x : Input) (k : ℕ) (os : List Value) (s : Progress) → CountIs s.count (act i x k os s)
act_count (PutInt z) x k os s = refl
act_count (PutBool b) x k os s = refl
act_count (Load v) x k os s = loaded_count k os s (slice_get s.variables v.0)
act_count (Store v) x k os s = top_count s.count os _ (λ y rest. stored_count k rest s v.0 y (slice_get s.variables v.0))
act_count (Param j) x k os s = given_count k os s (slice_get x.parameters.items j)
act_count Add x k os s = integers_count s.count os _ (λ a b rest. refl)
act_count Sub x k os s = integers_count s.count os _ (λ a b rest. refl)
act_count Mul x k os s = integers_count s.count os _ (λ a b rest. refl)
act_count (Div z) x k os s = integer_count s.count os _ (λ a rest. cond_count s.count (int_lt (pos 0) z) _ _ refl tt)
act_count (Mod z) x k os s = integer_count s.count os _ (λ a rest. cond_count s.count (int_lt (pos 0) z) _ _ refl tt)
act_count (Rem z) x k os s = integer_count s.count os _ (λ a rest. cond_count s.count (int_lt (pos 0) z) _ _ refl tt)
act_count Neg x k os s = integer_count s.count os _ (λ a rest. refl)
act_count Not x k os s = boolean_count s.count os _ (λ a rest. refl)
act_count And x k os s = booleans_count s.count os _ (λ a b rest. refl)
act_count Or x k os s = booleans_count s.count os _ (λ a b rest. refl)
act_count Xor x k os s = booleans_count s.count os _ (λ a b rest. refl)
act_count Same x k os s = booleans_count s.count os _ (λ a b rest. refl)
act_count (Compare r) x k os s = integers_count s.count os _ (λ a b rest. refl)
act_count (Case r z p) x k os s = integer_count s.count os _ (λ a rest. cond_count s.count (holds r a z) _ _ refl refl)
act_count (CaseWithin p l m) x k os s = integer_count s.count os _ (λ a rest. cond_count s.count (is_between l m a) _ _ refl refl)
act_count (Pick p q) x k os s = boolean_count s.count os _ (λ b rest. refl)
act_count Drop x k os s = integer_count s.count os _ (λ a rest. refl)
act_count (Jump p) x k os s = refl
act_count (Output n r c) x k os s = operands_count s.count c os _ (λ vs rest. sent_count n (address_of r x.sender) vs k rest s)
act_count (Set t) x k os s = integer_count s.count os _ (λ a rest. refl)
act_count (Reset t) x k os s = refl
act_count (Next q) x k os s = refl
act_count Stop x k os s = refl

pub act_if_count : (o : Option Instruction) (x : Input) (k : ℕ) (os : List Value) (s : Progress) → CountIs s.count (act_if o x k os s)
act_if_count None x k os s = tt
act_if_count (Some i) x k os s = act_count i x k os s

pub step_count : (code : List Instruction) (x : Input) (k : ℕ) (os : List Value) (s : Progress) → CountIs (s.count + 1) (step code x k os s)
step_count code x k os s = act_if_count (slice_get code k) x (k + 1) os (tick s)

pub record EndsIn (t : Transition) (most : ℕ) (r : Ran) : Type 0 where
  pub end : End
  pub progress : Progress
  pub is : r ≡ ended end progress
  pub within : progress.count ≤ most
  pub well : EndsWell t end progress

after_ends : (t : Transition) (x : Input) (big n c : ℕ)
    → ((k : ℕ) (os : List Value) (s : Progress) → IsSafe t x n k os s → EndsIn t (s.count + n) (exec t.piece.code x big k os s))
    → (a : After) → CountIs (c + 1) a → IsSafeAfter t (IsSafe t x n) a → EndsIn t (c + suc n) (go_on (exec t.piece.code x big) a)
after_ends t x big n c rest (goes k os s) e h =
    let r = rest k os s h in
    let within : r.progress.count ≤ s.count + n = r.within in
    let is_count : s.count ≡ c + 1 = e in
    record { end = r.end; progress = r.progress; is = r.is; within = omega arith; well = r.well }
after_ends t x big n c rest (ends q s) e h =
    let is_count : s.count ≡ c + 1 = e in
    record { end = q; progress = s; is = refl; within = omega arith; well = h }
after_ends t x big n c rest (stuck z) e h = absurd h

pub ran : (t : Transition) (x : Input) (big n k : ℕ) (os : List Value) (s : Progress)
    → n ≤ big → IsSafe t x n k os s → EndsIn t (s.count + n) (exec t.piece.code x big k os s)
ran t x zero zero k os s le h = absurd h
ran t x (suc big) zero k os s le h = absurd h
ran t x zero (suc n) k os s le h = absurd (omega arith)
ran t x (suc big) (suc n) k os s le h =
    after_ends t x big n s.count (λ k os s g. ran t x big n k os s (omega arith) g) (step t.piece.code x k os s) (step_count t.piece.code x k os s) h.2
