-- Words have the operands for an instruction if they represent values that fit the facts of its place.
use Rattle.std.proofs.Common.{◌≡◌, ℕ, ◌<◌, ◌≤◌, IsTrue, List, ◌∷◌, length, map, Option, Some, None, refl, sym, ap, ◌∙◌, subst, arith}
use Rattle.std.specs.Prelude.{slice_get, pos, ◌≤ℤ◌, All}
use Rattle.std.proofs.lemmas.List.{length-reverse}
use Rattle.turn_code.proofs.Lists.{within, map_length, only}
use Rattle.turn_code.proofs.Stands.{Before}
use Rattle.turn_code.specs.Values.{sort_of}
use Rattle.turn_code.specs.Machine.{grows}
use Rattle.turn_code.specs.Run.{Progress, After, goes, stuck, loaded, given, act}
use Rattle.turn_code.specs.Transitions.{parameters_of}
use Rattle.turn_code.specs.Code.{takes, sends, reads, sets, parameters_in, divisors_in}
use Rattle.turn_code.specs.declared.value.Sort.{Sort}
use Rattle.turn_code.specs.declared.value.Value.{Value}
use Rattle.turn_code.specs.declared.value.Value.TheVariants.{Int, Bool}
use Rattle.turn_code.specs.declared.input.Input.{Input}
use Rattle.turn_code.specs.declared.instruction.Instruction.{Instruction}
use Rattle.turn_code.specs.declared.instruction.Instruction.TheVariants.{Int as PutInt, Bool as PutBool, Load, Store, Param, Add, Sub, Mul, Div, Mod, Rem, Neg, Not, And, Or, Xor, Same, Compare, Case, CaseWithin, Pick, Drop, Jump, Output, Set, Reset, Next, Stop}
use Rattle.turn_code.specs.declared.trouble.Trouble.{Trouble}
use Rattle.turn_code.specs.declared.variable_set.VariableSet.{VariableSet}
use Rattle.turn_code.specs.declared.draft.DraftSignal.{DraftSignal}
use Rattle.turn_code.specs.declared.draft.DraftVariable.{DraftVariable}
use Rattle.plain_laws.proofs.Places.{there_is as there}
use Rattle.turn_code.specs.Bare.{Bare, Takes, HasWords, HasOperandsFor}
use Rattle.turn_code.specs.Meant.{word_of, AreWordsOf}
use Rattle.turn_code.proofs.Following.{sort_there}

-- ---- room for one more operand, if each place where the code goes on has at most 16 operands
module _ (P : After → Type 0) (deep : (j : ℕ) (os : List Value) (s : Progress) → P (goes j os s) → length os ≤ 16) (never : (z : Trouble) → P (stuck z) → ⊥) where
  put_room : (y : Value) (k : ℕ) (os : List Value) (s : Progress) → P (goes k (y ∷ os) s) → length os < 16
  put_room y k os s h = let n : length (y ∷ os) ≤ 16 = deep k (y ∷ os) s h in omega arith

  loaded_room : (k : ℕ) (os : List Value) (s : Progress) (o : Option (Option Value)) → P (loaded k os s o) → length os < 16
  loaded_room k os s None h = absurd (never _ h)
  loaded_room k os s (Some None) h = absurd (never _ h)
  loaded_room k os s (Some (Some y)) h = put_room y k os s h

  given_room : (k : ℕ) (os : List Value) (s : Progress) (o : Option Value) → P (given k os s o) → length os < 16
  given_room k os s None h = absurd (never _ h)
  given_room k os s (Some y) h = put_room y k os s h

  pub grown_room : (i : Instruction) (x : Input) (k : ℕ) (os : List Value) (s : Progress) → P (act i x k os s) → IsTrue (grows i) → length os < 16
  grown_room (PutInt z) x k os s h g = put_room (Int z) k os s h
  grown_room (PutBool t) x k os s h g = put_room (Bool t) k os s h
  grown_room (Load v) x k os s h g = loaded_room k os s (slice_get s.variables v.0) h
  grown_room (Param j) x k os s h g = given_room k os s (slice_get x.parameters.items j) h
  grown_room _ x k os s h g = cc

-- ---- the operands of each instruction
takes_some : (n : ℕ) (b : Bare) (os : List Value) (vs : List (Option Value)) (ps : List Value) → AreWordsOf b os vs ps → length os ≤ 16
    → n ≤ length (map sort_of os) → Takes n b
takes_some n b os vs ps h deep u =
    let long = map_length sort_of os in
    let d : b.depth ≡ length os = h.depth in
    (omega arith, omega arith)

has_room : (b : Bare) (os : List Value) (vs : List (Option Value)) (ps : List Value) → AreWordsOf b os vs ps → length os < 16 → b.depth < 16
has_room b os vs ps h room = let d : b.depth ≡ length os = h.depth in omega arith

module _ (ss : List DraftSignal) (xs : List DraftVariable) (ps : List Sort) (m : VariableSet) (x : Input) (b : Bare) (os : List Value) (vs : List (Option Value))
    (h : AreWordsOf b os vs x.parameters.items) (deep : length os ≤ 16) where
  takes_n : (n : ℕ) → n ≤ length (map sort_of os) → Takes n b
  takes_n n u = takes_some n b os vs x.parameters.items h deep u

  room_for : length os < 16 → b.depth < 16
  room_for r = has_room b os vs x.parameters.items h r

  pub has_operands : (i : Instruction) → Before ss xs ps m i x os vs → (IsTrue (grows i) → length os < 16) → HasOperandsFor i b
  has_operands (PutInt z) q room = room_for (room refl)
  has_operands (PutBool t) q room = room_for (room refl)
  has_operands (Load v) q room = room_for (room refl)
  has_operands (Store v) q room =
      let here : v.0 < length xs = only (λ v. v < length xs) v.0 q.sets_there in
      let y = there xs v.0 here in
      let under : 1 ≤ length (map sort_of os) = rw (sort_there xs v.0 y.0 y.1) at q.under in
      takes_n 1 under
  has_operands (Param j) q room = room_for (room refl)
  has_operands Add q room = takes_n 2 q.under
  has_operands Sub q room = takes_n 2 q.under
  has_operands Mul q room = takes_n 2 q.under
  has_operands (Div z) q room = takes_n 1 q.under
  has_operands (Mod z) q room = takes_n 1 q.under
  has_operands (Rem z) q room = takes_n 1 q.under
  has_operands Neg q room = takes_n 1 q.under
  has_operands Not q room = takes_n 1 q.under
  has_operands And q room = takes_n 2 q.under
  has_operands Or q room = takes_n 2 q.under
  has_operands Xor q room = takes_n 2 q.under
  has_operands Same q room = takes_n 2 q.under
  has_operands (Compare r) q room = takes_n 2 q.under
  has_operands (Case r z p) q room = takes_n 1 q.under
  has_operands (CaseWithin p y z) q room = takes_n 1 q.under
  has_operands (Pick p y) q room = takes_n 1 q.under
  has_operands Drop q room = takes_n 1 q.under
  has_operands (Jump p) q room = tt
  has_operands (Output n r c) q room =
      let taken : length (takes ss xs (Output n r c)) ≡ c = length-reverse (parameters_of (slice_get ss n.0)) ∙ sym q.sent.0 in
      takes_n c (subst (λ u. u ≤ length (map sort_of os)) taken q.under)
  has_operands (Set t) q room = takes_n 1 q.under
  has_operands (Reset t) q room = tt
  has_operands (Next y) q room = tt
  has_operands Stop q room = tt

-- ---- the other requirements: the numbers that an instruction names
module _ (xs : List DraftVariable) (ps : List Sort) (b : Bare) (wide : length xs ≤ 32) (four : length ps ≤ 4) where
  pub words_for : (i : Instruction) → HasOperandsFor i b → All (λ v. v < length xs) (reads i) → All (λ v. v < length xs) (sets i)
      → All (λ j. j < length ps) (parameters_in i) → All (λ z. pos 1 ≤ℤ z) (divisors_in i) → sends i ≤ 4 → HasWords i b
  words_for (PutInt z) h reading setting given divisors few = h
  words_for (PutBool t) h reading setting given divisors few = h
  words_for (Load v) h reading setting given divisors few = let there : v.0 < length xs = only (λ v. v < length xs) v.0 reading in (h, omega arith)
  words_for (Store v) h reading setting given divisors few = let there : v.0 < length xs = only (λ v. v < length xs) v.0 setting in (h, omega arith)
  words_for (Param j) h reading setting given divisors few = let there : j < length ps = only (λ j. j < length ps) j given in (h, omega arith)
  words_for Add h reading setting given divisors few = h
  words_for Sub h reading setting given divisors few = h
  words_for Mul h reading setting given divisors few = h
  words_for (Div z) h reading setting given divisors few = (h, only (λ z. pos 1 ≤ℤ z) z divisors)
  words_for (Mod z) h reading setting given divisors few = (h, only (λ z. pos 1 ≤ℤ z) z divisors)
  words_for (Rem z) h reading setting given divisors few = (h, only (λ z. pos 1 ≤ℤ z) z divisors)
  words_for Neg h reading setting given divisors few = h
  words_for Not h reading setting given divisors few = h
  words_for And h reading setting given divisors few = h
  words_for Or h reading setting given divisors few = h
  words_for Xor h reading setting given divisors few = h
  words_for Same h reading setting given divisors few = h
  words_for (Compare r) h reading setting given divisors few = h
  words_for (Case r z p) h reading setting given divisors few = h
  words_for (CaseWithin p y z) h reading setting given divisors few = h
  words_for (Pick p y) h reading setting given divisors few = h
  words_for Drop h reading setting given divisors few = h
  words_for (Jump p) h reading setting given divisors few = h
  words_for (Output n r c) h reading setting given divisors few = (few, h)
  words_for (Set t) h reading setting given divisors few = h
  words_for (Reset t) h reading setting given divisors few = h
  words_for (Next y) h reading setting given divisors few = h
  words_for Stop h reading setting given divisors few = h
