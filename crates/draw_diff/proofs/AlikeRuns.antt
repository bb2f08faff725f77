-- Renamed code has the same effects as the original, instruction by instruction.
use Rattle.std.proofs.Common.{◌≡◌, ◌≢◌, ℕ, zero, suc, ◌+◌, ◌⊎◌, Bool as Truth, true, false, not, ◌&&◌, ◌||◌, if◌then◌else◌, eqb, ℤ, pos, ◌+ℤ◌, ◌-ℤ◌, ◌*ℤ◌, neg_ℤ, List, [], ◌∷◌, ◌++◌, length, map, take, drop, reverse, Option, Some, None, refl, sym, ap, ◌∙◌, subst, ⊎_elim, arith, true≢false}
use Rattle.std.specs.Prelude.{slice_get, slice_set, option_map, nat_le, int_lt, int_div, int_rem}
use Rattle.std.specs.Int.{int_rem_euclid}
use Rattle.std.proofs.lemmas.List.{map-append}
use Rattle.std.proofs.lemmas.Bool.{and_parts, eqb-true}
use Rattle.turn_code.proofs.SameCode.{instruction_same}
use Rattle.std.proofs.lemmas.Bool.Decides.{eqb_tells}
use Rattle.std.proofs.lemmas.Option.{same_Some, none-some}
use Rattle.plain_laws.proofs.Options.{some_none}
use Rattle.plain_laws.proofs.Places.{written_same, get_set_other}
use Rattle.turn_code.specs.Values.{wrap, holds, is_between, differ}
use Rattle.turn_code.specs.Run.{Progress, After, goes, ends, stuck, tick, with_variables, with_effect, loaded, stored, given, on_top, on_integer, on_boolean, on_integers, on_booleans, on_operands, of_party, sent, sending, address_of, act, act_if, step, Ran, ended, got_stuck, unfinished, go_on, exec, begun, run}
use Rattle.turn_code.specs.declared.value.Value.{Value}
use Rattle.turn_code.specs.declared.value.Value.TheVariants.{Int, Bool}
use Rattle.turn_code.specs.declared.effect.Effect.{Effect}
use Rattle.turn_code.specs.declared.effect.Effect.TheVariants as effect
use Rattle.turn_code.specs.declared.input.Input.{Input}
use Rattle.turn_code.specs.declared.input.Party.{Party}
use Rattle.turn_code.specs.declared.input.Address.{Address}
use Rattle.turn_code.specs.declared.instruction.Receiver.{Receiver}
use Rattle.turn_code.specs.declared.instruction.Receiver.TheVariants.{Party as ToParty, Sender as ToSender}
use Rattle.turn_code.specs.declared.instruction.Instruction.{Instruction}
use Rattle.turn_code.specs.declared.instruction.Instruction.TheVariants.{Int as PutInt, Bool as PutBool, Load, Store, Param, Add, Sub, Mul, Div, Mod, Rem, Neg, Not, And, Or, Xor, Same, Compare, Case, CaseWithin, Pick, Drop, Jump, Output, Set, Reset, Next, Stop}
use Rattle.turn_code.specs.declared.numbers.SignalNumber.{SignalNumber}
use Rattle.turn_code.specs.declared.draft.DraftVariable.{DraftVariable}
use Rattle.turn_code.specs.declared.machine.End.{End}
use Rattle.turn_code.specs.declared.machine.End.TheVariants as end
use Rattle.turn_code.specs.declared.trouble.Trouble.TheVariants.{WrongSort}
use Rattle.draw_diff.specs.Names.{Sides, back_to, is_number, moved, variable_name, moved_signal, moved_state, moved_timer, moved_variable}
use Rattle.draw_diff.specs.Renaming.{renamed_party, renamed_receiver, sent_to, renamed, is_there, are_renamed}
use Rattle.draw_diff.specs.Runs.{at_party, renamed_address, Agree, AreInputs, sent_as, renamed_effect, renamed_end, AreDone, AreRuns}

-- ---- options

given_some : {A : Type 0} (P : A → Type 0) (x y : A) → Some x ≡ Some y → P x → P y
given_some P x y e h = subst P (same_Some x y e) h

given_mapped : {A B : Type 0} (P : B → Type 0) (f : A → B) (o : Option A) (y : B) → option_map f o ≡ Some y → ((a : A) → o ≡ Some a → P (f a)) → P y
given_mapped P f None y e h = absurd (none-some y e)
given_mapped P f (Some a) y e h = given_some P (f a) y e (h a refl)

-- ---- variables of the same name have the same number

leads_back : (olds news : List DraftVariable) (n : ℕ) (o : Option ℕ) (w : ℕ) → back_to olds news n o ≡ Some w
    → is_number (moved variable_name news olds w) n ≡ true
leads_back olds news n None w e = absurd (none-some w e)
leads_back olds news n (Some m) w e = by (is_number (moved variable_name news olds m) n) refl e
  where
    by : (b : Truth) → is_number (moved variable_name news olds m) n ≡ b → (if b then Some m else None) ≡ Some w
        → is_number (moved variable_name news olds w) n ≡ true
    by true t e = given_some (λ w. is_number (moved variable_name news olds w) n ≡ true) m w e t
    by false t e = absurd (none-some w e)

one_number : (o : Option ℕ) (u v : ℕ) → is_number o u ≡ true → is_number o v ≡ true → u ≡ v
one_number None u v e f = eqb-true u v (by e)
  where
    by : false ≡ true → eqb u v ≡ true
    by e = absurd (true≢false (sym e))
one_number (Some m) u v e f = sym (eqb-true m u e) ∙ eqb-true m v f

one_variable : (s : Sides) (u v w : ℕ) → moved_variable s u ≡ Some w → moved_variable s v ≡ Some w → u ≡ v
one_variable s u v w e f =
    let olds = s.old_process.variables in
    let news = s.new_process.variables in
    one_number (moved variable_name news olds w) u v
    (leads_back olds news u (moved variable_name olds news u) w e)
    (leads_back olds news v (moved variable_name olds news v) w f)

agree_set : (s : Sides) (olds news : List (Option Value)) (v w : ℕ) (old new x : Option Value) → Agree s olds news → moved_variable s v ≡ Some w
    → slice_get olds v ≡ Some old → slice_get news w ≡ Some new → Agree s (slice_set olds v x) (slice_set news w x)
agree_set s olds news v w old new x agree m e f u t h =
    ⊎_elim
    (λ (same : (eqb u v ≡ true) × (u ≡ v)).
    let m' : moved_variable s u ≡ Some w = subst (λ k. moved_variable s k ≡ Some w) (sym same.1) m in
    let to : t ≡ w = same_Some t w (sym h ∙ m') in
    subst (λ k. slice_get (slice_set olds v x) k ≡ slice_get (slice_set news w x) t) (sym same.1)
    (written_same olds v old x e ∙ sym (subst (λ k. slice_get (slice_set news w x) k ≡ Some x) (sym to) (written_same news w new x f))))
    (λ (other : (eqb u v ≡ false) × (u ≢ v)).
    let apart : t ≢ w = λ to. other.1 (one_variable s u v w (subst (λ k. moved_variable s u ≡ Some k) to h) m) in
    get_set_other olds v u x other.1 ∙ agree u t h ∙ sym (get_set_other news w t x apart))
    (eqb_tells u v)

-- ---- effects

effects_more : (s : Sides) (a b : Progress) (e f : Effect) → AreDone s a b → renamed_effect s e ≡ Some f → AreDone s (with_effect a e) (with_effect b f)
effects_more s a b e f d h = record {
  variables = d.variables;
  effects =
      map-append (renamed_effect s) a.effects (e ∷ []) ∙ ap (λ u. u ++ renamed_effect s e ∷ []) d.effects
      ∙ ap (λ u. map (λ (e : Effect). Some e) b.effects ++ u ∷ []) h ∙ sym (map-append (λ (e : Effect). Some e) b.effects (f ∷ []));
  count = d.count;
}

-- ---- what follows an instruction

abbrev AreAfter : Sides → After → After → Type 0
AreAfter s (goes j os a) (goes k ps b) = (j ≡ k) × (os ≡ ps) × AreDone s a b
AreAfter s (goes j os a) (ends f b) = ⊥
AreAfter s (goes j os a) (stuck u) = ⊥
AreAfter s (ends e a) (goes k ps b) = ⊥
AreAfter s (ends e a) (ends f b) = (renamed_end s e ≡ Some f) × AreDone s a b
AreAfter s (ends e a) (stuck u) = ⊥
AreAfter s (stuck t) (goes k ps b) = ⊥
AreAfter s (stuck t) (ends f b) = ⊥
AreAfter s (stuck t) (stuck u) = t ≡ u

if_after : (s : Sides) (b : Truth) (p q r t : After) → AreAfter s p q → AreAfter s r t → AreAfter s (if b then p else r) (if b then q else t)
if_after s true p q r t h i = h
if_after s false p q r t h i = i

top_after : (s : Sides) (os : List Value) (f g : Value → List Value → After) → ((y : Value) (rest : List Value) → AreAfter s (f y rest) (g y rest))
    → AreAfter s (on_top os f) (on_top os g)
top_after s [] f g h = refl
top_after s (y ∷ os) f g h = h y os

integer_after : (s : Sides) (os : List Value) (f g : ℤ → List Value → After) → ((z : ℤ) (rest : List Value) → AreAfter s (f z rest) (g z rest))
    → AreAfter s (on_integer os f) (on_integer os g)
integer_after s [] f g h = refl
integer_after s (Int z ∷ os) f g h = h z os
integer_after s (Bool b ∷ os) f g h = refl

boolean_after : (s : Sides) (os : List Value) (f g : Truth → List Value → After) → ((z : Truth) (rest : List Value) → AreAfter s (f z rest) (g z rest))
    → AreAfter s (on_boolean os f) (on_boolean os g)
boolean_after s [] f g h = refl
boolean_after s (Int z ∷ os) f g h = refl
boolean_after s (Bool b ∷ os) f g h = h b os

integers_after : (s : Sides) (os : List Value) (f g : ℤ → ℤ → List Value → After) → ((y z : ℤ) (rest : List Value) → AreAfter s (f y z rest) (g y z rest))
    → AreAfter s (on_integers os f) (on_integers os g)
integers_after s [] f g h = refl
integers_after s (y ∷ []) f g h = refl
integers_after s (Int y ∷ Int x ∷ os) f g h = h x y os
integers_after s (Int y ∷ Bool x ∷ os) f g h = refl
integers_after s (Bool y ∷ x ∷ os) f g h = refl

booleans_after : (s : Sides) (os : List Value) (f g : Truth → Truth → List Value → After) → ((y z : Truth) (rest : List Value) → AreAfter s (f y z rest) (g y z rest))
    → AreAfter s (on_booleans os f) (on_booleans os g)
booleans_after s [] f g h = refl
booleans_after s (y ∷ []) f g h = refl
booleans_after s (Bool y ∷ Bool x ∷ os) f g h = h x y os
booleans_after s (Bool y ∷ Int x ∷ os) f g h = refl
booleans_after s (Int y ∷ x ∷ os) f g h = refl

operands_after : (s : Sides) (c : ℕ) (os : List Value) (f g : List Value → List Value → After)
    → ((vs rest : List Value) → AreAfter s (f vs rest) (g vs rest)) → AreAfter s (on_operands c os f) (on_operands c os g)
operands_after s c os f g h = if_after s (nat_le c (length os)) _ _ _ _ (h (reverse (take c os)) (drop c os)) refl

-- ---- variables and parameters

load_after : (s : Sides) (k : ℕ) (os : List Value) (a b : Progress) (o p : Option (Option Value)) → AreDone s a b → o ≡ p
    → AreAfter s (loaded k os a o) (loaded k os b p)
load_after s k os a b o p d e = subst (λ q. AreAfter s (loaded k os a o) (loaded k os b q)) e (own o)
  where
    own : (o : Option (Option Value)) → AreAfter s (loaded k os a o) (loaded k os b o)
    own None = refl
    own (Some None) = refl
    own (Some (Some x)) = (refl, refl, d)

store_after : (s : Sides) (k : ℕ) (os : List Value) (a b : Progress) (v w : ℕ) (x : Value) → AreDone s a b → moved_variable s v ≡ Some w
    → AreAfter s (stored k os a v x (slice_get a.variables v)) (stored k os b w x (slice_get b.variables w))
store_after s k os a b v w x d m =
    let e : slice_get a.variables v ≡ slice_get b.variables w = d.variables v w m in
    subst (λ q. AreAfter s (stored k os a v x (slice_get a.variables v)) (stored k os b w x q)) e (own (slice_get a.variables v) refl (sym e))
  where
    own : (o : Option (Option Value)) → slice_get a.variables v ≡ o → slice_get b.variables w ≡ o → AreAfter s (stored k os a v x o) (stored k os b w x o)
    own None e f = refl
    own (Some old) e f = (
      refl,
      refl,
      record {
        variables = agree_set s a.variables b.variables v w old old (Some x) d.variables m e f;
        effects = d.effects;
        count = d.count;
      },
    )

param_after : (s : Sides) (k : ℕ) (os : List Value) (a b : Progress) (o p : Option Value) → AreDone s a b → o ≡ p
    → AreAfter s (given k os a o) (given k os b p)
param_after s k os a b o p d e = subst (λ q. AreAfter s (given k os a o) (given k os b q)) e (own o)
  where
    own : (o : Option Value) → AreAfter s (given k os a o) (given k os b o)
    own None = refl
    own (Some x) = (refl, refl, d)

-- ---- signals that go out

sent_after : (s : Sides) (n m : SignalNumber) (vs : List Value) (k : ℕ) (os : List Value) (a b : Progress) (o p : Option Address) → AreDone s a b
    → moved_signal s n.0 ≡ Some m.0 → option_map (renamed_address s) o ≡ option_map (λ (a : Address). Some a) p
    → AreAfter s (sent n o vs k os a) (sent m p vs k os b)
sent_after s n m vs k os a b None None d e h = refl
sent_after s n m vs k os a b None (Some q) d e h = absurd (none-some (Some q) h)
sent_after s n m vs k os a b (Some p) None d e h = absurd (some_none h)
sent_after s n m vs k os a b (Some p) (Some q) d e h =
    let to : renamed_address s p ≡ Some q = same_Some (renamed_address s p) (Some q) h in (
      refl,
      refl,
      effects_more s a b (sending n p vs) (sending m q vs) d
          (ap (λ o. sent_as (record { signal = n; receiver = p; parameters = record { items = vs } }) o (renamed_address s p)) e
          ∙ ap (λ o. sent_as (record { signal = n; receiver = p; parameters = record { items = vs } }) (Some m.0) o) to),
    )

-- the receivers have the same name
addressed : (s : Sides) (r q : Receiver) (o p : Option Address) → renamed_receiver s r ≡ Some q
    → option_map (renamed_address s) o ≡ option_map (λ (a : Address). Some a) p
    → option_map (renamed_address s) (address_of r o) ≡ option_map (λ (a : Address). Some a) (address_of q p)
addressed s ToSender q o p e h =
    given_some (λ q. option_map (renamed_address s) (address_of ToSender o) ≡ option_map (λ (a : Address). Some a) (address_of q p)) ToSender q e h
addressed s (ToParty t) q o p e h =
    given_mapped (λ q. option_map (renamed_address s) (address_of (ToParty t) o) ≡ option_map (λ (a : Address). Some a) (address_of q p))
    (λ u. ToParty u) (renamed_party s t) q e (λ u f. ap (λ v. Some (at_party (of_party t) v)) f)

output_after : (s : Sides) (x y : Input) (n : SignalNumber) (r : Receiver) (c : ℕ) (j : Instruction) (k : ℕ) (os : List Value) (a b : Progress)
    → AreInputs s x y → AreDone s a b → (m : Option ℕ) (q : Option Receiver) → moved_signal s n.0 ≡ m → renamed_receiver s r ≡ q → sent_to c m q ≡ Some j
    → AreAfter s (act (Output n r c) x k os a) (act j y k os b)
output_after s x y n r c j k os a b same d None q em eq e = absurd (none-some j e)
output_after s x y n r c j k os a b same d (Some m) None em eq e = absurd (none-some j e)
output_after s x y n r c j k os a b same d (Some m) (Some q) em eq e =
    given_some (λ j. AreAfter s (act (Output n r c) x k os a) (act j y k os b)) (Output (record { 0 = m }) q c) j e
    (operands_after s c os _ _ (λ vs rest.
    sent_after s n (record { 0 = m }) vs k rest a b (address_of r x.sender) (address_of q y.sender) d em
    (addressed s r q x.sender y.sender eq same.sender)))

-- ---- one instruction

module _ (s : Sides) (x y : Input) (same : AreInputs s x y) (k : ℕ) (os : List Value) (a b : Progress) (d : AreDone s a b) where
  -- an instruction that is equal on both sides
  itself : (i j : Instruction) → Some i ≡ Some j → AreAfter s (act i x k os a) (act i y k os b) → AreAfter s (act i x k os a) (act j y k os b)
  itself i j e h = given_some (λ j. AreAfter s (act i x k os a) (act j y k os b)) i j e h

  divides : (f : ℤ → ℤ → ℤ) (z : ℤ)
      → AreAfter s (on_integer os (λ x rest. if int_lt (pos 0) z then goes k (Int (f x z) ∷ rest) a else stuck WrongSort))
      (on_integer os (λ x rest. if int_lt (pos 0) z then goes k (Int (f x z) ∷ rest) b else stuck WrongSort))
  divides f z = integer_after s os _ _ (λ p rest. if_after s (int_lt (pos 0) z) _ _ _ _ (refl, refl, d) refl)

  pub act_after : (i j : Instruction) → renamed s i ≡ Some j → AreAfter s (act i x k os a) (act j y k os b)
  act_after (PutInt z) j e = itself (PutInt z) j e (refl, refl, d)
  act_after (PutBool z) j e = itself (PutBool z) j e (refl, refl, d)
  act_after (Load v) j e =
      given_mapped (λ j. AreAfter s (act (Load v) x k os a) (act j y k os b)) (λ w. Load (record { 0 = w })) (moved_variable s v.0) j e
      (λ w m. load_after s k os a b (slice_get a.variables v.0) (slice_get b.variables w) d (d.variables v.0 w m))
  act_after (Store v) j e =
      given_mapped (λ j. AreAfter s (act (Store v) x k os a) (act j y k os b)) (λ w. Store (record { 0 = w })) (moved_variable s v.0) j e
      (λ w m. top_after s os _ _ (λ z rest. store_after s k rest a b v.0 w z d m))
  act_after (Param n) j e =
      itself (Param n) j e
      (param_after s k os a b (slice_get x.parameters.items n) (slice_get y.parameters.items n) d (ap (λ ps. slice_get ps.items n) same.parameters))
  act_after Add j e = itself Add j e (integers_after s os _ _ (λ p q rest. (refl, refl, d)))
  act_after Sub j e = itself Sub j e (integers_after s os _ _ (λ p q rest. (refl, refl, d)))
  act_after Mul j e = itself Mul j e (integers_after s os _ _ (λ p q rest. (refl, refl, d)))
  act_after (Div z) j e = itself (Div z) j e (divides int_div z)
  act_after (Mod z) j e = itself (Mod z) j e (divides int_rem_euclid z)
  act_after (Rem z) j e = itself (Rem z) j e (divides int_rem z)
  act_after Neg j e = itself Neg j e (integer_after s os _ _ (λ p rest. (refl, refl, d)))
  act_after Not j e = itself Not j e (boolean_after s os _ _ (λ p rest. (refl, refl, d)))
  act_after And j e = itself And j e (booleans_after s os _ _ (λ p q rest. (refl, refl, d)))
  act_after Or j e = itself Or j e (booleans_after s os _ _ (λ p q rest. (refl, refl, d)))
  act_after Xor j e = itself Xor j e (booleans_after s os _ _ (λ p q rest. (refl, refl, d)))
  act_after Same j e = itself Same j e (booleans_after s os _ _ (λ p q rest. (refl, refl, d)))
  act_after (Compare r) j e = itself (Compare r) j e (integers_after s os _ _ (λ p q rest. (refl, refl, d)))
  act_after (Case r z p) j e = itself (Case r z p) j e (integer_after s os _ _ (λ u rest. if_after s (holds r u z) _ _ _ _ (refl, refl, d) (refl, refl, d)))
  act_after (CaseWithin p l h) j e =
      itself (CaseWithin p l h) j e (integer_after s os _ _ (λ u rest. if_after s (is_between l h u) _ _ _ _ (refl, refl, d) (refl, refl, d)))
  act_after (Pick p q) j e = itself (Pick p q) j e (boolean_after s os _ _ (λ u rest. (refl, refl, d)))
  act_after Drop j e = itself Drop j e (integer_after s os _ _ (λ p rest. (refl, refl, d)))
  act_after (Jump p) j e = itself (Jump p) j e (refl, refl, d)
  act_after (Output n r c) j e = output_after s x y n r c j k os a b same d (moved_signal s n.0) (renamed_receiver s r) refl refl e
  act_after (Set t) j e =
      given_mapped (λ j. AreAfter s (act (Set t) x k os a) (act j y k os b)) (λ u. Set (record { 0 = u })) (moved_timer s t.0) j e
      (λ u m. integer_after s os _ _ (λ z rest. (
        refl,
        refl,
        effects_more s a b (effect.Set t z) (effect.Set (record { 0 = u }) z) d
            (ap (λ o. option_map (λ u. effect.Set (record { 0 = u }) z) o) m),
      )))
  act_after (Reset t) j e =
      given_mapped (λ j. AreAfter s (act (Reset t) x k os a) (act j y k os b)) (λ u. Reset (record { 0 = u })) (moved_timer s t.0) j e
      (λ u m. (
        refl,
        refl,
        effects_more s a b (effect.Reset t) (effect.Reset (record { 0 = u })) d
            (ap (λ o. option_map (λ u. effect.Reset (record { 0 = u })) o) m),
      ))
  act_after (Next q) j e =
      given_mapped (λ j. AreAfter s (act (Next q) x k os a) (act j y k os b)) (λ r. Next (record { 0 = r })) (moved_state s q.0) j e
      (λ r m. (ap (λ o. option_map (λ r. end.State (record { 0 = r })) o) m, d))
  act_after Stop j e = itself Stop j e (refl, d)

-- ---- runs

-- each instruction of the old code, renamed, equals that of the new code
abbrev AreRenamed : Sides → List Instruction → List Instruction → Type 0
AreRenamed s [] [] = Unit {0}
AreRenamed s [] (j ∷ js) = ⊥
AreRenamed s (i ∷ is) [] = ⊥
AreRenamed s (i ∷ is) (j ∷ js) = (renamed s i ≡ Some j) × AreRenamed s is js

one_renamed : (o : Option Instruction) (j : Instruction) → is_there o j ≡ true → o ≡ Some j
one_renamed None j h = absurd (true≢false (sym h))
one_renamed (Some i) j h = ap Some (instruction_same i j h)

all_renamed : (s : Sides) (olds news : List Instruction) → are_renamed s olds news ≡ true → AreRenamed s olds news
all_renamed s [] [] h = tt
all_renamed s [] (j ∷ js) h = true≢false (sym h)
all_renamed s (i ∷ is) [] h = true≢false (sym h)
all_renamed s (i ∷ is) (j ∷ js) h =
    let both = and_parts (is_there (renamed s i) j) (are_renamed s is js) h in
    (one_renamed (renamed s i) j both.0, all_renamed s is js both.1)

-- the instructions at a place on both sides: equal after renaming, or missing on both
abbrev Both : Sides → Option Instruction → Option Instruction → Type 0
Both s None None = Unit {0}
Both s None (Some j) = ⊥
Both s (Some i) None = ⊥
Both s (Some i) (Some j) = renamed s i ≡ Some j

both_at : (s : Sides) (olds news : List Instruction) → AreRenamed s olds news → (k : ℕ) → Both s (slice_get olds k) (slice_get news k)
both_at s [] [] h k = tt
both_at s [] (j ∷ js) h k = absurd h
both_at s (i ∷ is) [] h k = absurd h
both_at s (i ∷ is) (j ∷ js) h zero = h.0
both_at s (i ∷ is) (j ∷ js) h (suc k) = both_at s is js h.1 k

ticked : (s : Sides) (a b : Progress) → AreDone s a b → AreDone s (tick a) (tick b)
ticked s a b d = record { variables = d.variables; effects = d.effects; count = ap (λ n. n + 1) d.count }

place_after : (s : Sides) (x y : Input) → AreInputs s x y → (k : ℕ) (os : List Value) (a b : Progress) → AreDone s a b
    → (o p : Option Instruction) → Both s o p → AreAfter s (act_if o x k os a) (act_if p y k os b)
place_after s x y same k os a b d None None h = refl
place_after s x y same k os a b d None (Some j) h = absurd h
place_after s x y same k os a b d (Some i) None h = absurd h
place_after s x y same k os a b d (Some i) (Some j) h = act_after s x y same k os a b d i j h

module _ (s : Sides) (olds news : List Instruction) (x y : Input) (are : AreRenamed s olds news) (same : AreInputs s x y) where
  go_alike : (f g : ℕ → List Value → Progress → Ran) → ((k : ℕ) (os : List Value) (a b : Progress) → AreDone s a b → AreRuns s (f k os a) (g k os b))
      → (p q : After) → AreAfter s p q → AreRuns s (go_on f p) (go_on g q)
  go_alike f g on (goes j os a) (goes k ps b) h =
      subst (λ k. AreRuns s (f j os a) (g k ps b)) h.0 (subst (λ ps. AreRuns s (f j os a) (g j ps b)) h.1 (on j os a b h.2))
  go_alike f g on (goes j os a) (ends e b) h = absurd h
  go_alike f g on (goes j os a) (stuck u) h = absurd h
  go_alike f g on (ends e a) (goes k ps b) h = absurd h
  go_alike f g on (ends e a) (ends d b) h = h
  go_alike f g on (ends e a) (stuck u) h = absurd h
  go_alike f g on (stuck t) (goes k ps b) h = absurd h
  go_alike f g on (stuck t) (ends e b) h = absurd h
  go_alike f g on (stuck t) (stuck u) h = h

  exec_alike : (n k : ℕ) (os : List Value) (a b : Progress) → AreDone s a b → AreRuns s (exec olds x n k os a) (exec news y n k os b)
  exec_alike zero k os a b d = tt
  exec_alike (suc n) k os a b d =
      go_alike (exec olds x n) (exec news y n) (λ k os a b d. exec_alike n k os a b d) (step olds x k os a) (step news y k os b)
      (place_after s x y same (k + 1) os (tick a) (tick b) (ticked s a b d) (slice_get olds k) (slice_get news k) (both_at s olds news are k))

pub run_alike : (s : Sides) (olds news : List Instruction) (x y : Input) → are_renamed s olds news ≡ true → AreInputs s x y
    → AreRuns s (run olds x) (run news y)
unfolding run
run_alike s olds news x y are same =
    exec_alike s olds news x y (all_renamed s olds news are) same 512 0 [] (begun x) (begun y)
    (record { variables = same.variables; effects = refl; count = refl })
