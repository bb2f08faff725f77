-- The effects of a run of a valid transition are right.
use Rattle.std.proofs.Common.{◌≡◌, ℕ, zero, suc, ◌+◌, ◌<◌, ◌≤◌, ℤ, pos, Bool as Truth, true, false, if◌then◌else◌, List, [], ◌∷◌, ◌++◌, length, map, take, drop, reverse, Option, Some, None, refl, sym, ap, ◌∙◌, subst, arith}
use Rattle.std.specs.Prelude.{slice_get, int_lt, nat_le, Any, All}
use Rattle.std.proofs.lemmas.List.{length-reverse, reverse-reverse, reverse-append, map-append}
use Rattle.turn_code.proofs.Lists.{only}
use Rattle.turn_code.proofs.Stands.{IsFine, act_fine}
use Rattle.turn_code.proofs.SafeRuns.{Stands, code_at, before, goes_on, stands_at_start}
use Rattle.turn_code.specs.Values.{sort_of, holds, is_between}
use Rattle.turn_code.specs.Run.{Progress, After, goes, ends, stuck, loaded, stored, given, on_top, on_integer, on_boolean, on_integers, on_booleans, sent, sending, of_party, address_of, act, act_if, tick, Ran, ended, got_stuck, unfinished, go_on, exec, run, begun}
use Rattle.turn_code.specs.Code.{takes, timers_in, successors}
use Rattle.turn_code.specs.Routes.{IsProcess, Brings, IsPartyOf, Reaches, Answers}
use Rattle.turn_code.specs.Transitions.{Transition, parameters_of}
use Rattle.turn_code.specs.Rules.{Agree, ReachesReceiver, KeepsOutput, greatest, counts_at}
use Rattle.turn_code.specs.Valid.{IsValidTransition}
use Rattle.turn_code.specs.At.{IsAt}
use Rattle.turn_code.specs.Fits.{IsBrought, FitsTransition}
use Rattle.turn_code.specs.Effects.{IsRightEffect, AreRightEffects}
use Rattle.turn_code.specs.declared.value.Sort.{Sort}
use Rattle.turn_code.specs.declared.value.Value.{Value}
use Rattle.turn_code.specs.declared.value.Value.TheVariants.{Int, Bool}
use Rattle.turn_code.specs.declared.effect.Effect.{Effect}
use Rattle.turn_code.specs.declared.effect.Effect.TheVariants as effect
use Rattle.turn_code.specs.declared.numbers.SignalNumber.{SignalNumber}
use Rattle.turn_code.specs.declared.input.Input.{Input}
use Rattle.turn_code.specs.declared.input.Party.{Party}
use Rattle.turn_code.specs.declared.input.Address.{Address}
use Rattle.turn_code.specs.declared.instruction.Receiver.{Receiver}
use Rattle.turn_code.specs.declared.instruction.Receiver.TheVariants.{Party as ToParty, Sender as ToSender}
use Rattle.turn_code.specs.declared.instruction.Instruction.{Instruction}
use Rattle.turn_code.specs.declared.instruction.Instruction.TheVariants.{Int as PutInt, Bool as PutBool, Load, Store, Param, Add, Sub, Mul, Div, Mod, Rem, Neg, Not, And, Or, Xor, Same, Compare, Case, CaseWithin, Pick, Drop, Jump, Output, Set, Reset, Next, Stop}
use Rattle.turn_code.specs.declared.machine.End.{End}
use Rattle.turn_code.specs.declared.trouble.Trouble.TheVariants.{Underflow}
use Rattle.turn_code.specs.declared.draft.Draft.{Draft}
use Rattle.turn_code.specs.declared.draft.DraftRoute.{DraftRoute}
use Rattle.turn_code.specs.declared.draft.Trigger.{Trigger}
use Rattle.turn_code.specs.declared.draft.Trigger.TheVariants.{Signal, Timer}

-- ---- one instruction: what holds of the effects before it, and of those with its own added, holds of the effects
-- after it
abbrev pub EffectsAre : (List Effect → Type 0) → After → Type 0
EffectsAre P (goes k os s) = P s.effects
EffectsAre P (ends e s) = P s.effects
EffectsAre P (stuck z) = Unit {0}

-- what must hold of the effects once an instruction has added its own
abbrev pub Adds : (List Effect → Type 0) → Instruction → Input → List Value → List Effect → Type 0
Adds P (Output n r c) x os es = (p : Address) → address_of r x.sender ≡ Some p → P (es ++ sending n p (reverse (take c os)) ∷ [])
Adds P (Set t) x os es = (z : ℤ) → P (es ++ effect.Set t z ∷ [])
Adds P (Reset t) x os es = P (es ++ effect.Reset t ∷ [])
Adds P _ x os es = Unit {0}

module _ (P : List Effect → Type 0) (s : Progress) (old : P s.effects) where
  loaded_keeps : (k : ℕ) (os : List Value) (o : Option (Option Value)) → EffectsAre P (loaded k os s o)
  loaded_keeps k os None = tt
  loaded_keeps k os (Some None) = tt
  loaded_keeps k os (Some (Some x)) = old

  stored_keeps : (k : ℕ) (os : List Value) (v : ℕ) (x : Value) (o : Option (Option Value)) → EffectsAre P (stored k os s v x o)
  stored_keeps k os v x None = tt
  stored_keeps k os v x (Some y) = old

  given_keeps : (k : ℕ) (os : List Value) (o : Option Value) → EffectsAre P (given k os s o)
  given_keeps k os None = tt
  given_keeps k os (Some x) = old

  sent_keeps : (n : SignalNumber) (o : Option Address) (vs : List Value) (k : ℕ) (os : List Value)
      → ((p : Address) → o ≡ Some p → P (s.effects ++ sending n p vs ∷ [])) → EffectsAre P (sent n o vs k os s)
  sent_keeps n None vs k os h = tt
  sent_keeps n (Some p) vs k os h = h p refl

either_keeps : (P : List Effect → Type 0) (b : Truth) (x y : After) → EffectsAre P x → EffectsAre P y → EffectsAre P (if b then x else y)
either_keeps P true x y h i = h
either_keeps P false x y h i = i

top_keeps : (P : List Effect → Type 0) (os : List Value) (go : Value → List Value → After) → ((x : Value) (rest : List Value) → EffectsAre P (go x rest)) → EffectsAre P (on_top os go)
top_keeps P [] go h = tt
top_keeps P (x ∷ os) go h = h x os

integer_keeps : (P : List Effect → Type 0) (os : List Value) (go : ℤ → List Value → After) → ((x : ℤ) (rest : List Value) → EffectsAre P (go x rest)) → EffectsAre P (on_integer os go)
integer_keeps P [] go h = tt
integer_keeps P (Int x ∷ os) go h = h x os
integer_keeps P (Bool x ∷ os) go h = tt

boolean_keeps : (P : List Effect → Type 0) (os : List Value) (go : Truth → List Value → After) → ((x : Truth) (rest : List Value) → EffectsAre P (go x rest)) → EffectsAre P (on_boolean os go)
boolean_keeps P [] go h = tt
boolean_keeps P (Int x ∷ os) go h = tt
boolean_keeps P (Bool x ∷ os) go h = h x os

integers_keep : (P : List Effect → Type 0) (os : List Value) (go : ℤ → ℤ → List Value → After) → ((x y : ℤ) (rest : List Value) → EffectsAre P (go x y rest)) → EffectsAre P (on_integers os go)
integers_keep P [] go h = tt
integers_keep P (y ∷ []) go h = tt
integers_keep P (Int y ∷ Int x ∷ os) go h = h x y os
integers_keep P (Int y ∷ Bool x ∷ os) go h = tt
integers_keep P (Bool y ∷ x ∷ os) go h = tt

booleans_keep : (P : List Effect → Type 0) (os : List Value) (go : Truth → Truth → List Value → After) → ((x y : Truth) (rest : List Value) → EffectsAre P (go x y rest)) → EffectsAre P (on_booleans os go)
booleans_keep P [] go h = tt
booleans_keep P (y ∷ []) go h = tt
booleans_keep P (Bool y ∷ Bool x ∷ os) go h = h x y os
booleans_keep P (Bool y ∷ Int x ∷ os) go h = tt
booleans_keep P (Int y ∷ x ∷ os) go h = tt

pub act_keeps : (P : List Effect → Type 0) (i : Instruction) (x : Input) (k : ℕ) (os : List Value) (s : Progress) → P s.effects → Adds P i x os s.effects → EffectsAre P (act i x k os s)
act_keeps P (PutInt z) x k os s h a = h
act_keeps P (PutBool b) x k os s h a = h
act_keeps P (Load v) x k os s h a = loaded_keeps P s h k os (slice_get s.variables v.0)
act_keeps P (Store v) x k os s h a = top_keeps P os _ (λ y rest. stored_keeps P s h k rest v.0 y (slice_get s.variables v.0))
act_keeps P (Param j) x k os s h a = given_keeps P s h k os (slice_get x.parameters.items j)
act_keeps P Add x k os s h a = integers_keep P os _ (λ y z rest. h)
act_keeps P Sub x k os s h a = integers_keep P os _ (λ y z rest. h)
act_keeps P Mul x k os s h a = integers_keep P os _ (λ y z rest. h)
act_keeps P (Div z) x k os s h a = integer_keeps P os _ (λ y rest. either_keeps P (int_lt (pos 0) z) _ _ h tt)
act_keeps P (Mod z) x k os s h a = integer_keeps P os _ (λ y rest. either_keeps P (int_lt (pos 0) z) _ _ h tt)
act_keeps P (Rem z) x k os s h a = integer_keeps P os _ (λ y rest. either_keeps P (int_lt (pos 0) z) _ _ h tt)
act_keeps P Neg x k os s h a = integer_keeps P os _ (λ y rest. h)
act_keeps P Not x k os s h a = boolean_keeps P os _ (λ y rest. h)
act_keeps P And x k os s h a = booleans_keep P os _ (λ y z rest. h)
act_keeps P Or x k os s h a = booleans_keep P os _ (λ y z rest. h)
act_keeps P Xor x k os s h a = booleans_keep P os _ (λ y z rest. h)
act_keeps P Same x k os s h a = booleans_keep P os _ (λ y z rest. h)
act_keeps P (Compare r) x k os s h a = integers_keep P os _ (λ y z rest. h)
act_keeps P (Case r z p) x k os s h a = integer_keeps P os _ (λ y rest. either_keeps P (holds r y z) _ _ h h)
act_keeps P (CaseWithin p l m) x k os s h a = integer_keeps P os _ (λ y rest. either_keeps P (is_between l m y) _ _ h h)
act_keeps P (Pick p q) x k os s h a = boolean_keeps P os _ (λ b rest. h)
act_keeps P Drop x k os s h a = integer_keeps P os _ (λ y rest. h)
act_keeps P (Jump p) x k os s h a = h
act_keeps P (Output n r c) x k os s h a =
    either_keeps P (nat_le c (length os)) _ (stuck Underflow) (sent_keeps P s h n (address_of r x.sender) (reverse (take c os)) k (drop c os) a) tt
act_keeps P (Set t) x k os s h a = integer_keeps P os _ (λ z rest. a z)
act_keeps P (Reset t) x k os s h a = a
act_keeps P (Next q) x k os s h a = h
act_keeps P Stop x k os s h a = h

-- ---- the operands that an output takes
agreed : (xs ys : List Sort) → Agree xs ys → length xs ≤ length ys → take (length xs) ys ≡ xs
agreed [] ys a h = refl
agreed (x ∷ xs) [] a h = absurd (omega arith)
agreed (x ∷ xs) (y ∷ ys) a h = let rest = agreed xs ys a.1 (omega arith) in let same : y ≡ x = a.0 in cc

map_take : {A B : Type 0} (f : A → B) (n : ℕ) (xs : List A) → map f (take n xs) ≡ take n (map f xs)
map_take f zero xs = refl
map_take f (suc n) [] = refl
map_take f (suc n) (x ∷ xs) = ap (λ u. f x ∷ u) (map_take f n xs)

map_turned : {A B : Type 0} (f : A → B) (xs : List A) → map f (reverse xs) ≡ reverse (map f xs)
map_turned f [] = refl
map_turned f (x ∷ xs) =
    ap (map f) (reverse-append (x ∷ []) xs) ∙ map-append f (reverse xs) (x ∷ [])
    ∙ ap (λ u. u ++ f x ∷ []) (map_turned f xs) ∙ sym (reverse-append (f x ∷ []) (map f xs))

sorts_sent : (ps : List Sort) (os : List Value) (c : ℕ) → c ≡ length ps → Agree (reverse ps) (map sort_of os) → length (reverse ps) ≤ length (map sort_of os)
    → map sort_of (reverse (take c os)) ≡ ps
sorts_sent ps os c count agree under =
    let long : length (reverse ps) ≡ c = length-reverse ps ∙ sym count in
    map_turned sort_of (take c os) ∙ ap reverse (map_take sort_of c os) ∙ ap (λ n. reverse (take n (map sort_of os))) (sym long)
    ∙ ap reverse (agreed (reverse ps) (map sort_of os) agree under) ∙ reverse-reverse ps

-- ---- the receiver of an output
abbrev pub IsReached : Draft → ℕ → SignalNumber → Party → Type 0
IsReached d p n receiver = IsPartyOf d.processes receiver × Reaches d.routes p receiver n

answered : (d : Draft) (p : ℕ) (m n : SignalNumber) (sender : Party) → Any (Brings sender p m) d.routes → All (Answers d.processes d.routes p m n) d.routes
    → IsReached d p n sender
answered d p m n sender brings answers =
    let r : DraftRoute = brings.1 in
    let here : Answers d.processes d.routes p m n r = subst (Answers d.processes d.routes p m n) brings.3 (answers brings.0 r brings.2) in
    subst (IsReached d p n) brings.4.from (here (subst (IsProcess p) (sym brings.4.to) refl) brings.4.signal)

receiver_reached : (d : Draft) (t : Transition) (x : Input) (n : SignalNumber) (r : Receiver) (p : Address) → IsBrought d t.number t.trigger x.sender
    → ReachesReceiver d t.number n t.trigger r → address_of r x.sender ≡ Some p → IsReached d t.number n p.party
receiver_reached d t x n (ToParty q) p brought reaches e = let same : of_party q ≡ p = cc in subst (λ (a : Address). IsReached d t.number n a.party) same reaches
receiver_reached d t x n ToSender p brought reaches e = by t.trigger x.sender brought reaches e
  where
    by : (trigger : Option Trigger) (sender : Option Address) → IsBrought d t.number trigger sender → ReachesReceiver d t.number n trigger ToSender
        → address_of ToSender sender ≡ Some p → IsReached d t.number n p.party
    by None sender b h e = absurd h
    by (Some (Timer m)) sender b h e = absurd h
    by (Some (Signal m)) None b h e = absurd b
    by (Some (Signal m)) (Some q) b h e = let same : q ≡ p = cc in subst (λ (a : Address). IsReached d t.number n a.party) same (answered d t.number m n q.party b h)

-- ---- the run
right_more : (d : Draft) (t : Transition) (es : List Effect) (e : Effect) → AreRightEffects d t es → IsRightEffect d t e → AreRightEffects d t (es ++ e ∷ [])
right_more d t [] e h one = (one, tt)
right_more d t (y ∷ es) e h one = (h.0, right_more d t es e h.1 one)

-- the effects of a run that ended are right
abbrev pub GaveRight : Draft → Transition → Ran → Type 0
GaveRight d t (ended e s) = AreRightEffects d t s.effects
GaveRight d t (got_stuck z) = Unit {0}
GaveRight d t unfinished = Unit {0}

module _ (d : Draft) (t : Transition) (valid : IsValidTransition d t) (x : Input) (fits : FitsTransition d t x) where
  pub adds : (k : ℕ) (os : List Value) (s : Progress) (h : IsAt t k os s.variables) (i : Instruction) → slice_get t.piece.code k ≡ Some i
      → AreRightEffects d t s.effects → Adds (AreRightEffects d t) i x os s.effects
  adds k os s h i ie right =
      by i ((valid.number k).outputs i ie) ((valid.number k).timers i ie)
      (subst (λ u. length (takes d.signals t.process.variables i) ≤ length u) (sym h.shape) (valid.under k i h.facts ie h.is))
      (subst (λ u. Agree (takes d.signals t.process.variables i) u) (sym h.shape) ((valid.sort k).each i h.facts ie h.is))
    where
      by : (i : Instruction) → KeepsOutput d t i → All (λ n. n < length t.process.timers) (timers_in i)
          → length (takes d.signals t.process.variables i) ≤ length (map sort_of os) → Agree (takes d.signals t.process.variables i) (map sort_of os)
          → Adds (AreRightEffects d t) i x os s.effects
      by (Output n r c) keeps timers under agree =
          λ p e.
          let to = receiver_reached d t x n r p fits.brought keeps.receiver e in
          right_more d t s.effects (sending n p (reverse (take c os))) right (record {
            signal = keeps.signal;
            parameters = sorts_sent (parameters_of (slice_get d.signals n.0)) os c keeps.parameters agree under;
            receiver = to.0;
            reaches = to.1;
          })
      by (Set n) keeps timers under agree = λ z. right_more d t s.effects (effect.Set n z) right (only (λ n. n < length t.process.timers) n.0 timers)
      by (Reset n) keeps timers under agree = right_more d t s.effects (effect.Reset n) right (only (λ n. n < length t.process.timers) n.0 timers)
      by _ keeps timers under agree = tt

  after_right : (big : ℕ) (k : ℕ) (os : List Value) (s : Progress) (m : ℕ) (h : Stands t k os s (suc m)) (i : Instruction) → slice_get t.piece.code k ≡ Some i
      → ((j : ℕ) (os' : List Value) (s' : Progress) → Stands t j os' s' m → AreRightEffects d t s'.effects → GaveRight d t (exec t.piece.code x big j os' s'))
      → (a : After) → IsFine d.signals t.process.variables t.parameters h.at.facts.set i k os (tick s) a → EffectsAre (AreRightEffects d t) a
      → GaveRight d t (go_on (exec t.piece.code x big) a)
  after_right big k os s m h i ie rest (goes j os' s') w right = rest j os' s' (goes_on d t valid x fits k os s m h i ie j os' s' w) right
  after_right big k os s m h i ie rest (ends e s') w right = right
  after_right big k os s m h i ie rest (stuck z) w right = tt

  gave_right : (big n k : ℕ) (os : List Value) (s : Progress) → Stands t k os s n → AreRightEffects d t s.effects → GaveRight d t (exec t.piece.code x big k os s)
  gave_right zero n k os s h right = tt
  gave_right (suc big) zero k os s h right =
      let i = code_at d t valid k h.at.facts h.at.is in
      let own : h.at.facts.count ≡ 1 + greatest (counts_at t.piece (successors i.0 k)) = (valid.budget k).counts i.0 h.at.facts i.1 h.at.is in
      let most : h.at.facts.count ≤ 0 = h.count in
      absurd (omega arith)
  gave_right (suc big) (suc m) k os s h right =
      let i = code_at d t valid k h.at.facts h.at.is in
      let fine = act_fine d.signals t.process.variables t.parameters h.at.facts.set x k i.0 os (tick s) (before d t valid x fits k os s (suc m) h i.0 i.1) in
      let kept = act_keeps (AreRightEffects d t) i.0 x (k + 1) os (tick s) right (adds k os s h.at i.0 i.1 right) in
      let over = after_right big k os s m h i.0 i.1 (λ j os' s' g r. gave_right big m j os' s' g r) (act i.0 x (k + 1) os (tick s)) fine kept in
      subst (λ o. GaveRight d t (go_on (exec t.piece.code x big) (act_if o x (k + 1) os (tick s)))) (sym i.1) over

  pub right_effects : (e : End) (s : Progress) → run t.piece.code x ≡ ended e s → AreRightEffects d t s.effects
  unfolding run
  right_effects e s is =
      subst (GaveRight d t) is (gave_right 512 t.piece.certificate.budget 0 [] (begun x) (stands_at_start d t valid x fits) tt)
