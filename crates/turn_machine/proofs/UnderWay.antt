-- A run on words, continued by one instruction.
use Rattle.std.proofs.Common.{◌≡◌, ℕ, zero, suc, ◌+◌, ◌<◌, ◌≤◌, List, [], ◌∷◌, ◌++◌, length, Option, Some, None, refl, sym, ap, ◌∙◌, subst, arith}
use Rattle.std.proofs.lemmas.List.{length-append}
use Rattle.std.proofs.lemmas.Option.{get_or_from_slice_get}
use Rattle.std.specs.Prelude.{slice_get, map}
use Rattle.turn_code.specs.Values.{sort_of}
use Rattle.turn_code.specs.Run.{Progress, After as Tagged, goes, ends, stuck, step, act, act_if, tick, CountIs, go_on, exec, run, begun}
use Rattle.turn_code.specs.Transitions.{Transition, parameters_of}
use Rattle.turn_code.specs.Fits.{HasSort}
use Rattle.turn_code.specs.Effects.{IsRightEffect, AreRightEffects}
use Rattle.turn_code.specs.Safe.{IsSafeAfter, IsSafe}
use Rattle.turn_code.specs.declared.value.Value.{Value}
use Rattle.turn_code.specs.declared.effect.Effect.{Effect}
use Rattle.turn_code.specs.declared.effect.Effect.TheVariants as effect
use Rattle.turn_code.specs.declared.input.Input.{Input}
use Rattle.turn_code.specs.declared.input.Address.{Address}
use Rattle.turn_code.specs.declared.instruction.Instruction.{Instruction}
use Rattle.turn_code.specs.declared.machine.End.{End}
use Rattle.turn_code.specs.declared.draft.Cert.{Cert}
use Rattle.turn_code.specs.declared.draft.Draft.{Draft}
use Rattle.turn_code.specs.declared.draft.DraftSignal.{DraftSignal}
use Rattle.turn_code.proofs.Lists.{zip_length, map_length}
use Rattle.turn_code.proofs.Stepping.{ready}
use Rattle.turn_code.proofs.SafeRuns.{code_at, stands_at_start}
use Rattle.turn_code.proofs.RightEffects.{EffectsAre, act_keeps, adds}
use Rattle.turn_code.proofs.Ran.{step_count}
use Rattle.turn_code.specs.Pieces.{PlainPiece, IsOfTransition, CanStep}
use Rattle.turn_code.specs.declared.sorts.Sorts.{Sorts}
use Rattle.turn_code.specs.declared.words.Words.{Words}
use Rattle.turn_code.specs.declared.after.BareAfter.{BareAfter}
use Rattle.turn_code.specs.declared.after.BareEffect.{BareEffect}
use Rattle.turn_code.specs.declared.after.BareEffect.TheVariants as gives
use Rattle.turn_code.specs.declared.after.Next.TheVariants.{Goes, Ends}
use Rattle.turn_code.specs.Bare.{bare_of}
use Rattle.turn_code.specs.Meant.{AreWordsOf, IsEffectOf, Grow}
use Rattle.turn_code.specs.Sorts.{AreSortsOf, IsOfSorts, HasReceiver, sort_bits}
use Rattle.turn_code.specs.Steps.{Follows, IsStep}
use Rattle.turn_machine.specs.Growing.{IsGrown, CanGrow}
use Rattle.turn_machine.specs.Safety.{IsSafeWithin, IsUnderWay, HasEnded}
use Rattle.turn_machine.proofs.Worded.{variables_told}

-- ---- effects with one more
last_right : (d : Draft) (t : Transition) (es : List Effect) (e : Effect) → AreRightEffects d t (es ++ e ∷ []) → IsRightEffect d t e
last_right d t [] e h = h.0
last_right d t (x ∷ es) e h = last_right d t es e h.1

there_is : (xs : List DraftSignal) (i : ℕ) → i < length xs → (x : DraftSignal) × (slice_get xs i ≡ Some x)
there_is [] i within = absurd (omega (arith, within))
there_is (x ∷ xs) zero within = (x, refl)
there_is (x ∷ xs) (suc i) within = there_is xs i (omega (arith, within))

of_sorts : (d : Draft) (t : Transition) (s : Sorts) (e : Effect) → AreSortsOf d.signals t.process.variables s → IsRightEffect d t e → IsOfSorts s e
of_sorts d t s (effect.Output m) sorts right =
    let signal = there_is d.signals m.signal.0 right.signal in
    let own : map sort_of m.parameters.items ≡ signal.0.parameters = right.parameters ∙ ap parameters_of signal.1 in
    get_or_from_slice_get s.parameters m.signal.0 (sort_bits signal.0.parameters) 0 (sorts.signals m.signal.0 signal.0 signal.1) ∙ ap sort_bits (sym own)
of_sorts d t s (effect.Set n z) sorts right = tt
of_sorts d t s (effect.Reset n) sorts right = tt

grown : (d : Draft) (t : Transition) (p : PlainPiece) (o : Option BareEffect) (old new : List Effect) → AreSortsOf d.signals t.process.variables p.sorts
    → AreRightEffects d t new → length new ≤ 32 → Grow p.sender o old new → IsGrown p o old new
grown d t p None old new sorts right few g = g
grown d t p (Some given) old new sorts right few g =
    let right' : AreRightEffects d t (old ++ g.0 ∷ []) = subst (λ (u : List Effect). AreRightEffects d t u) g.2 right in
    let long : length new ≡ length old + 1 = ap length g.2 ∙ length-append old (g.0 ∷ []) in
    let room : length old < 32 = omega arith in
    (g.0, g.1, of_sorts d t p.sorts g.0 sorts (last_right d t old g.0 right'), room, g.2)

-- an effect in words has a receiver, if it represents an effect
received : (from : Option Address) (given : BareEffect) (e : Effect) → IsEffectOf from given e → HasReceiver given from
received from (gives.Output n r c ws) (effect.Output s) h = (s.receiver, h.3, h.1)
received from (gives.Output n r c ws) (effect.Set t z) h = absurd h
received from (gives.Output n r c ws) (effect.Reset t) h = absurd h
received from (gives.Set n z) e h = tt
received from (gives.Reset n) e h = tt

pub can_give : (p : PlainPiece) (o : Option BareEffect) (given : BareEffect) (old : List Effect) → o ≡ Some given → CanGrow p o old → HasReceiver given p.sender
can_give p o given old is can =
    let own : CanGrow p (Some given) old = subst (λ (u : Option BareEffect). CanGrow p u old) is can in
    received p.sender given own.1.0 own.1.1

pub has_room : (p : PlainPiece) (o : Option BareEffect) (given : BareEffect) (old : List Effect) → o ≡ Some given → CanGrow p o old → length old < 32
has_room p o given old is can =
    let own : CanGrow p (Some given) old = subst (λ (u : Option BareEffect). CanGrow p u old) is can in
    own.1.3

pub gave_one : (p : PlainPiece) (o : Option BareEffect) (given : BareEffect) (old new es : List Effect) (r : Effect) → o ≡ Some given
    → ((e : Effect) → IsEffectOf p.sender given e → IsOfSorts p.sorts e → r ≡ e) → new ≡ old ++ r ∷ [] → IsGrown p o old es → new ≡ es
gave_one p o given old new es r is one more h =
    let own : IsGrown p (Some given) old es = subst (λ (u : Option BareEffect). IsGrown p u old es) is h in
    more ∙ ap (λ (u : Effect). old ++ u ∷ []) (one own.0 own.1 own.2) ∙ sym own.4

-- ---- the code that is run
pub of_transition : (code : List Instruction) (x : Input) (s : Sorts) (c : Cert) → IsSafeWithin code x s c → length x.parameters.items ≤ 4
    → IsOfTransition (record { code = code; sender = x.sender; sorts = s })
of_transition code x s c h few =
    let long : length x.parameters.items ≡ length h.transition.parameters = sym (map_length sort_of x.parameters.items) ∙ ap length h.fits.parameters in
    record {
      draft = h.draft;
      transition = h.transition;
      limits = h.limits;
      variables = h.few;
      parameters = omega arith;
      valid = h.valid;
      code = h.code_is;
      sorts = h.sorts;
      brought = h.fits.brought;
    }

-- ---- the whole run, from its beginning
whole_is : (code : List Instruction) (x : Input) → exec code x 512 0 [] (begun x) ≡ run code x
unfolding run
whole_is code x = refl

pub begun_so : (p : PlainPiece) (x : Input) (c : Cert) (w : Words) (es : List Effect) → IsSafeWithin p.code x p.sorts c → p.sender ≡ x.sender
    → AreWordsOf (bare_of w) [] x.variables.items x.parameters.items → es ≡ [] → IsUnderWay p x c 0 0 w es
begun_so p x c w es h from words none =
    let budget : h.transition.piece.certificate.budget ≡ c.budget = ap (λ (c : Cert). c.budget) h.certificate_is in
    record {
      draft = h.draft;
      transition = h.transition;
      certificate_is = h.certificate_is;
      fits = h.fits;
      operands = [];
      progress = begun x;
      stand = record {
        limits = h.limits;
        variables = h.few;
        valid = h.valid;
        code = h.code_is;
        sorts = h.sorts;
        sender = sym from;
        brought = h.fits.brought;
        parameters = h.fits.parameters;
        at = (stands_at_start h.draft h.transition h.valid x h.fits).at;
        words = words;
      };
      left = h.transition.piece.certificate.budget;
      fuel = 512;
      budget_is = omega arith;
      fuel_is = omega arith;
      less = h.small;
      safe = h.safe;
      same = whole_is h.transition.piece.code x;
      right = tt;
      effects = none;
      count = refl;
    }

-- ---- after one instruction
-- what is known after it
pub record HasGone (p : PlainPiece) (x : Input) (c : Cert) (taken : ℕ) (w : Words) (a : BareAfter) (es : List Effect) : Type 0 where
  pub new : List Effect
  pub grows : IsGrown p a.effect es new
  pub onward : (j : ℕ) → a.next ≡ Goes j → IsUnderWay p x c (taken + 1) j w new
  pub over : (e : End) → a.next ≡ Ends e → HasEnded p x c e w new (taken + 1)

safe_few : (t : Transition) (x : Input) (left k : ℕ) (os : List Value) (s : Progress) → IsSafe t x left k os s → length s.effects ≤ t.piece.certificate.effects
safe_few t x zero k os s h = absurd h
safe_few t x (suc left) k os s h = h.1

grown_here : (d : Draft) (t : Transition) (p : PlainPiece) (x : Input) (o : Option BareEffect) (old new es : List Effect) → AreSortsOf d.signals t.process.variables p.sorts
    → x.sender ≡ p.sender → AreRightEffects d t new → length new ≤ 32 → es ≡ old → Grow x.sender o old new → IsGrown p o es new
grown_here d t p x o old new es sorts from right few same g =
    subst (λ (u : List Effect). IsGrown p o u new) (sym same) (
    grown d t p o old new sorts right few (subst (λ (u : Option Address). Grow u o old new) from g))

module _ (p : PlainPiece) (x : Input) (c : Cert) (taken k : ℕ) (w : Words) (es : List Effect) (h : IsUnderWay p x c taken k w es) where
  most_effects : h.transition.piece.certificate.effects ≤ 32
  most_effects = ((h.stand.valid.limit 0).piece refl).effects

  gone_by : (w' : Words) (a : BareAfter) (left fuel : ℕ) (g : Tagged) → taken + suc left ≡ c.budget → taken + suc fuel ≡ 512 → left ≤ fuel
      → Follows h.draft h.transition p x h.progress a w' g → IsSafeAfter h.transition (IsSafe h.transition x left) g
      → go_on (exec h.transition.piece.code x fuel) g ≡ run h.transition.piece.code x → EffectsAre (AreRightEffects h.draft h.transition) g
      → CountIs (h.progress.count + 1) g → HasGone p x c taken w' a es
  gone_by w' a left fuel (goes j os s) budget fuel_is less f safe same right count =
      let rich : length s.effects ≤ h.transition.piece.certificate.effects = safe_few h.transition x left j os s safe in
      let most = most_effects in
      let few : length s.effects ≤ 32 = omega arith in
      let was : taken ≡ h.progress.count = h.count in
      let now : s.count ≡ h.progress.count + 1 = count in
      let further : IsUnderWay p x c (taken + 1) j w' s.effects = record {
        draft = h.draft;
        transition = h.transition;
        certificate_is = h.certificate_is;
        fits = h.fits;
        operands = os;
        progress = s;
        stand = f.2;
        left = left;
        fuel = fuel;
        budget_is = omega arith;
        fuel_is = omega arith;
        less = less;
        safe = safe;
        same = same;
        right = right;
        effects = refl;
        count = omega arith;
      } in
      record {
        new = s.effects;
        grows = grown_here h.draft h.transition p x a.effect h.progress.effects s.effects es h.stand.sorts h.stand.sender right few h.effects f.1;
        onward = λ i e. let there : j ≡ i = cc in subst (λ (u : ℕ). IsUnderWay p x c (taken + 1) u w' s.effects) there further;
        over = λ q e. cc;
      }
  gone_by w' a left fuel (ends q s) budget fuel_is less f safe same right count =
      let rich : length s.effects ≤ h.transition.piece.certificate.effects = safe.effects in
      let most = most_effects in
      let few : length s.effects ≤ 32 = omega arith in
      let was : taken ≡ h.progress.count = h.count in
      let now : s.count ≡ h.progress.count + 1 = count in
      let effects_is : h.transition.piece.certificate.effects ≡ c.effects = ap (λ (c : Cert). c.effects) h.certificate_is in
      let long = zip_length HasSort h.transition.process.variables s.variables safe.variables in
      let first = zip_length HasSort h.transition.process.variables x.variables.items h.fits.variables in
      let done : HasEnded p x c q w' s.effects (taken + 1) = record {
        progress = s;
        ran = ap (λ u. run u x) (sym h.stand.code) ∙ sym same;
        effects = refl;
        count = omega arith;
        within = omega arith;
        few = omega arith;
        variables = variables_told (bare_of w') h.transition.process.variables s.variables p.sorts.variables f.2.1.variables safe.variables h.stand.sorts.variables;
        long = omega arith;
      } in
      record {
        new = s.effects;
        grows = grown_here h.draft h.transition p x a.effect h.progress.effects s.effects es h.stand.sorts h.stand.sender right few h.effects f.1;
        onward = λ i e. cc;
        over = λ e is. let same_end : q ≡ e = cc in subst (λ (u : End). HasEnded p x c u w' s.effects (taken + 1)) same_end done;
      }
  gone_by w' a left fuel (stuck z) budget fuel_is less f safe same right count = absurd f

  right_after : EffectsAre (AreRightEffects h.draft h.transition) (step h.transition.piece.code x k h.operands h.progress)
  right_after =
      let i = code_at h.draft h.transition h.stand.valid k h.stand.at.facts h.stand.at.is in
      let own : EffectsAre (AreRightEffects h.draft h.transition) (act i.0 x (k + 1) h.operands (tick h.progress)) =
      act_keeps (AreRightEffects h.draft h.transition) i.0 x (k + 1) h.operands (tick h.progress) h.right
      (adds h.draft h.transition h.stand.valid x h.fits k h.operands h.progress h.stand.at i.0 i.1 h.right) in
      subst (λ o. EffectsAre (AreRightEffects h.draft h.transition) (act_if o x (k + 1) h.operands (tick h.progress))) (sym i.1) own

  gone_at : (w' : Words) (a : BareAfter) (left fuel : ℕ) → taken + left ≡ c.budget → taken + fuel ≡ 512 → left ≤ fuel
      → IsStep p k w a w' → IsSafe h.transition x left k h.operands h.progress
      → exec h.transition.piece.code x fuel k h.operands h.progress ≡ run h.transition.piece.code x → HasGone p x c taken w' a es
  gone_at w' a zero fuel budget fuel_is less is safe same = absurd safe
  gone_at w' a (suc left) zero budget fuel_is less is safe same = absurd (omega arith)
  gone_at w' a (suc left) (suc fuel) budget fuel_is less is safe same =
      gone_by w' a left fuel (step h.transition.piece.code x k h.operands h.progress) budget fuel_is (omega arith)
      (is h.draft h.transition x h.operands h.progress h.stand) safe.2 same right_after (step_count h.transition.piece.code x k h.operands h.progress)

  pub gone : (w' : Words) (a : BareAfter) → IsStep p k w a w' → HasGone p x c taken w' a es
  gone w' a is = gone_at w' a h.left h.fuel h.budget_is h.fuel_is h.less is h.safe h.same

  -- the words have the operands for the instruction there
  pub is_ready : CanStep p k w
  is_ready = ready h.draft h.transition p k w x h.operands h.progress h.stand

  -- the effects can grow
  pub can_grow : (w' : Words) (a : BareAfter) → IsStep p k w a w' → CanGrow p a.effect es
  can_grow w' a is = let g = gone w' a is in (g.new, g.grows)

  pub goes_on : (w' : Words) (a : BareAfter) (es' : List Effect) (j : ℕ) → IsStep p k w a w' → ((u : List Effect) → IsGrown p a.effect es u → es' ≡ u)
      → a.next ≡ Goes j → IsUnderWay p x c (taken + 1) j w' es'
  goes_on w' a es' j is one next =
      let g = gone w' a is in
      subst (λ (u : List Effect). IsUnderWay p x c (taken + 1) j w' u) (sym (one g.new g.grows)) (g.onward j next)

  pub ends_so : (w' : Words) (a : BareAfter) (es' : List Effect) (e : End) → IsStep p k w a w' → ((u : List Effect) → IsGrown p a.effect es u → es' ≡ u)
      → a.next ≡ Ends e → HasEnded p x c e w' es' (taken + 1)
  ends_so w' a es' e is one next =
      let g = gone w' a is in
      subst (λ (u : List Effect). HasEnded p x c e w' u (taken + 1)) (sym (one g.new g.grows)) (g.over e next)

-- a run that took its whole budget is over
pub not_over : (p : PlainPiece) (x : Input) (c : Cert) (k : ℕ) (w : Words) (es : List Effect) → IsUnderWay p x c c.budget k w es → ⊥
not_over p x c k w es h = by h.left h.budget_is h.safe
  where
    by : (left : ℕ) → c.budget + left ≡ c.budget → IsSafe h.transition x left k h.operands h.progress → ⊥
    by zero e safe = safe
    by (suc left) e safe = absurd (omega arith)

-- ---- the machine at the end
pub progress_made : (s : Progress) (vs : List (Option Value)) (es : List Effect) (n : ℕ) → vs ≡ s.variables → es ≡ s.effects → n ≡ s.count
    → s ≡ record { variables = vs; effects = es; count = n }
progress_made s vs es n v e c =
    let with : List (Option Value) → List Effect → ℕ → Progress = λ a b m. record { variables = a; effects = b; count = m } in
    sym (ap (λ a. with a es n) v ∙ ap (λ b. with s.variables b n) e ∙ ap (λ m. with s.variables s.effects m) c)
