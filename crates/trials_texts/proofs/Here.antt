-- Words that represent values at a place of a set's transition.
use Rattle.std.proofs.Common.{◌≡◌, ℕ, zero, suc, ◌≤◌, length, arith, List, Option, Some, None, option_map, slice_get, refl, sym, ap, ◌∙◌, subst}
use Rattle.turn_code.specs.Run.{begun}
use Rattle.turn_code.specs.Transitions.{Transition, transition_at, process_at, start_of, start_at, input_at, input_of}
use Rattle.turn_code.specs.Valid.{IsValid}
use Rattle.turn_code.specs.Values.{sort_of}
use Rattle.turn_code.specs.Fits.{Fits, FitsTransition, IsBrought}
use Rattle.turn_code.specs.declared.value.Value.{Value}
use Rattle.turn_code.specs.declared.input.Input.{Input}
use Rattle.turn_code.specs.declared.input.Place.{Place}
use Rattle.turn_code.specs.declared.input.Place.TheVariants.{Start, State}
use Rattle.turn_code.specs.declared.draft.Draft.{Draft}
use Rattle.turn_code.specs.declared.draft.DraftSignal.{DraftSignal}
use Rattle.turn_code.specs.declared.draft.DraftProcess.{DraftProcess}
use Rattle.turn_code.specs.declared.draft.DraftState.{DraftState}
use Rattle.turn_code.specs.declared.draft.DraftInput.{DraftInput}
use Rattle.turn_code.specs.Pieces.{PlainPiece, IsOfTransition, CanStep}
use Rattle.turn_code.specs.declared.words.Words.{Words}
use Rattle.turn_code.specs.Bare.{bare_of}
use Rattle.turn_code.specs.Meant.{AreWordsOf}
use Rattle.turn_code.specs.Sorts.{AreSortsOf}
use Rattle.turn_code.specs.Steps.{Stand}
use Rattle.turn_code.proofs.Lists.{map_length}
use Rattle.turn_code.proofs.Stepping.{ready}
use Rattle.turn_check.proofs.Whole.{start_small}
use Rattle.trials_texts.specs.Holding.{HoldAt}

-- ---- the process that a transition belongs to
of_input : (ss : List DraftSignal) (n : ℕ) (p : DraftProcess) (q : DraftState) (o : Option DraftInput) (t : Transition)
    → option_map (input_of ss n p q) o ≡ Some t → p ≡ t.process
of_input ss n p q None t e = cc
of_input ss n p q (Some x) t e = let same : input_of ss n p q x ≡ t = cc in ap (λ (t : Transition). t.process) same

of_state : (ss : List DraftSignal) (n : ℕ) (p : DraftProcess) (i : ℕ) (o : Option DraftState) (t : Transition) → input_at ss n p i o ≡ Some t → p ≡ t.process
of_state ss n p i None t e = cc
of_state ss n p i (Some q) t e = of_input ss n p q (slice_get q.inputs i) t e

of_start : (n : ℕ) (p : DraftProcess) (i : ℕ) (t : Transition) → start_at n p i ≡ Some t → p ≡ t.process
of_start n p zero t e = let same : start_of n p ≡ t = cc in ap (λ (t : Transition). t.process) same
of_start n p (suc i) t e = cc

of_process : (ss : List DraftSignal) (n : ℕ) (s : Place) (i : ℕ) (o : Option DraftProcess) (t : Transition) → process_at ss n s i o ≡ Some t → o ≡ Some t.process
of_process ss n s i None t e = cc
of_process ss n Start i (Some p) t e = ap Some (of_start n p i t e)
of_process ss n (State q) i (Some p) t e = ap Some (of_state ss n p i (slice_get p.states q.0) t e)

same_there : (o : Option Transition) (t u : Transition) → Some t ≡ o → o ≡ Some u → u ≡ t
same_there o t u e h = let both : Some t ≡ Some u = e ∙ h in cc

module _ (d : Draft) (p : ℕ) (s : Place) (i : ℕ) (x : Input) (t : Transition) (q : PlainPiece) (valid : IsValid d) (e : Some t ≡ transition_at d p s i)
    (fits : Fits d p s i x) (same : q.code ≡ t.piece.code) (from : q.sender ≡ x.sender)
    (own : (y : DraftProcess) → slice_get d.processes p ≡ Some y → AreSortsOf d.signals y.variables q.sorts) where
  right : FitsTransition d t x
  right =
      let is : fits.transition ≡ t = same_there (transition_at d p s i) t fits.transition e fits.there in
      subst (λ u. FitsTransition d u x) is fits.fits

  there : slice_get d.processes p ≡ Some t.process
  there = of_process d.signals p s i (slice_get d.processes p) t (sym e)

  -- the code is that of a valid transition
  pub of_here : length x.parameters.items ≤ 4 → IsOfTransition q
  of_here few =
      let long : length x.parameters.items ≡ length t.parameters = sym (map_length sort_of x.parameters.items) ∙ ap length right.parameters in
      record {
        draft = d;
        transition = t;
        limits = valid.limits;
        variables = start_small d p t.process valid there;
        parameters = omega arith;
        valid = valid.each p s i t (sym e);
        code = sym same;
        sorts = own t.process there;
        brought = subst (λ u. IsBrought d t.number t.trigger u) (sym from) right.brought;
      }

  -- the words of operands that are allowed at a place are enough for its instruction
  pub ready_here : (k : ℕ) (w : Words) (os : List Value) → HoldAt t.piece k os x.variables.items
      → AreWordsOf (bare_of w) os x.variables.items x.parameters.items → CanStep q k w
  ready_here k w os hold words =
      let stand : Stand d t q k w x os (begun x) = record {
        limits = valid.limits;
        variables = start_small d p t.process valid there;
        valid = valid.each p s i t (sym e);
        code = sym same;
        sorts = own t.process there;
        sender = sym from;
        brought = right.brought;
        parameters = right.parameters;
        at = record { facts = hold.0; is = hold.1; shape = hold.2; variables = right.variables; set = hold.3 };
        words = words;
      } in
      ready d t q k w x os (begun x) stand
