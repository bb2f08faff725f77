-- From transitions to inputs, states, processes and the draft.
use Rattle.std.proofs.Common.{◌≡◌, ℕ, ◌<◌, ◌≤◌, length, Some, None, refl, sym, ap, ◌∙◌, arith, ⊎_elim}
use Rattle.std.specs.Prelude.{slice_get}
use Rattle.std.proofs.lemmas.Bool.{cases_lt}
use Rattle.std.proofs.lemmas.Option.{slice_get_past}
use Rattle.turn_code.specs.Transitions.{Transition, transition_at, start_of, process_at}
use Rattle.turn_code.specs.Rules.{KeepsSetLimits, KeepsProcessLimits}
use Rattle.turn_code.specs.Valid.{Keeps, KeepsAt, IsValidTransition, IsValid}
use Rattle.turn_code.specs.Paths.{PathLaw}
use Rattle.turn_code.specs.Safe.{SafeLaw}
use Rattle.turn_code.specs.declared.input.Place.{Place}
use Rattle.turn_code.specs.declared.input.Place.TheVariants.{Start, State as InState}
use Rattle.turn_code.specs.declared.numbers.StateNumber.{StateNumber}
use Rattle.turn_code.specs.declared.draft.Draft.{Draft}
use Rattle.turn_code.specs.declared.draft.DraftProcess.{DraftProcess}
use Rattle.turn_code.specs.declared.draft.DraftState.{DraftState}
use Rattle.turn_code.specs.declared.rule.Rule.{Rule}
use Rattle.turn_code.specs.declared.rule.Rule.TheVariants.{Jump, Shape, Under, Sort, Unset, State, Number, Limit, Budget}
use Rattle.turn_check.specs.Walk.{IsValidAt, IsValidState, IsValidProcess}
use Rattle.turn_check.specs.Certified.{IsCertified}

-- ---- from transitions to inputs, states, processes and the draft
pub start_at_0 : (d : Draft) (p : ℕ) (process : DraftProcess) → slice_get d.processes p ≡ Some process
    → transition_at d p Start 0 ≡ Some (start_of p process)
start_at_0 d p process e = ap (process_at d.signals p Start 0) e

-- there is no transition
pub valid_none : (d : Draft) (p : ℕ) (s : Place) (i : ℕ) → transition_at d p s i ≡ None → IsValidAt d p s i
valid_none d p s i none = record { each = λ t e. let no : None ≡ Some t = sym none ∙ e in cc }

pub no_input : (d : Draft) (p : ℕ) (process : DraftProcess) (q : StateNumber) (state : DraftState) (i : ℕ)
    → slice_get d.processes p ≡ Some process → slice_get process.states q.0 ≡ Some state → slice_get state.inputs i ≡ None → IsValidAt d p (InState q) i
no_input d p process q state i pe qe h =
    valid_none d p (InState q) i (ap (process_at d.signals p (InState q) i) pe ∙ rw (qe, h) refl)

pub no_state : (d : Draft) (p : ℕ) (process : DraftProcess) (q : StateNumber) → slice_get d.processes p ≡ Some process → slice_get process.states q.0 ≡ None
    → IsValidState d p (InState q)
no_state d p process q pe h = record { each = λ i. valid_none d p (InState q) i (ap (process_at d.signals p (InState q) i) pe ∙ rw h refl) }

pub no_process : (d : Draft) (p : ℕ) → slice_get d.processes p ≡ None → IsValidProcess d p
no_process d p h = record { each = λ s. record { each = λ i. valid_none d p s i (ap (process_at d.signals p s i) h) } }

-- ---- from all numbers below an end to all numbers
either : {P : ℕ → Type 0} (n : ℕ) (k : ℕ) → ((j : ℕ) → j < n → P j) → ((j : ℕ) → n ≤ j → P j) → P k
either n k below above = ⊎_elim (below k) (above k) (cases_lt k n)

pub state_below : (d : Draft) (p : ℕ) (process : DraftProcess) (q : StateNumber) (state : DraftState)
    → slice_get d.processes p ≡ Some process → slice_get process.states q.0 ≡ Some state → (n : ℕ) → length state.inputs ≤ n
    → ((i : ℕ) → i < n → IsValidAt d p (InState q) i) → IsValidState d p (InState q)
state_below d p process q state pe qe n long below = record {
  each = λ i.
      either {P = λ i. IsValidAt d p (InState q) i} n i below
      (λ j h. no_input d p process q state j pe qe (slice_get_past state.inputs j (omega arith)));
}

process_by : (d : Draft) (p : ℕ) (process : DraftProcess) → slice_get d.processes p ≡ Some process → IsValidState d p Start
    → (n : ℕ) → length process.states ≤ n → ((q : ℕ) → q < n → IsValidState d p (InState (record { 0 = q }))) → (s : Place) → IsValidState d p s
process_by d p process e start n long below Start = start
process_by d p process e start n long below (InState q) =
    either {P = λ q. IsValidState d p (InState (record { 0 = q }))} n q.0 below
    (λ j h. no_state d p process (record { 0 = j }) e (slice_get_past process.states j (omega arith)))

pub process_below : (d : Draft) (p : ℕ) (process : DraftProcess) → slice_get d.processes p ≡ Some process → IsValidState d p Start
    → (n : ℕ) → length process.states ≤ n → ((q : ℕ) → q < n → IsValidState d p (InState (record { 0 = q }))) → IsValidProcess d p
process_below d p process e start n long below = record { each = process_by d p process e start n long below }

pub draft_below : (d : Draft) → KeepsSetLimits d → (n : ℕ) → length d.processes ≤ n → ((p : ℕ) → p < n → IsValidProcess d p) → IsValid d
draft_below d limits n long below = record {
  limits = limits;
  each = λ p s i t e.
      (((either {P = λ p. IsValidProcess d p} n p below (λ j h. no_process d j (slice_get_past d.processes j (omega arith)))).each s).each i).each t e;
}

-- ---- from a broken rule to the place where it is broken

pub valid_keeps : (d : Draft) (rule : Rule) (p : ℕ) (s : Place) (i k : ℕ) → IsValid d → KeepsAt d rule p s i k
valid_keeps d rule p s i k valid = record {
  whole = λ r a b c e. valid.limits;
  each = λ t e. keeps rule t k (valid.each p s i t e);
}
  where
    keeps : (rule : Rule) (t : Transition) (k : ℕ) → IsValidTransition d t → Keeps rule d t k
    keeps Jump t k v = v.jump k
    keeps Shape t k v = v.shape k
    keeps Under t k v = v.under k
    keeps Sort t k v = v.sort k
    keeps Unset t k v = v.unset k
    keeps State t k v = v.state k
    keeps Number t k v = v.number k
    keeps Limit t k v = v.limit k
    keeps Budget t k v = v.budget k

-- the limits of a process, from the rule on limits at its START
pub limits_at : (d : Draft) (p : ℕ) (process : DraftProcess) → slice_get d.processes p ≡ Some process → KeepsAt d Limit p Start 0 0 → KeepsProcessLimits process
limits_at d p process e at = (at.each (start_of p process) (start_at_0 d p process e)).process refl refl

pub process_small : (d : Draft) (p : ℕ) (process : DraftProcess) → IsValid d → slice_get d.processes p ≡ Some process → KeepsProcessLimits process
process_small d p process valid e = ((valid.each p Start 0 (start_of p process) (start_at_0 d p process e)).limit 0).process refl refl

pub start_small : (d : Draft) (p : ℕ) (process : DraftProcess) → IsValid d → slice_get d.processes p ≡ Some process → length process.variables ≤ 32
start_small d p process valid e = (process_small d p process valid e).variables

pub certified : (d : Draft) (p : ℕ) (s : Place) (i : ℕ) (t : Transition) → PathLaw → SafeLaw → IsValid d → Some t ≡ transition_at d p s i → IsCertified d p s i t.piece.certificate
certified d p s i t law safe valid e =
    let v = valid.each p s i t (sym e) in
    record {
      transition = t;
      there = sym e;
      budget = law.budget d t v;
      depth = ((v.budget 0).certificate refl).depth;
      effects = law.effects d t v;
      budget_fits = safe.budget d t v;
      depth_fits = ((v.limit 0).piece refl).depth;
      effects_fits = ((v.limit 0).piece refl).effects;
    }
