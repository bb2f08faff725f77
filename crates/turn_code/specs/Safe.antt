-- Runs that never get stuck.
use Rattle.std.specs.Prelude.{◌≡◌, ℕ, zero, suc, ◌≤◌, List, [], length, Option, Some, slice_get}
use Rattle.plain_laws.specs.Limits.{MOST_INSTRUCTIONS, MOST_PARAMETERS}
use Rattle.turn_code.specs.Run.{Progress, After, goes, ends, stuck, step, begun, run, ended}
use Rattle.turn_code.specs.Transitions.{Transition}
use Rattle.turn_code.specs.Code.{sends}
use Rattle.turn_code.specs.Rules.{KeepsPieceLimits, KeepsSetLimits}
use Rattle.turn_code.specs.Valid.{IsValidTransition}
use Rattle.turn_code.specs.Fits.{HaveSorts, AreSet, FitsTransition}
use Rattle.turn_code.specs.declared.value.Value.{Value}
use Rattle.turn_code.specs.declared.instruction.Instruction.{Instruction}
use Rattle.turn_code.specs.declared.input.Input.{Input}
use Rattle.turn_code.specs.declared.machine.End.{End}
use Rattle.turn_code.specs.declared.machine.End.TheVariants.{State, Stop}
use Rattle.turn_code.specs.declared.draft.Draft.{Draft}
use Rattle.turn_code.specs.declared.draft.DraftState.{DraftState}

-- the state is declared, and the variables that it calls set are set
pub record IsReady (t : Transition) (q : ℕ) (vs : List (Option Value)) : Type 0 where
  pub state : DraftState
  pub there : slice_get t.process.states q ≡ Some state
  pub set : AreSet state.set vs

-- a stop requires nothing
abbrev pub EndIsReady : Transition → End → List (Option Value) → Type 0
EndIsReady t (State q) vs = IsReady t q.0 vs
EndIsReady t Stop vs = Unit {0}

-- what holds as a transition ends: each variable that is set has its sort, the state where it ends
-- is ready, and there are at most as many effects as its certificate states
pub record EndsWell (t : Transition) (e : End) (s : Progress) : Type 0 where
  pub variables : HaveSorts t.process.variables s.variables
  pub ready : EndIsReady t e s.variables
  pub effects : length s.effects ≤ t.piece.certificate.effects

abbrev pub IsSafeAfter : Transition → (ℕ → List Value → Progress → Type 0) → After → Type 0
IsSafeAfter t next (goes k os s) = next k os s
IsSafeAfter t next (ends e s) = EndsWell t e s
IsSafeAfter t next (stuck x) = ⊥

-- from place k the run ends well within n instructions, is never stuck, and never has more operands
-- or effects than the certificate says
abbrev pub IsSafe : Transition → Input → ℕ → ℕ → List Value → Progress → Type 0
IsSafe t x zero k os s = ⊥
IsSafe t x (suc n) k os s =
    (length os ≤ t.piece.certificate.depth) × (length s.effects ≤ t.piece.certificate.effects)
    × IsSafeAfter t (IsSafe t x n) (step t.piece.code x k os s)

-- no output of the code has more parameters than a signal may have
abbrev pub SendsFew : List Instruction → Type 0
SendsFew code = (k : ℕ) (i : Instruction) → slice_get code k ≡ Some i → sends i ≤ MOST_PARAMETERS

-- on each input that fits it, a valid transition is safe within its budget, and the budget is
-- within the limit
pub record SafeLaw : Type 0 where
  pub limits : (d : Draft) (t : Transition) → IsValidTransition d t → KeepsPieceLimits t.piece
  pub budget :
      (d : Draft) (t : Transition) → IsValidTransition d t
      → t.piece.certificate.budget ≤ MOST_INSTRUCTIONS
  pub sends :
      (d : Draft) (t : Transition) → KeepsSetLimits d → IsValidTransition d t
      → SendsFew t.piece.code
  pub safe : (d : Draft) (t : Transition) (x : Input) → IsValidTransition d t → FitsTransition d t x
      → IsSafe t x t.piece.certificate.budget 0 [] (begun x)

-- the run of t on x ends well, within its budget
pub record RunsWell (t : Transition) (x : Input) : Type 0 where
  pub end : End
  pub progress : Progress
  pub ran : run t.piece.code x ≡ ended end progress
  pub within : progress.count ≤ t.piece.certificate.budget
  pub well : EndsWell t end progress

-- on each input that fits it, the run of a valid transition ends well, within its budget
abbrev pub RunLaw : Type 0
RunLaw = (d : Draft) (t : Transition) (x : Input) → IsValidTransition d t → FitsTransition d t x
    → RunsWell t x
