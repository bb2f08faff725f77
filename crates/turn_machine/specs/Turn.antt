-- A turn, which is how contracts see a job, run or not.
use Rattle.std.specs.Prelude.{◌≡◌, ℕ, ◌≤◌, List, length, Option, Some}
use Rattle.plain_laws.specs.Limits.{MOST_VARIABLES}
use Rattle.turn_code.specs.Sorts.{AreSortsOf}
use Rattle.turn_code.specs.declared.sorts.Sorts.{Sorts}
use Rattle.turn_code.specs.Run.{run, ended}
use Rattle.turn_code.specs.Transitions.{Transition, transition_at, variables_of}
use Rattle.turn_code.specs.Rules.{KeepsSetLimits}
use Rattle.turn_code.specs.Valid.{IsValidTransition}
use Rattle.turn_code.specs.Fits.{FitsTransition}
use Rattle.turn_code.specs.Outcome.{Outcome, outcome_in}
use Rattle.turn_code.specs.declared.value.Value.{Value}
use Rattle.turn_code.specs.declared.effect.Effect.{Effect}
use Rattle.turn_code.specs.declared.input.Address.{Address}
use Rattle.turn_code.specs.declared.input.Input.{Input}
use Rattle.turn_code.specs.declared.input.Place.{Place}
use Rattle.turn_code.specs.declared.numbers.ProcessNumber.{ProcessNumber}
use Rattle.turn_code.specs.declared.instruction.Instruction.{Instruction}
use Rattle.turn_code.specs.declared.machine.End.{End}
use Rattle.turn_code.specs.declared.draft.Cert.{Cert}
use Rattle.turn_code.specs.declared.draft.Draft.{Draft}

-- the actor, the number of the turn in the set, the transition with its code and counts, and the
-- input
pub record Turn : Type 0 where
  pub actor : ℕ
  pub turn : ℕ
  pub process : ProcessNumber
  pub place : Place
  pub input_number : ℕ
  pub code : List Instruction
  pub certificate : Cert
  pub input : Input

abbrev pub turn_of : ℕ → ℕ → ProcessNumber → Place → ℕ → List Instruction → Cert → Input → Turn
turn_of actor turn process place input_number code certificate input = record {
  actor = actor;
  turn = turn;
  process = process;
  place = place;
  input_number = input_number;
  code = code;
  certificate = certificate;
  input = input;
}

-- the code is that of a valid transition of the process, and the input fits it
pub record IsRunnable (j : Turn) : Type 0 where
  pub draft : Draft
  pub transition : Transition
  pub limits : KeepsSetLimits draft
  pub valid : IsValidTransition draft transition
  pub number : transition.number ≡ j.process.0
  pub code : transition.piece.code ≡ j.code
  pub certificate : transition.piece.certificate ≡ j.certificate
  pub fits : FitsTransition draft transition j.input

-- the turn can run with these sorts of its signals and variables, of which there are at most 32
pub record IsRunnableBy (j : Turn) (s : Sorts) : Type 0 where
  pub runnable : IsRunnable j
  pub few : length (variables_of runnable.transition) ≤ MOST_VARIABLES
  pub sorts : AreSortsOf runnable.draft.signals (variables_of runnable.transition) s

-- who sent the signal of a turn's input
abbrev pub sender_of : Turn → Option Address
sender_of j = j.input.sender

-- the outcome of the run of a turn's own code on its own input
abbrev pub outcome_of : Turn → Option Outcome
outcome_of j = outcome_in (run j.code j.input)

-- the job is the named transition of the draft, on the input
pub record Begins (d : Draft) (actor turn : ℕ) (process : ProcessNumber) (place : Place)
    (input_number : ℕ) (input : Input) (j : Turn) : Type 0 where
  pub transition : Transition
  pub there : transition_at d process.0 place input_number ≡ Some transition
  pub is : j
      ≡ turn_of actor turn process place input_number transition.piece.code
      transition.piece.certificate input

-- the end, variables, effects and count are those of the run of the turn's own code on its own
-- input, within its certificate
pub record IsOutcome (j : Turn) (e : End) (vs : List (Option Value)) (es : List Effect)
    (count : ℕ) : Type 0 where
  pub ran : run j.code j.input ≡ ended e (record { variables = vs; effects = es; count = count })
  pub within : count ≤ j.certificate.budget
  pub few : length es ≤ j.certificate.effects
