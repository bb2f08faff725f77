-- The transitions of a draft, by process, place and input.
use Rattle.std.specs.Prelude.{ℕ, zero, suc, List, [], Option, Some, None, slice_get, option_map}
use Rattle.turn_code.specs.Sets.{initial_set}
use Rattle.turn_code.specs.declared.value.Sort.{Sort}
use Rattle.turn_code.specs.declared.variable_set.VariableSet.{VariableSet}
use Rattle.turn_code.specs.declared.input.Place.{Place}
use Rattle.turn_code.specs.declared.input.Place.TheVariants.{Start, State}
use Rattle.turn_code.specs.declared.instruction.Instruction.{Instruction}
use Rattle.turn_code.specs.declared.draft.Draft.{Draft}
use Rattle.turn_code.specs.declared.draft.DraftSignal.{DraftSignal}
use Rattle.turn_code.specs.declared.draft.DraftProcess.{DraftProcess}
use Rattle.turn_code.specs.declared.draft.DraftVariable.{DraftVariable}
use Rattle.turn_code.specs.declared.draft.DraftState.{DraftState}
use Rattle.turn_code.specs.declared.draft.DraftInput.{DraftInput}
use Rattle.turn_code.specs.declared.draft.DraftPiece.{DraftPiece}
use Rattle.turn_code.specs.declared.draft.Trigger.{Trigger}
use Rattle.turn_code.specs.declared.draft.Trigger.TheVariants.{Signal, Timer}

-- a transition: the number of its process, the process, the signal or timer that it waits for (none
-- at START), the sorts of its parameters, the variables that are set as it begins, and its piece
pub record Transition : Type 0 where
  pub number : ℕ
  pub process : DraftProcess
  pub trigger : Option Trigger
  pub parameters : List Sort
  pub entry : VariableSet
  pub piece : DraftPiece

-- what its certificate says of the instructions on its longest path, and of the effects
abbrev pub budget_of : Transition → ℕ
budget_of t = t.piece.certificate.budget

abbrev pub effects_within : Transition → ℕ
effects_within t = t.piece.certificate.effects

-- the variables of its process
abbrev pub variables_of : Transition → List DraftVariable
variables_of t = t.process.variables

-- its code
abbrev pub code_of : Transition → List Instruction
code_of t = t.piece.code

-- the sorts of a signal's parameters, none if there is no such signal
abbrev pub parameters_of : Option DraftSignal → List Sort
parameters_of None = []
parameters_of (Some s) = s.parameters

-- a timer has no parameters
abbrev pub trigger_parameters : List DraftSignal → Trigger → List Sort
trigger_parameters signals (Signal n) = parameters_of (slice_get signals n.0)
trigger_parameters signals (Timer t) = []

abbrev pub start_of : ℕ → DraftProcess → Transition
start_of n p =
    record {
      number = n;
      process = p;
      trigger = None;
      parameters = [];
      entry = initial_set p.variables;
      piece = p.start;
    }

abbrev pub input_of : List DraftSignal → ℕ → DraftProcess → DraftState → DraftInput → Transition
input_of signals n p q x = record {
  number = n;
  process = p;
  trigger = Some x.trigger;
  parameters = trigger_parameters signals x.trigger;
  entry = q.set;
  piece = x.piece;
}

abbrev pub input_at :
    List DraftSignal → ℕ → DraftProcess → ℕ → Option DraftState → Option Transition
input_at signals n p i None = None
input_at signals n p i (Some q) = option_map (input_of signals n p q) (slice_get q.inputs i)

-- START has one input, with the number 0
abbrev pub start_at : ℕ → DraftProcess → ℕ → Option Transition
start_at n p zero = Some (start_of n p)
start_at n p (suc i) = None

abbrev pub place_at : List DraftSignal → ℕ → DraftProcess → Place → ℕ → Option Transition
place_at signals n p Start i = start_at n p i
place_at signals n p (State q) i = input_at signals n p i (slice_get p.states q.0)

abbrev pub process_at : List DraftSignal → ℕ → Place → ℕ → Option DraftProcess → Option Transition
process_at signals n s i None = None
process_at signals n s i (Some p) = place_at signals n p s i

-- the transition of input i at a place of process p
abbrev pub transition_at : Draft → ℕ → Place → ℕ → Option Transition
transition_at d p s i = process_at d.signals p s i (slice_get d.processes p)
