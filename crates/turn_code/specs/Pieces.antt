-- The code of a transition, as a run has it.
use Rattle.std.specs.Prelude.{◌≡◌, ℕ, ◌≤◌, List, length, Option, Some, slice_get}
use Rattle.plain_laws.specs.Limits.{MOST_PARAMETERS, MOST_VARIABLES}
use Rattle.turn_code.specs.Transitions.{Transition}
use Rattle.turn_code.specs.Rules.{KeepsSetLimits}
use Rattle.turn_code.specs.Valid.{IsValidTransition}
use Rattle.turn_code.specs.Fits.{IsBrought}
use Rattle.turn_code.specs.Sorts.{AreSortsOf}
use Rattle.turn_code.specs.Bare.{bare_of, HasOperandsFor}
use Rattle.turn_code.specs.declared.draft.Draft.{Draft}
use Rattle.turn_code.specs.declared.input.Address.{Address}
use Rattle.turn_code.specs.declared.instruction.Instruction.{Instruction}
use Rattle.turn_code.specs.declared.sorts.Sorts.{Sorts}
use Rattle.turn_code.specs.declared.words.Words.{Words}

-- the instructions, who sent the signal that began them, and the sorts for their words
pub record PlainPiece : Type 0 where
  pub code : List Instruction
  pub sender : Option Address
  pub sorts : Sorts

-- The code is that of a valid transition, and the sorts are its own. A route brings its signal from
-- the sender.
pub record IsOfTransition (p : PlainPiece) : Type 0 where
  pub draft : Draft
  pub transition : Transition
  pub limits : KeepsSetLimits draft
  pub variables : length transition.process.variables ≤ MOST_VARIABLES
  pub parameters : length transition.parameters ≤ MOST_PARAMETERS
  pub valid : IsValidTransition draft transition
  pub code : transition.piece.code ≡ p.code
  pub sorts : AreSortsOf draft.signals transition.process.variables p.sorts
  pub brought : IsBrought draft transition.number transition.trigger p.sender

-- an instruction stands at the place; the words have the operands that it takes, and room for one
-- that it adds
pub record CanStep (p : PlainPiece) (k : ℕ) (w : Words) : Type 0 where
  pub instruction : Instruction
  pub there : slice_get p.code k ≡ Some instruction
  pub operands : HasOperandsFor instruction (bare_of w)
