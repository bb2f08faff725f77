-- Code that runs to its end, on words.
use Rattle.std.specs.Prelude.{◌≡◌, ℕ, ◌+◌, ◌≤◌, List, [], length}
use Rattle.plain_laws.specs.Limits.{MOST_INSTRUCTIONS, MOST_VARIABLES}
use Rattle.turn_code.specs.Run.{Progress, exec, run, ended, begun}
use Rattle.turn_code.specs.Transitions.{Transition, budget_of}
use Rattle.turn_code.specs.Rules.{KeepsSetLimits}
use Rattle.turn_code.specs.Valid.{IsValidTransition}
use Rattle.turn_code.specs.Fits.{FitsTransition}
use Rattle.turn_code.specs.Effects.{AreRightEffects}
use Rattle.turn_code.specs.Safe.{IsSafe}
use Rattle.turn_code.specs.declared.value.Value.{Value}
use Rattle.turn_code.specs.declared.effect.Effect.{Effect}
use Rattle.turn_code.specs.declared.input.Input.{Input}
use Rattle.turn_code.specs.declared.instruction.Instruction.{Instruction}
use Rattle.turn_code.specs.declared.machine.End.{End}
use Rattle.turn_code.specs.declared.draft.Cert.{Cert}
use Rattle.turn_code.specs.declared.draft.Draft.{Draft}
use Rattle.turn_code.specs.Pieces.{PlainPiece}
use Rattle.turn_code.specs.declared.sorts.Sorts.{Sorts}
use Rattle.turn_code.specs.declared.words.Words.{Words}
use Rattle.turn_code.specs.Bare.{bare_of}
use Rattle.turn_code.specs.Sorts.{AreSortsOf}
use Rattle.turn_code.specs.Steps.{Stand}
use Rattle.turn_machine.specs.Wording.{AreVariables}

-- the code and its counts are those of a valid transition, the input fits it, the sorts are its
-- own, and its run is safe within its budget
pub record IsSafeWithin (code : List Instruction) (x : Input) (s : Sorts) (c : Cert) : Type 0 where
  pub draft : Draft
  pub transition : Transition
  pub limits : KeepsSetLimits draft
  pub valid : IsValidTransition draft transition
  pub few : length transition.process.variables ≤ MOST_VARIABLES
  pub code_is : transition.piece.code ≡ code
  pub certificate_is : transition.piece.certificate ≡ c
  pub sorts : AreSortsOf draft.signals transition.process.variables s
  pub fits : FitsTransition draft transition x
  pub small : budget_of transition ≤ MOST_INSTRUCTIONS
  pub safe : IsSafe transition x (budget_of transition) 0 [] (begun x)

-- a run at place k after `taken` instructions, whose rest ends as the whole run does: its words and
-- effects are those of a run on values
pub record IsUnderWay (p : PlainPiece) (x : Input) (c : Cert) (taken k : ℕ) (w : Words)
    (es : List Effect) : Type 0 where
  pub draft : Draft
  pub transition : Transition
  pub certificate_is : transition.piece.certificate ≡ c
  pub fits : FitsTransition draft transition x
  pub operands : List Value
  pub progress : Progress
  pub stand : Stand draft transition p k w x operands progress
  pub left : ℕ
  pub fuel : ℕ
  pub budget_is : taken + left ≡ c.budget
  pub fuel_is : taken + fuel ≡ MOST_INSTRUCTIONS
  pub less : left ≤ fuel
  pub safe : IsSafe transition x left k operands progress
  pub same : exec transition.piece.code x fuel k operands progress ≡ run transition.piece.code x
  pub right : AreRightEffects draft transition progress.effects
  pub effects : es ≡ progress.effects
  pub count : taken ≡ progress.count

-- a run that has ended with e: its effects and its count are those of the run on values, within the
-- certificate, and the words represent its variables
pub record HasEnded (p : PlainPiece) (x : Input) (c : Cert) (e : End) (w : Words) (es : List Effect)
    (n : ℕ) : Type 0 where
  pub progress : Progress
  pub ran : run p.code x ≡ ended e progress
  pub effects : es ≡ progress.effects
  pub count : n ≡ progress.count
  pub within : n ≤ c.budget
  pub few : length es ≤ c.effects
  pub variables : AreVariables (bare_of w) p.sorts.variables progress.variables
  pub long : length progress.variables ≡ length x.variables.items
