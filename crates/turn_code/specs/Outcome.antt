-- How a transition ends, and the meaning of a set as a function.
use Rattle.std.specs.Prelude.{◌≡◌, ℕ, List, Option, Some, None, Result, Ok, Err}
use Rattle.turn_code.specs.Run.{Progress, Ran, run, ended, got_stuck, unfinished}
use Rattle.turn_code.specs.Transitions.{Transition, transition_at}
use Rattle.turn_code.specs.Fits.{FitsTransition}
use Rattle.turn_code.specs.declared.effect.Effect.{Effect}
use Rattle.turn_code.specs.declared.input.Input.{Input}
use Rattle.turn_code.specs.declared.input.Place.{Place}
use Rattle.turn_code.specs.declared.machine.End.{End}
use Rattle.turn_code.specs.declared.draft.Draft.{Draft}
use Rattle.turn_code.specs.declared.trouble.Trouble.{Trouble}
use Rattle.turn_code.specs.declared.trouble.Trouble.TheVariants.{Outside}

-- how a transition ends and what it leaves
pub record Outcome : Type 0 where
  pub end : End
  pub progress : Progress

-- the effects of the transition, in order
abbrev pub effects_of : Outcome → List Effect
effects_of o = o.progress.effects

abbrev pub outcome_in : Ran → Option Outcome
outcome_in (ended e s) = Some (record { end = e; progress = s })
outcome_in (got_stuck x) = None
outcome_in unfinished = None

-- the outcome of a run, or the trouble that stops it; a run that isn't over within the number of
-- instructions that a turn may run is `Outside`
abbrev pub result_in : Ran → Result Outcome Trouble
result_in (ended e s) = Ok (record { end = e; progress = s })
result_in (got_stuck x) = Err x
result_in unfinished = Err Outside

-- the result of input i at place s of process p on an input: an outcome, or the kind of trouble
-- that stops it
abbrev pub Meaning : Type 0
Meaning = (p : ℕ) (s : Place) (i : ℕ) (x : Input) → Result Outcome Trouble

-- the code of each transition has the result that is meant, on each input that fits it
abbrev pub Means : Meaning → Draft → Type 0
Means act d =
    (p : ℕ) (s : Place) (i : ℕ) (t : Transition) (x : Input) → transition_at d p s i ≡ Some t
    → FitsTransition d t x
    → act p s i x ≡ result_in (run t.piece.code x)
