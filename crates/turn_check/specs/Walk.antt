-- The parts of a valid draft.
use Rattle.std.specs.Prelude.{◌≡◌, ℕ, Some}
use Rattle.turn_code.specs.Transitions.{Transition, transition_at}
use Rattle.turn_code.specs.Valid.{IsValidTransition}
use Rattle.turn_code.specs.declared.input.Place.{Place}
use Rattle.turn_code.specs.declared.draft.Draft.{Draft}

-- the transition there, if there is one, is valid
pub record IsValidAt (d : Draft) (p : ℕ) (s : Place) (i : ℕ) : Type 0 where
  pub each : (t : Transition) → transition_at d p s i ≡ Some t → IsValidTransition d t

pub record IsValidState (d : Draft) (p : ℕ) (s : Place) : Type 0 where
  pub each : (i : ℕ) → IsValidAt d p s i

pub record IsValidProcess (d : Draft) (p : ℕ) : Type 0 where
  pub each : (s : Place) → IsValidState d p s
