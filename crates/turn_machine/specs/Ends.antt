-- How a transition ends on an input.
use Rattle.std.specs.Prelude.{◌≡◌, ℕ, ◌≤◌, length, Some}
use Rattle.turn_code.specs.Machine.{progress_of}
use Rattle.turn_code.specs.Run.{run, ended}
use Rattle.turn_code.specs.Transitions.{Transition, transition_at, budget_of, effects_within}
use Rattle.turn_code.specs.declared.input.Input.{Input}
use Rattle.turn_code.specs.declared.input.Place.{Place}
use Rattle.turn_code.specs.declared.draft.Draft.{Draft}
use Rattle.turn_code.specs.declared.machine.End.{End}
use Rattle.turn_code.specs.declared.machine.Machine.{Machine}

-- input i at that place of process p is a transition; its code runs on the input to this end,
-- within its certificate, and m is the machine at the end
pub record EndsSo (d : Draft) (p : ℕ) (s : Place) (i : ℕ) (x : Input) (e : End) (m : Machine) :
    Type 0 where
  pub transition : Transition
  pub there : transition_at d p s i ≡ Some transition
  pub ran : run transition.piece.code x ≡ ended e (progress_of m)
  pub within : m.count ≤ budget_of transition
  pub few : length m.effects.items ≤ effects_within transition
