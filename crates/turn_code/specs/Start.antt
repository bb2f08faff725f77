-- How a process begins.
use Rattle.std.specs.Prelude.{◌≡◌, ℕ, List, [], map, Option, Some}
use Rattle.turn_code.specs.Transitions.{Transition, transition_at}
use Rattle.turn_code.specs.Valid.{IsValid}
use Rattle.turn_code.specs.Fits.{FitsTransition}
use Rattle.turn_code.specs.declared.value.Value.{Value}
use Rattle.turn_code.specs.declared.input.Input.{Input}
use Rattle.turn_code.specs.declared.input.Place.TheVariants.{Start}
use Rattle.turn_code.specs.declared.draft.Draft.{Draft}
use Rattle.turn_code.specs.declared.draft.DraftVariable.{DraftVariable}

-- the initial values of variables, none for a variable without one
abbrev pub initial_values : List DraftVariable → List (Option Value)
initial_values xs = map (λ (v : DraftVariable). v.initial) xs

-- the input that begins a process, whoever the sender is: its variables have their initial values,
-- and there are no parameters
pub record IsBeginning (xs : List DraftVariable) (x : Input) : Type 0 where
  pub variables : x.variables.items ≡ initial_values xs
  pub parameters : x.parameters.items ≡ []

-- such an input fits START of each process of a valid draft
abbrev pub StartLaw : Type 0
StartLaw = (d : Draft) (p i : ℕ) (t : Transition) (x : Input) → IsValid d
    → transition_at d p Start i ≡ Some t
    → IsBeginning t.process.variables x → FitsTransition d t x
