-- Inputs that fit a transition.
use Rattle.std.specs.Prelude.{◌≡◌, ℕ, List, map, Any, Option, Some, None, IfSome, slice_get}
use Rattle.std.specs.List.{AllZip}
use Rattle.turn_code.specs.Values.{sort_of}
use Rattle.turn_code.specs.Sets.{Has}
use Rattle.turn_code.specs.Routes.{Brings}
use Rattle.turn_code.specs.Transitions.{Transition, transition_at}
use Rattle.turn_code.specs.declared.value.Value.{Value}
use Rattle.turn_code.specs.declared.variable_set.VariableSet.{VariableSet}
use Rattle.turn_code.specs.declared.input.Input.{Input}
use Rattle.turn_code.specs.declared.input.Place.{Place}
use Rattle.turn_code.specs.declared.input.Address.{Address}
use Rattle.turn_code.specs.declared.draft.Draft.{Draft}
use Rattle.turn_code.specs.declared.draft.DraftVariable.{DraftVariable}
use Rattle.turn_code.specs.declared.draft.Trigger.{Trigger}
use Rattle.turn_code.specs.declared.draft.Trigger.TheVariants.{Signal, Timer}

-- if the variable is set, its value has its sort
abbrev pub HasSort : DraftVariable → Option Value → Type 0
HasSort x v = IfSome v (λ y. sort_of y ≡ x.sort)

-- there is one value, or none, for each variable, and it has the variable's sort
abbrev pub HaveSorts : List DraftVariable → List (Option Value) → Type 0
HaveSorts xs vs = AllZip HasSort xs vs

-- the variables of the set have values
abbrev pub AreSet : VariableSet → List (Option Value) → Type 0
AreSet s vs = (v : ℕ) → Has s v → (x : Value) × (slice_get vs v ≡ Some (Some x))

-- a route carries the signal from its sender; nothing is required of START and of a timer
abbrev pub IsBrought : Draft → ℕ → Option Trigger → Option Address → Type 0
IsBrought d p None sender = Unit {0}
IsBrought d p (Some (Timer n)) sender = Unit {0}
IsBrought d p (Some (Signal n)) None = ⊥
IsBrought d p (Some (Signal n)) (Some sender) = Any (Brings sender.party p n) d.routes

-- the input fits the transition
pub record FitsTransition (d : Draft) (t : Transition) (x : Input) : Type 0 where
  pub parameters : map sort_of x.parameters.items ≡ t.parameters
  pub variables : HaveSorts t.process.variables x.variables.items
  pub set : AreSet t.entry x.variables.items
  pub brought : IsBrought d t.number t.trigger x.sender

-- the input fits input i at place s of process p
pub record Fits (d : Draft) (p : ℕ) (s : Place) (i : ℕ) (x : Input) : Type 0 where
  pub transition : Transition
  pub there : transition_at d p s i ≡ Some transition
  pub fits : FitsTransition d transition x
