-- The parts of a fitting input.
use Rattle.std.specs.Prelude.{◌≡◌, ℕ, List, Any, Option, Some, None, slice_get}
use Rattle.turn_code.specs.Routes.{Brings}
use Rattle.turn_code.specs.declared.value.Value.{Value}
use Rattle.turn_code.specs.declared.input.Address.{Address}
use Rattle.turn_code.specs.declared.draft.DraftRoute.{DraftRoute}
use Rattle.turn_code.specs.declared.draft.Trigger.{Trigger}
use Rattle.turn_code.specs.declared.draft.Trigger.TheVariants.{Signal, Timer}

-- variable v has a value
abbrev pub IsSetAt : List (Option Value) → ℕ → Type 0
IsSetAt vs v = (x : Value) × (slice_get vs v ≡ Some (Some x))

-- one of the routes brings the signal of the trigger from its sender
abbrev pub IsBroughtBy : List DraftRoute → ℕ → Option Trigger → Option Address → Type 0
IsBroughtBy routes p None sender = Unit {0}
IsBroughtBy routes p (Some (Timer n)) sender = Unit {0}
IsBroughtBy routes p (Some (Signal n)) None = ⊥
IsBroughtBy routes p (Some (Signal n)) (Some sender) = Any (Brings sender.party p n) routes
