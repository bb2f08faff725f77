-- Reading a book's actors.
use Rattle.std.specs.Prelude.{ℕ, Option, None, Some, slice_get}
use Rattle.turn_code.specs.declared.value.Value.{Value}
use Rattle.actor_machine.specs.declared.actor.Actor.{Actor}

abbrev pub value_in : Option (Option Value) → Option Value
value_in None = None
value_in (Some v) = v

-- the value of variable n of an actor; none if there is no such actor or variable, or it isn't set
abbrev pub variable_of : Option Actor → ℕ → Option Value
variable_of None n = None
variable_of (Some a) n = value_in (slice_get a.variables.items n)
