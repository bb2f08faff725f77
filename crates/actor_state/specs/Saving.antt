-- Signals and timers within the bounds of a set.
use Rattle.std.specs.Prelude.{ℕ, ◌<◌, Option, None, Some, option_map}
use Rattle.plain_laws.specs.Limits.{MOST_SIGNALS, MOST_TIMERS_EACH}
use Rattle.turn_code.specs.declared.draft.Draft.{Draft}
use Rattle.turn_code.specs.declared.draft.Trigger.{Trigger}
use Rattle.turn_code.specs.declared.draft.Trigger.TheVariants.{Signal, Timer}
use Rattle.turn_code.specs.declared.input.Place.TheVariants.{Start, State}
use Rattle.input_port.specs.declared.queue.Item.{Item}
use Rattle.actor_machine.specs.Looking.{trigger_of, item_at, found_item, number_in}
use Rattle.actor_machine.specs.declared.actor.Actor.{Actor}
use Rattle.actor_machine.specs.declared.actor.Standing.{Standing}
use Rattle.actor_machine.specs.declared.actor.Standing.TheVariants.{At, Stopped}

-- the number of a signal or timer is within its limit
abbrev pub IsSmall : Trigger → Type 0
IsSmall (Signal n) = n.0 < MOST_SIGNALS
IsSmall (Timer n) = n.0 < MOST_TIMERS_EACH

-- the signal or timer of the item that an actor would skip
abbrev pub skipped_by : Draft → Option Actor → Option Trigger
skipped_by d None = None
skipped_by d (Some a) = option_map trigger_of (item_at d a.name.process.0 a.standing a.port.items)

-- the number of the input for this item in an actor of process n that takes it; 0 at START, after a
-- STOP and if there is no item
abbrev pub number_with : Draft → ℕ → Standing → Option Item → ℕ
number_with d n (At (State q)) o = number_in (found_item d n q.0 o)
number_with d n (At Start) o = 0
number_with d n Stopped o = 0
