-- What an actor finds in its port (Z.100, input and save).
use Rattle.std.specs.Prelude.{ℕ, Bool, List, [], Option, None, Some}
use Rattle.std.specs.List.{list_any}
use Rattle.turn_code.specs.declared.input.Input.{Input}
use Rattle.turn_code.specs.declared.input.Place.TheVariants.{Start, State}
use Rattle.turn_code.specs.declared.draft.Draft.{Draft}
use Rattle.turn_code.specs.declared.draft.Trigger.{Trigger}
use Rattle.turn_code.specs.declared.draft.Trigger.TheVariants.{Signal, Timer}
use Rattle.turn_check.specs.Named.{saves_at}
use Rattle.turn_check.specs.Answered.{same_trigger, input_for as input_waiting}
use Rattle.input_port.specs.Queue.{first_unsaved, without_first}
use Rattle.input_port.specs.declared.queue.Item.{Item}
use Rattle.input_port.specs.declared.queue.Item.TheVariants as item
use Rattle.actor_machine.specs.declared.actor.Actor.{Actor}
use Rattle.actor_machine.specs.declared.actor.Given.{Given}
use Rattle.actor_machine.specs.declared.actor.Standing.{Standing}
use Rattle.actor_machine.specs.declared.actor.Standing.TheVariants.{At, Stopped}
use Rattle.actor_machine.specs.declared.found.Found.{Found}
use Rattle.actor_machine.specs.declared.found.Found.TheVariants as found

-- the signal or timer by which an input or a SAVE names an item
abbrev pub trigger_of : Item → Trigger
trigger_of (item.Signal arrival) = Signal arrival.signal
trigger_of (item.Timer timer) = Timer timer

-- whether state q of process n saves the item
abbrev pub is_saved : Draft → ℕ → ℕ → Item → Bool
is_saved d n q x = list_any (same_trigger (trigger_of x)) (saves_at d n q)

-- the first input of state q, in text order, that waits for the item
abbrev pub input_for : Draft → ℕ → ℕ → Item → Option ℕ
input_for d n q x = input_waiting d n q (trigger_of x)

-- the first item that isn't saved in the actor's state; none at START and after a STOP, where no
-- item is taken
abbrev pub item_at : Draft → ℕ → Standing → List Item → Option Item
item_at d n (At (State q)) xs = first_unsaved (is_saved d n q.0) xs
item_at d n (At Start) xs = None
item_at d n Stopped xs = None

-- the items without the one that is taken
abbrev pub left_at : Draft → ℕ → Standing → List Item → List Item
left_at d n (At (State q)) xs = without_first (is_saved d n q.0) xs
left_at d n (At Start) xs = xs
left_at d n Stopped xs = xs

abbrev pub as_input : Option ℕ → Found
as_input None = found.Ignored
as_input (Some i) = found.Input i

abbrev pub found_item : Draft → ℕ → ℕ → Option Item → Found
found_item d n q None = found.Nothing
found_item d n q (Some x) = as_input (input_for d n q x)

abbrev pub found_at : Draft → ℕ → Standing → List Item → Found
found_at d n (At (State q)) xs = found_item d n q.0 (first_unsaved (is_saved d n q.0) xs)
found_at d n (At Start) xs = found.Start
found_at d n Stopped xs = found.Nothing

-- the result of an actor's look into its port
unfoldable pub looks : Draft → Actor → Found
looks d a = found_at d a.name.process.0 a.standing a.port.items

-- ---- the input of a turn: the variables, and the parameters and sender of the item that is taken;
-- START and the signal of a timer have neither parameters nor a sender

abbrev pub first_input : Actor → Input
first_input a =
    record { variables = a.variables; parameters = record { items = [] }; sender = None }

abbrev pub input_with : Actor → Option Item → Input
input_with a None = first_input a
input_with a (Some (item.Signal arrival)) =
    record {
      variables = a.variables;
      parameters = arrival.parameters;
      sender = Some arrival.sender;
    }
input_with a (Some (item.Timer timer)) = first_input a

-- the number of the input that is found; 0 at START
abbrev pub number_in : Found → ℕ
number_in found.Nothing = 0
number_in found.Start = 0
number_in (found.Input i) = i
number_in found.Ignored = 0

-- ---- the actor after a begin or a skip

abbrev pub taken : Draft → Actor → List Item
taken d a = left_at d a.name.process.0 a.standing a.port.items

unfoldable pub given_now : Draft → ℕ → Actor → Given
given_now d turn a =
    record {
      turn = turn;
      number = number_in (looks d a);
      input = input_with a (item_at d a.name.process.0 a.standing a.port.items);
    }

-- the item is taken out of the port, and the actor has this turn out
unfoldable pub begun : Draft → ℕ → Actor → Actor
begun d turn a =
    record a { port = record a.port { items = taken d a }; given = Some (given_now d turn a) }

-- the item is taken out of the port, and nothing else happens
unfoldable pub skipped : Draft → Actor → Actor
skipped d a = record a { port = record a.port { items = taken d a } }
