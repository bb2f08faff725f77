-- The lines of a trace: the text about each event of a link.
use Rattle.std.specs.Prelude.{ℕ, ◌+◌, ◌==◌, Bool, true, false, not, ◌&&◌, ◌||◌, List, [], ◌∷◌, ◌++◌}
use Rattle.std.specs.Prelude.{Option, None, Some, is_some, position, length, slice_get, unwrap_or}
use Rattle.std.specs.Prelude.{bytes_eq, codes, map, if◌then◌else◌}
use Rattle.std.specs.List.{flat_map}
use Rattle.std.specs.Fmt.{decimal}
use Rattle.turn_code.specs.Outcome.{Outcome}
use Rattle.turn_code.specs.declared.value.Value.{Value}
use Rattle.turn_code.specs.declared.numbers.InstanceNumber.{InstanceNumber}
use Rattle.turn_code.specs.declared.numbers.ProcessNumber.{ProcessNumber}
use Rattle.turn_code.specs.declared.input.Address.{Address}
use Rattle.turn_code.specs.declared.input.Party.{Party}
use Rattle.turn_code.specs.declared.input.Party.TheVariants.{Environment, Process}
use Rattle.turn_code.specs.declared.input.Place.{Place}
use Rattle.turn_code.specs.declared.input.Place.TheVariants.{Start, State as AtState}
use Rattle.turn_code.specs.declared.effect.Effect.{Effect}
use Rattle.turn_code.specs.declared.effect.Effect.TheVariants.{Output, Set, Reset}
use Rattle.turn_code.specs.declared.machine.End.{End}
use Rattle.turn_code.specs.declared.machine.End.TheVariants.{State, Stop}
use Rattle.turn_code.specs.declared.draft.Draft.{Draft}
use Rattle.turn_check.specs.Named.{timer_names, variable_names}
use Rattle.turn_machine.specs.Turn.{Turn, outcome_of}
use Rattle.input_port.specs.declared.queue.Item.{Item}
use Rattle.input_port.specs.declared.queue.Item.TheVariants as item
use Rattle.tick_wheel.specs.declared.Due.{Due}
use Rattle.actor_machine.specs.Core.{Core, names_in}
use Rattle.actor_machine.specs.Effects.{delay}
use Rattle.actor_machine.specs.Looking.{item_at, trigger_of}
use Rattle.actor_machine.specs.Names.{actors_of, place_of}
use Rattle.actor_machine.specs.Ledger.{runs, turn_at}
use Rattle.actor_machine.specs.Step.{Stepped, step, due_in, report_of}
use Rattle.actor_machine.specs.declared.actor.Actor.{Actor}
use Rattle.actor_machine.specs.declared.actor.Standing.{Standing}
use Rattle.actor_machine.specs.declared.actor.Standing.TheVariants.{At, Stopped}
use Rattle.actor_machine.specs.declared.name.ActorName.{ActorName}
use Rattle.actor_machine.specs.declared.event.Event.{Event}
use Rattle.actor_machine.specs.declared.event.Event.TheVariants as event
use Rattle.actor_machine.specs.declared.event.Offer.{Offer}
use Rattle.actor_machine.specs.declared.reply.Cause.{Cause}
use Rattle.actor_machine.specs.declared.reply.Cause.TheVariants as cause
use Rattle.actor_machine.specs.declared.reply.Lost.{Lost}
use Rattle.actor_machine.specs.declared.reply.Report.{Report}
use Rattle.script_lines.specs.Replies.{sender_text, process_text, signal_text, place_text}
use Rattle.script_lines.specs.Replies.{state_text, trigger_text, end_text, value_text}

-- ---- values, timers, variables, actors

-- values, with a space before each
abbrev pub values_text : List Value → List ℕ
values_text vs = flat_map (λ v. 32 ∷ value_text v) vs

abbrev pub timer_text : Draft → ℕ → ℕ → List ℕ
timer_text d p t = unwrap_or (slice_get (timer_names d p) t) []

abbrev pub variable_text : Draft → ℕ → ℕ → List ℕ
variable_text d p x = unwrap_or (slice_get (variable_names d p) x) []

-- the value of a variable, if it is set
abbrev pub shown_text : Option Value → List ℕ
shown_text None = codes "unset"
shown_text (Some v) = value_text v

abbrev pub instance_of : ProcessNumber → InstanceNumber → ActorName
instance_of p k = record { process = p; instance = k }

-- the sender of a signal
abbrev pub party_text : Draft → Party → Option InstanceNumber → List ℕ
party_text d Environment k = codes "ENV"
party_text d (Process p) None = process_text d p.0
party_text d (Process p) (Some k) = sender_text d (instance_of p k)

-- the sender, after ` from `; nothing for START and timers, which have no sender
abbrev pub from_text : Draft → Option Address → List ℕ
from_text d None = []
from_text d (Some a) = codes " from " ++ party_text d a.party a.instance

-- whether a set has this actor
abbrev pub has_actor : Draft → ActorName → Bool
has_actor d x = is_some (place_of x (actors_of d.processes))

-- the receiver of a signal sent to a process without naming an instance: the instance with the
-- sender's number, or the first one
abbrev pub meant : Draft → ActorName → ProcessNumber → ActorName
meant d me p =
    if has_actor d (instance_of p me.instance) then instance_of p me.instance
    else instance_of p (record { 0 = 1 })

abbrev pub receiver_text : Draft → ActorName → Party → Option InstanceNumber → List ℕ
receiver_text d me Environment k = codes "ENV"
receiver_text d me (Process p) None = sender_text d (meant d me p)
receiver_text d me (Process p) (Some k) = sender_text d (instance_of p k)

-- ---- effects

abbrev pub cause_text : Cause → List ℕ
cause_text cause.Full = codes " lost Full"
cause_text cause.EnvFull = codes " lost EnvFull"
cause_text cause.Stopped = codes " lost Stopped"

abbrev pub lost_text : Option Lost → List ℕ
lost_text None = []
lost_text (Some l) = cause_text l.cause

abbrev pub found_loss : List Lost → Option ℕ → Option Lost
found_loss lost None = None
found_loss lost (Some n) = slice_get lost n

-- the loss of the effect at place k, if it was lost
abbrev pub lost_at : List Lost → ℕ → Option Lost
lost_at lost k = found_loss lost (position (λ (l : Lost). l.place == k) lost)

-- the effect at place k of a turn of an actor, at this clock time
abbrev pub effect_text : Draft → ℕ → ActorName → List Lost → ℕ → Effect → List ℕ
effect_text d clock me lost k (Output s) =
    signal_text d s.signal.0 ++ values_text s.parameters.items
    ++ codes " to " ++ receiver_text d me s.receiver.party s.receiver.instance
    ++ lost_text (lost_at lost k)
effect_text d clock me lost k (Set t z) =
    codes "set " ++ timer_text d me.process.0 t.0 ++ codes " at " ++ decimal (clock + delay z)
effect_text d clock me lost k (Reset t) = codes "reset " ++ timer_text d me.process.0 t.0

-- the effects in the order of the text, with a comma before each, the first of them at place k
abbrev pub effects_text : Draft → ℕ → ActorName → List Lost → ℕ → List Effect → List ℕ
effects_text d clock me lost k [] = []
effects_text d clock me lost k (e ∷ es) =
    (codes ", " ++ effect_text d clock me lost k e)
    ++ effects_text d clock me lost (k + 1) es

-- ---- variables

abbrev pub value_at : List (Option Value) → ℕ → Option Value
value_at vs k = unwrap_or (slice_get vs k) None

-- variable k of process p, with a comma before it, if its value changed
abbrev pub change_text : Draft → ℕ → List (Option Value) → ℕ → Option Value → List ℕ
change_text d p before k v =
    if bytes_eq (shown_text (value_at before k)) (shown_text v) then []
    else codes ", " ++ variable_text d p k ++ codes " := " ++ shown_text v

-- the variables in their order, the first of them variable k
abbrev pub changes_text :
    Draft → ℕ → List (Option Value) → ℕ → List (Option Value) → List ℕ
changes_text d p before k [] = []
changes_text d p before k (v ∷ vs) =
    change_text d p before k v ++ changes_text d p before (k + 1) vs

-- ---- turns

-- how a turn began: its actor, number and state, and the stimulus with its values and sender
abbrev pub began_text : Draft → ActorName → Turn → List ℕ
began_text d me t =
    codes " turn " ++ decimal t.turn ++ codes " " ++ sender_text d me ++ codes " "
    ++ place_text d me.process.0 t.place t.input_number
    ++ values_text t.input.parameters.items ++ from_text d t.input.sender

-- how a turn ended: the next state, or STOP, and the number of instructions executed, with the
-- number that its certificate allows
abbrev pub ended_text : Draft → ActorName → Turn → Report → List ℕ
ended_text d me t r =
    codes ", " ++ end_text d me.process.0 r.end ++ codes " count " ++ decimal r.count
    ++ codes " of " ++ decimal t.certificate.budget

-- a turn that ended at this clock time: how it began and ended, its effects, and the variables that
-- it changed
abbrev pub turn_line : Draft → ℕ → ActorName → Turn → Report → Outcome → List ℕ
turn_line d clock me t r o =
    decimal clock ++ began_text d me t ++ ended_text d me t r
    ++ effects_text d clock me r.lost.items 0 o.progress.effects
    ++ changes_text d me.process.0 t.input.variables.items 0 o.progress.variables

abbrev pub stays_in : Place → End → Bool
stays_in Start e = false
stays_in (AtState q) (State r) = q.0 == r.0
stays_in (AtState q) Stop = false

-- a dull turn: it keeps its state and has no effect
abbrev pub is_dull : Place → End → List Effect → Bool
is_dull s e es = stays_in s e && (length es == 0)

abbrev pub turn_lines :
    Bool → Draft → ℕ → ActorName → Turn → Report → Outcome → List (List ℕ)
turn_lines every d clock me t r o =
    if every || not (is_dull t.place r.end o.progress.effects)
    then turn_line d clock me t r o ∷ [] else []

abbrev pub outcome_by : Option Turn → Option Outcome
outcome_by None = None
outcome_by (Some t) = outcome_of t

-- the lines about the end of the turn of actor n, if it has a turn under way
abbrev pub end_lines :
    Bool → Draft → Core → ℕ → Option ActorName → Option Turn → Option Outcome → List (List ℕ)
end_lines every d w n (Some me) (Some t) (Some o) =
    turn_lines every d w.timers.clock me t (report_of n me o w) o
end_lines every d w n (Some me) (Some t) None = []
end_lines every d w n (Some me) None o = []
end_lines every d w n None t o = []

abbrev pub finish_lines :
    Bool → Draft → Core → ℕ → Option ActorName → Option Turn → List (List ℕ)
finish_lines every d w n me t = end_lines every d w n me t (outcome_by t)

-- ---- skips

abbrev pub item_values : Item → List Value
item_values (item.Signal arrival) = arrival.parameters.items
item_values (item.Timer timer) = []

abbrev pub item_sender : Item → Option Address
item_sender (item.Signal arrival) = Some arrival.sender
item_sender (item.Timer timer) = None

abbrev pub stands_text : Draft → ℕ → Place → List ℕ
stands_text d p Start = codes "START"
stands_text d p (AtState q) = state_text d p q.0

-- an item that an actor discards
abbrev pub skip_line : Draft → ℕ → ActorName → Place → Item → List ℕ
skip_line d clock me s x =
    decimal clock ++ codes " skip " ++ sender_text d me ++ codes " "
    ++ stands_text d me.process.0 s ++ codes "/" ++ trigger_text d me.process.0 (trigger_of x)
    ++ values_text (item_values x) ++ from_text d (item_sender x)

-- ---- events

abbrev pub actor_text : Draft → Option ActorName → List ℕ
actor_text d None = []
actor_text d (Some x) = sender_text d x

abbrev pub offer_line : Draft → Core → Offer → List ℕ
offer_line d w o =
    decimal w.timers.clock ++ codes " offer "
    ++ actor_text d (slice_get (names_in w.actors) o.actor) ++ codes " "
    ++ signal_text d o.signal.0 ++ values_text o.values.items

abbrev pub timer_of_text : Draft → Option ActorName → ℕ → List ℕ
timer_of_text d None t = []
timer_of_text d (Some x) t = timer_text d x.process.0 t

-- a timer that expires at this clock time
abbrev pub due_line : Draft → Core → ℕ → Due → List ℕ
due_line d w clock x =
    decimal clock ++ codes " due "
    ++ actor_text d (slice_get (names_in w.actors) x.timer.actor) ++ codes " "
    ++ timer_of_text d (slice_get (names_in w.actors) x.timer.actor) x.timer.number

-- the step from a link's state to the next by an event
abbrev pub stepped : Draft → Core → Event → Stepped
stepped d w e = step d (runs d) w e

abbrev pub skip_of : Draft → ℕ → ActorName → Standing → Option Item → List (List ℕ)
skip_of d clock me (At s) (Some x) = skip_line d clock me s x ∷ []
skip_of d clock me (At s) None = []
skip_of d clock me Stopped x = []

abbrev pub skip_lines : Draft → ℕ → Option Actor → List (List ℕ)
skip_lines d clock None = []
skip_lines d clock (Some a) =
    skip_of d clock a.name a.standing (item_at d a.name.process.0 a.standing a.port.items)

-- The lines about an event in a state of a link. With `every` they include skips and dull turns.
unfoldable pub told : Bool → Draft → Core → Event → List (List ℕ)
told every d w (event.Offer o) = offer_line d w o ∷ []
told every d w (event.Begin n) = []
told every d w (event.Skip n) =
    if every then skip_lines d w.timers.clock (slice_get w.actors n) else []
told every d w (event.Finish n) =
    finish_lines every d w n (slice_get (names_in w.actors) n) (turn_at d n (slice_get w.actors n))
told every d w (event.Advance k) = map (due_line d w (w.timers.clock + k)) (due_in w k)
told every d w event.TakeEnv = []

-- the lines about events that happen one after another
unfoldable pub told_of : Bool → Draft → Core → List Event → List (List ℕ)
told_of every d w [] = []
told_of every d w (e ∷ es) = told every d w e ++ told_of every d (stepped d w e).to es
