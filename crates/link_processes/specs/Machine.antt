-- The steps of a terminal. Each call is one of them, on the history of its actors and its
-- transceiver.
use Rattle.std.specs.Prelude.{ℕ, zero, suc, ◌&&◌, not, Bool, true, false, nat_lt, cond}
use Rattle.std.specs.Prelude.{if◌then◌else◌, ℤ, int_lt, slice_get, Option, Some, None, List, []}
use Rattle.std.specs.Prelude.{◌∷◌, length}
use Rattle.turn_code.specs.declared.value.Value.{Value}
use Rattle.turn_code.specs.declared.value.Value.TheVariants as value
use Rattle.resend_store.specs.Window.{emptied as without_kept}
use Rattle.su_octets.specs.declared.units.Unit.{Unit}
use Rattle.actor_machine.specs.Ledger.{Ledger, runs, state_of, refusal_by, ask, room, rebased}
use Rattle.actor_machine.specs.Step.{Answer, Stuck, Says}
use Rattle.actor_machine.specs.declared.event.Event.{Event}
use Rattle.actor_machine.specs.declared.event.Event.TheVariants.{Advance, TakeEnv}
use Rattle.actor_machine.specs.declared.reply.Emitted.{Emitted}
use Rattle.actor_machine.specs.declared.reply.Refusal.{Refusal}
use Rattle.actor_machine.specs.declared.reply.Reply.{Reply}
use Rattle.actor_machine.specs.declared.reply.Reply.TheVariants as reply
use Rattle.actor_book.specs.declared.turn.Turn.{Turn}
use Rattle.actor_book.specs.declared.turn.Turn.TheVariants.{Made, Blocked, Idle}
use Rattle.actor_book.specs.Shown.{variable_of}
use Rattle.actor_book.specs.Turns.{MOST_TURNS, least_turn}
use Rattle.link_transceiver.specs.declared.offers.Offer.{Offer}
use Rattle.link_transceiver.specs.declared.offers.UnitOut.{UnitOut}
use Rattle.link_transceiver.specs.declared.signals.EnvSignal.{EnvSignal}
use Rattle.link_transceiver.specs.TransceiverState.{TransceiverState, kept_of, sent_of}
use Rattle.link_transceiver.specs.declared.glances.Glance.{Glance}
use Rattle.link_transceiver.specs.declared.measures.Measures.{Measures}
use Rattle.link_transceiver.specs.Effects.{effect, clears}
use Rattle.link_transceiver.specs.Judging.{Judged, judged}
use Rattle.link_transceiver.specs.Going.{gone}
use Rattle.link_transceiver.specs.Measuring.{glance, seen_of, calmed, passed, signal_counted}
use Rattle.link_transceiver.specs.Measuring.{error_counted, octets_counted, came_counted}
use Rattle.link_transceiver.specs.Measuring.{went_counted, more_if, reset}
use Rattle.link_transceiver.specs.Offers.{error_offers, acknowledgement_seen, counting_offers}
use Rattle.link_processes.specs.declared.names.Names.{Names}
use Rattle.link_processes.specs.declared.processes.Processes.{Processes}
use Rattle.link_processes.specs.Known.{is_there}
use Rattle.link_processes.specs.Offering.{told_by, offer_event}

abbrev pub with_book : Processes → Ledger → Processes
with_book t b = record t { book = b }

abbrev pub with_transceiver : Processes → TransceiverState → Processes
with_transceiver t h = record t { transceiver = h }

abbrev pub with_measures : Processes → Measures → Processes
with_measures t m = record t { measures = m }

-- the terminal after a step, and whether another step may follow
pub record Step : Type 0 where
  pub processes : Processes
  pub goes : Bool

-- such steps, one after another, at most so many
unfoldable pub repeated : (Processes → Step) → ℕ → Processes → Processes
repeated f zero t = t
repeated f (suc k) t = cond (f t).goes (repeated f k (f t).processes) (f t).processes

-- All counts restart at 0. Whether the far side is congested isn't a count, and stays.
abbrev pub all_reset : Processes → Processes
all_reset t = record t { measures = reset t.measures; aborted = 0 }

-- ---- the actors' signals to the environment

abbrev pub heeds : Option EnvSignal → TransceiverState → TransceiverState
heeds None h = h
heeds (Some s) h = effect s h

abbrev pub signals_counted : Option EnvSignal → TransceiverState → Measures → Measures
signals_counted None h m = m
signals_counted (Some s) h m = signal_counted s (glance h) m

-- a signal to the environment is counted and obeyed
unfoldable pub heard : Emitted → Processes → Processes
heard x t =
    with_transceiver
    (with_measures t (signals_counted (told_by t.names x) t.transceiver t.measures))
    (heeds (told_by t.names x) t.transceiver)

abbrev pub taken_reply : Processes → Ledger → Reply → Step
taken_reply t b (reply.Taken x) = record { processes = heard x (with_book t b); goes = true }
taken_reply t b _ = record { processes = t; goes = false }

abbrev pub taken_answer : Processes → Ledger → Answer → Step
taken_answer t b (Stuck x) = record { processes = t; goes = false }
taken_answer t b (Says r) = taken_reply t b r

-- the oldest signal that waits for the environment is taken and obeyed
unfoldable pub one_taken : Processes → Step
one_taken t = taken_answer t (ask t.book TakeEnv).book (ask t.book TakeEnv).answer

-- all signals that wait for the environment are taken and obeyed
unfoldable pub emptied : Processes → Processes
emptied t = repeated one_taken (length (state_of t.book).ring.items) t

-- ---- proving periods

-- Cp of initial alignment control (Q.703, figure 9), if the text has it and it is set: how many
-- proving periods of the current alignment were aborted
abbrev pub periods_of : Names → Ledger → Option Value
periods_of n b =
    variable_of (slice_get (state_of b).actors n.periods.actor) n.periods.variable.0

abbrev pub is_past : ℤ → Option Value → Bool
is_past before None = false
is_past before (Some (value.Int after)) = int_lt before after
is_past before (Some (value.Bool after)) = false

-- whether a number grew
abbrev pub grew : Option Value → Option Value → Bool
grew None after = false
grew (Some (value.Int before)) after = is_past before after
grew (Some (value.Bool before)) after = false

-- a proving period was aborted if Cp grew, and is counted
abbrev pub periods_counted : Option Value → Processes → Processes
periods_counted before t =
    record t { aborted = more_if (grew before (periods_of t.names t.book)) 1 t.aborted }

-- the terminal with the book after a turn
abbrev pub turned : Processes → Ledger → Processes
turned t b = periods_counted (periods_of t.names t.book) (with_book t b)

-- ---- a rest

abbrev pub moved_by : Processes → Ledger → Turn → Step
moved_by t b Made = record { processes = emptied (turned t b); goes = true }
moved_by t b Blocked = record { processes = with_book t b; goes = false }
moved_by t b Idle = record { processes = with_book t b; goes = false }

-- the least actor that can has a turn; a proving period aborted in it is counted; then the signals
-- for the environment are taken
unfoldable pub moved : Processes → Step
moved t = moved_by t (least_turn t.book).book (least_turn t.book).turn

-- turn after turn, until no actor can have one, the journal has no room, or a rest's greatest
-- number of turns is reached
unfoldable pub rested : Processes → Processes
rested t = repeated moved MOST_TURNS t

-- ---- offers

-- ticks that pass are counted by the terminal before them
abbrev pub ticks_counted : Event → TransceiverState → Measures → Measures
ticks_counted (Advance n) h m = passed n (glance h) m
ticks_counted _ h m = m

abbrev pub timed : Event → Processes → Processes
timed e t = with_measures t (ticks_counted e t.transceiver t.measures)

-- an event of the book, followed by a rest; a refused event leaves the book, but the rest follows
unfoldable pub offered : Event → Processes → Processes
offered e t = rested (with_book (timed e t) (ask t.book e).book)

-- offers in order, each followed by a rest
unfoldable pub all_offered : List Offer → Processes → Processes
all_offered [] t = t
all_offered (o ∷ os) t = all_offered os (offered (offer_event t.names o) t)

-- ---- units

abbrev pub noted_by : Processes → Judged → Processes
noted_by t j = all_offered j.offers (with_transceiver t j.transceiver)

-- what a received unit adds to the measurements
abbrev pub unit_measured : Unit → Processes → Processes
unit_measured u t =
    with_measures t
    (came_counted (glance t.transceiver) (seen_of u) (glance (judged t.transceiver u).transceiver)
    t.measures)

-- a unit without errors was received: the stores take it, then its offers are made
unfoldable pub unit_taken : Unit → Processes → Processes
unit_taken u t = noted_by (unit_measured u t) (judged t.transceiver u)

-- a unit with errors was received
unfoldable pub error_taken : Processes → Processes
error_taken t = all_offered error_offers (with_measures t (error_counted t.measures))

-- sixteen octets were received without a unit
unfoldable pub octets_taken : Processes → Processes
octets_taken t = all_offered error_offers (with_measures t (octets_counted t.measures))

-- the result of a request for a unit
pub record Sent : Type 0 where
  pub processes : Processes
  pub unit : Option Unit

abbrev pub told_of : Option Offer → Processes → Processes
told_of None t = t
told_of (Some o) t = offered (offer_event t.names o) t

abbrev pub sent_by : Processes → Option UnitOut → Sent
sent_by t None = record { processes = t; unit = None }
sent_by t (Some out) = record { processes = told_of out.offer t; unit = Some out.unit }

-- what a sent unit adds to the measurements, if one is sent
abbrev pub out_counted : Glance → Option UnitOut → Glance → Measures → Measures
out_counted before None after m = m
out_counted before (Some out) after m = went_counted before (seen_of out.unit) after m

abbrev pub out_measured : Processes → Processes
out_measured t =
    with_measures t
    (out_counted (glance t.transceiver) (gone t.transceiver).out
    (glance (gone t.transceiver).transceiver) t.measures)

-- the next unit to send, and the terminal after its offer
unfoldable pub sent : Processes → Sent
sent t =
    sent_by (with_transceiver (out_measured t) (gone t.transceiver).transceiver)
    (gone t.transceiver).out

-- the terminal after such a request
abbrev pub unit_gone : Processes → Processes
unit_gone t = (sent t).processes

-- ---- retrieval

-- the offer that no message is unacknowledged any more, if some were
abbrev pub none_out : Bool → Option Offer
none_out true = Some (acknowledgement_seen false)
none_out false = None

-- no message is unacknowledged, so the far side's congestion is over
abbrev pub calm_measured : Processes → Processes
calm_measured t = with_measures t (calmed t.measures)

-- the buffers were emptied by a retrieval; if messages were unacknowledged, transmission control is
-- told that none is
unfoldable pub handed_out : Option ℕ → Processes → Processes
handed_out accepted t =
    told_of (none_out (nat_lt 0 (sent_of t.transceiver)))
    (with_transceiver (calm_measured t)
    (record t.transceiver { sender = without_kept t.transceiver.sender accepted }))

-- ---- clearing the buffers

-- the held messages go, and transmission control is told that none is unacknowledged
unfoldable pub buffers_emptied : Processes → Processes
buffers_emptied t =
    offered (offer_event t.names (acknowledgement_seen false))
    (with_transceiver (calm_measured t) (clears t.transceiver))

-- the buffers are cleared, if an actor requested that
unfoldable pub clear_obeyed : Processes → Processes
clear_obeyed t = if t.transceiver.clearing then buffers_emptied t else t

-- how many messages would be cleared
abbrev pub to_clear : Processes → ℕ
to_clear t = if t.transceiver.clearing then length (kept_of t.transceiver) else 0

-- ---- octet counting

abbrev pub differs : Bool → Bool → Bool
differs true b = not b
differs false b = b

-- whether the set has the signal
abbrev pub hears_counting : Processes → Bool
hears_counting t = is_there t.names.options.counting

-- whether the set has the signal, and this differs from what the monitors were last told
abbrev pub is_news : Bool → Processes → Bool
is_news on t = hears_counting t && differs on t.counting

-- Both error rate monitors are told whether octets are counted, if that is news.
unfoldable pub counting_told : Bool → Processes → Processes
counting_told on t =
    if is_news on t then all_offered (counting_offers on) (record t { counting = on }) else t

-- ---- the journal

-- if fewer places of the journal than this are free, it is emptied before the next unit, command or
-- tick
abbrev pub LOW : ℕ
LOW = 32768

-- how many places of the journal are free
abbrev pub places : Processes → ℕ
places t = room t.book (state_of t.book)

-- whether the journal is to be emptied: it holds events, and has too little room
abbrev pub is_low : Processes → Bool
is_low t = nat_lt 0 (length t.book.journal) && nat_lt (places t) LOW

unfoldable pub tidied : Processes → Processes
tidied t = if is_low t then with_book t (rebased t.book) else t

-- ---- ticks

-- why so many ticks can't pass, if they can't
abbrev pub tick_refusal : ℕ → Processes → Option Refusal
tick_refusal n t = refusal_by (runs t.book.set) t.book (Advance n)
