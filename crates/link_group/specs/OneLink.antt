-- One link of a set: its terminal, its marks and its hand.
use Rattle.std.specs.Prelude.{ℕ, ◌+◌, ◌%◌, ◌==◌, ◌&&◌, ◌||◌, nat_le, min, Bool, true, false, not}
use Rattle.std.specs.Prelude.{if◌then◌else◌, List, length, take, drop, filter, Option, Some, None}
use Rattle.std.specs.Prelude.{is_some, Result, Ok, Err}
use Rattle.resend_store.specs.declared.messages.Msu.{Msu}
use Rattle.resend_store.specs.Limits.{MOST_WAITING, MOST_KEPT}
use Rattle.resend_store.specs.Window.{Window, unacknowledged, waiting, with_put, count_by}
use Rattle.resend_store.specs.Window.{last_acknowledged}
use Rattle.link_transceiver.specs.TransceiverState.{is_held, last_accepted}
use Rattle.link_transceiver.specs.declared.signals.LineKind.{LineKind}
use Rattle.link_transceiver.specs.declared.signals.LineKind.TheVariants as kind
use Rattle.link_transceiver.specs.declared.signals.Hold.{Hold}
use Rattle.link_transceiver.specs.declared.signals.Hold.TheVariants as hold
use Rattle.link_processes.specs.Machine.{handed_out}
use Rattle.link_processes.specs.declared.processes.Processes.{Processes}
use Rattle.link_term.specs.Term.{Term, transceiver_of, term_with_transceiver, with_processes}
use Rattle.link_term.specs.Kept.{window_of, with_window as term_with_window}
use Rattle.group_changeover.specs.declared.availability.Availability.{Availability}
use Rattle.group_changeover.specs.declared.availability.Changing.{Changing}
use Rattle.group_changeover.specs.Sharing.{counts_of}
use Rattle.group_changeover.specs.Bound.{is_bound, unbound}
use Rattle.group_changeover.specs.declared.bound.Points.{Points}
use Rattle.group_changeover.specs.Availability.{with_retrieval}
use Rattle.group_changeover.specs.Saying.{is_out, is_waiting, count_in}
use Rattle.link_group.specs.declared.link.Link.{Link}
use Rattle.group_changeover.specs.declared.errors.SendError.{SendError}
use Rattle.group_changeover.specs.declared.errors.SendError.TheVariants as send
use Rattle.group_changeover.specs.declared.errors.BindError.{BindError}
use Rattle.group_changeover.specs.declared.errors.BindError.TheVariants as bind
use Rattle.group_changeover.specs.declared.errors.RetrieveError.{RetrieveError}
use Rattle.group_changeover.specs.declared.errors.RetrieveError.TheVariants as retrieve
use Rattle.group_changeover.specs.declared.errors.AbandonError.{AbandonError}
use Rattle.group_changeover.specs.declared.errors.AbandonError.TheVariants as abandon

-- why a call was refused, if it was
abbrev pub fault_of : {A E : Type 0} → Result A E → Option E
fault_of (Ok x) = None
fault_of (Err e) = Some e

-- its terminal's actors and transceiver
abbrev pub processes_of : Link → Processes
processes_of k = k.terminal.processes

-- its terminal's window of messages to send
abbrev pub window : Link → Window
window k = window_of k.terminal

-- the messages that it holds: the unacknowledged first, then the unsent
abbrev pub held : Link → List Msu
held k = (window k).kept

-- the held messages that aren't bound to it
abbrev pub messages : Link → List Msu
messages k = unbound k.points (held k)

abbrev pub is_serving : Link → Bool
is_serving k = (transceiver_of k.terminal).in_service

-- how its terminal is held
abbrev pub hold_of : Link → Hold
hold_of k = (transceiver_of k.terminal).hold

-- The link may take messages: it is in service, and not held.
abbrev pub carries : Link → Bool
carries k = is_serving k && not (is_held (hold_of k))

-- The link may be given selections and other links' retrieved messages: level 3 admits it too.
abbrev pub shares : Link → Bool
shares k = carries k && k.availability.admitted

-- this side has a processor outage: status 4 is sent (Q.703, 8)
abbrev pub is_outage : Option LineKind → Bool
is_outage None = false
is_outage (Some (kind.Status code)) = code == 4
is_outage (Some kind.FillIn) = false
is_outage (Some kind.Messages) = false

-- messages may be sent
abbrev pub is_messages : Option LineKind → Bool
is_messages None = false
is_messages (Some (kind.Status code)) = false
is_messages (Some kind.FillIn) = false
is_messages (Some kind.Messages) = true

abbrev pub gives_messages : Link → Bool
gives_messages k = is_messages (transceiver_of k.terminal).line

abbrev pub is_far_out : Link → Bool
is_far_out k = (transceiver_of k.terminal).far_out

abbrev pub is_own_out : Link → Bool
is_own_out k = is_outage (transceiver_of k.terminal).line

-- the far side or this side has a processor outage
abbrev pub has_outage : Link → Bool
has_outage k = is_far_out k || is_own_out k

-- the number of the last message that this side accepted
abbrev pub accepted_at : Link → ℕ
accepted_at k = last_accepted (transceiver_of k.terminal)

abbrev pub is_changing : Link → Bool
is_changing k = is_some k.availability.changing

abbrev pub with_window : Window → Link → Link
with_window w k =
    record k { terminal = term_with_window k.terminal w }

abbrev pub with_availability : Availability → Link → Link
with_availability m k = record k { availability = m }

abbrev pub with_hold : Hold → Link → Link
with_hold hold k =
    record k {
      terminal = term_with_transceiver k.terminal
          (record (transceiver_of k.terminal) { hold = hold });
    }

-- During a changeover, a link is held until both directions restart after its messages are
-- retrieved. Otherwise it is held until they restart.
abbrev pub hold_by : Option Changing → Hold
hold_by None = hold.UntilAnew
hold_by (Some c) = if is_out c then hold.UntilAnew else hold.Kept

-- ---- a message to send

-- K2 in changeover, K1 out of service, held or not admitted, E1 if the most messages wait
unfoldable pub put_fault : Link → Option SendError
put_fault k =
    if is_changing k then Some send.Waiting
    else (if shares k
    then (if nat_le MOST_WAITING (length (waiting (window k))) then Some send.Full
    else None)
    else Some send.NoLink)

unfoldable pub puts : Msu → Link → Link
puts m k = with_window (with_put (window k) m) k

-- ---- a message bound to the link

-- K1 out of service or held, E1 if it holds the most messages
unfoldable pub bind_fault : Link → Option BindError
bind_fault k =
    if carries k then (if nat_le MOST_KEPT (length (held k)) then Some bind.Full else None)
    else Some bind.NoLink

-- ---- its messages in a changeover

-- How many of the held messages a number acknowledges; unknown if that is more than were sent.
abbrev pub count_of : Window → ℕ → Option ℕ
count_of w fsn = if nat_le (count_by w fsn) w.sent then Some (count_by w fsn) else None

abbrev pub count_told : Window → Option ℕ → Option ℕ
count_told w None = None
count_told w (Some fsn) = count_of w fsn

-- unless the far side reported how many it accepted, it isn't known which of the sent messages
-- arrived
abbrev pub unsure_by : ℕ → Option ℕ → Option RetrieveError
unsure_by sent (Some n) = None
unsure_by sent None = if sent == 0 then None else Some (retrieve.Unsure sent)

-- how many messages not bound to it are unacknowledged
unfoldable pub unknown : Link → ℕ
unknown k = length (unbound k.points (unacknowledged (window k)))

abbrev pub bound_by : Points → Option Msu → Bool
bound_by p None = false
bound_by p (Some m) = is_bound p m

-- the bound messages among the first so many that it holds
abbrev pub bound_among : Link → ℕ → List Msu
bound_among k n = filter (is_bound k.points) (take n (held k))

-- K2 while its messages are retrieved, and while an answer is awaited; then K4
unfoldable pub retrieve_fault_in : Link → Changing → Option RetrieveError
retrieve_fault_in k c =
    if is_out c then Some retrieve.Waiting
    else (if is_waiting c then Some retrieve.Waiting
    else unsure_by (unknown k) (count_in c.answer))

-- K1 if no changeover goes on
abbrev pub retrieve_fault_by : Link → Option Changing → Option RetrieveError
retrieve_fault_by k None = Some retrieve.NoLink
retrieve_fault_by k (Some c) = retrieve_fault_in k c

unfoldable pub retrieve_fault : Link → Option RetrieveError
retrieve_fault k = retrieve_fault_by k k.availability.changing

abbrev pub accepted_in : Option Changing → Option ℕ
accepted_in None = None
accepted_in (Some c) = count_in c.answer

-- how many of the held messages the far side accepted, if it reported that
unfoldable pub accepted_of : Link → Option ℕ
accepted_of k = accepted_in k.availability.changing

-- The messages after so many accepted ones; if that isn't known, those not sent since both
-- directions last restarted.
abbrev pub lacking : Window → Option ℕ → List Msu
lacking w (Some n) = drop n w.kept
lacking w None = waiting w

-- Without the bound messages.
abbrev pub handed_by : Link → Option ℕ → List Msu
handed_by k n = unbound k.points (lacking (window k) n)

-- the number of the last of so many accepted messages, as far as they were sent
abbrev pub number_behind : Window → Option ℕ → Option ℕ
number_behind w None = None
number_behind w (Some n) = Some ((last_acknowledged w + min n w.sent) % 128)

-- The buffers are empty then, and the numbers continue after the acknowledged ones. If messages
-- were unacknowledged, the actors are told that none is.
abbrev pub emptied_behind : Option ℕ → Term → Term
emptied_behind n t =
    with_processes t (handed_out (number_behind (window_of t) n) t.processes)

abbrev pub with_hand : List Msu → Link → Link
with_hand ms k = record k { hand = ms }

-- Messages are retrieved, by how many are accepted, or the unsent ones if that isn't known. Their
-- counts per selection are kept. The link is held only until its directions restart.
unfoldable pub hands_out : Option ℕ → Link → Link
hands_out n k =
    with_hand (handed_by k n)
    (with_availability (with_retrieval (counts_of (handed_by k n)) k.availability)
    (with_hold hold.UntilAnew (record k { terminal = emptied_behind n k.terminal })))

-- K2 unless a retrieval would be K4; K1 if no changeover goes on.
abbrev pub abandon_by : Option RetrieveError → Option AbandonError
abandon_by None = Some abandon.Waiting
abandon_by (Some retrieve.NoLink) = Some abandon.NoLink
abandon_by (Some retrieve.Waiting) = Some abandon.Waiting
abandon_by (Some (retrieve.Unsure n)) = None
abandon_by (Some retrieve.NoMemory) = Some abandon.Waiting

unfoldable pub abandon_fault : Link → Option AbandonError
abandon_fault k = abandon_by (retrieve_fault k)

-- why messages weren't retrieved, except for NoMemory
abbrev pub but_memory : RetrieveError → Option RetrieveError
but_memory retrieve.NoLink = Some retrieve.NoLink
but_memory retrieve.Waiting = Some retrieve.Waiting
but_memory (retrieve.Unsure n) = Some (retrieve.Unsure n)
but_memory retrieve.NoMemory = None

abbrev pub retrieve_refusal : {A : Type 0} → Result A RetrieveError → Option RetrieveError
retrieve_refusal (Ok x) = None
retrieve_refusal (Err e) = but_memory e

abbrev pub abandon_refusal : {A : Type 0} → Result A AbandonError → Option AbandonError
abandon_refusal (Ok x) = None
abandon_refusal (Err abandon.NoLink) = Some abandon.NoLink
abandon_refusal (Err abandon.Waiting) = Some abandon.Waiting
abandon_refusal (Err abandon.NoMemory) = None
