-- The effect of each command of a terminal's script on the terminal, and the lines that it prints.
use Rattle.std.specs.Prelude.{◌≡◌, ◌⊎◌, ℕ, ◌<◌, ◌≤◌, zero, suc, Bool, true, false, List, [], ◌∷◌}
use Rattle.std.specs.Prelude.{◌++◌, length, Option, None, Some, codes}
use Rattle.std.specs.Fmt.{decimal}
use Rattle.resend_store.specs.Limits.{MOST_WAITING}
use Rattle.resend_store.specs.Window.{waiting, with_put, retrieved, count_known}
use Rattle.resend_store.specs.declared.messages.Msu.{Msu}
use Rattle.resend_store.specs.declared.refusals.RetrieveError.{RetrieveError}
use Rattle.resend_store.specs.declared.refusals.RetrieveError.TheVariants as unretrieved
use Rattle.su_octets.specs.Printed.{unit_text}
use Rattle.su_octets.specs.declared.units.Unit as su
use Rattle.actor_machine.specs.Ledger.{ask}
use Rattle.actor_machine.specs.Step.{Answer, Stuck, Says}
use Rattle.actor_machine.specs.declared.event.Event.{Event}
use Rattle.actor_machine.specs.declared.event.Event.TheVariants.{Advance}
use Rattle.actor_machine.specs.declared.reply.Reply.{Reply}
use Rattle.actor_machine.specs.declared.reply.Reply.TheVariants as reply
use Rattle.link_transceiver.specs.Limits.{KEPT_MESSAGES}
use Rattle.link_transceiver.specs.Measuring.{count_of}
use Rattle.resend_store.specs.declared.measures.Measure.{Measure}
use Rattle.link_transceiver.specs.Reporting.{reported}
use Rattle.link_transceiver.specs.TransceiverState.{last_accepted}
use Rattle.link_term.specs.Machine.{Sent, offered, sent, tidied, is_low, handed_out, clear_obeyed}
use Rattle.link_term.specs.Machine.{all_reset}
use Rattle.link_term.specs.Offering.{command_event}
use Rattle.link_term.specs.link_processes_types.commands.Command.{Command}
use Rattle.link_term.specs.link_processes_types.commands.Command.TheVariants as command
use Rattle.link_term.specs.link_processes_types.processes.Processes.{Processes}
use Rattle.link_term.specs.Term.{Term, transceiver_of, ledger_of, with_processes}
use Rattle.link_term.specs.Term.{term_with_transceiver}
use Rattle.link_term.specs.Kept.{window_of, with_window}
use Rattle.link_term.specs.Hearing.{Heard}
use Rattle.link_term.specs.declared.answers.CallError.{CallError}
use Rattle.link_term.specs.declared.answers.CallError.TheVariants.{Refused, NoMemory}
use Rattle.script_links.specs.declared.orders.Order.{Order}
use Rattle.script_links.specs.declared.orders.Order.TheVariants as word
use Rattle.script_links.specs.TermCommands.{PlainTermCommand, order, unit, units, errors, line, msu}
use Rattle.script_links.specs.TermCommands.{out, ticks, told, accepted, retrieving, measuring}
use Rattle.script_links.specs.TermCommands.{counting_aborted, resetting, state, shown, expected}
use Rattle.script_book.specs.Refused.{refused_text}
use Rattle.script_book.specs.Answers.{answer_text, actor_named, state_line, value_line}
use Rattle.script_ends.specs.Told.{told_line}
use Rattle.script_ends.specs.UnitLines.{IsLineOf}

-- ---- calls that are one event of the book

-- The command to a terminal that a word names.
abbrev pub command_of : Order → Command
command_of word.Power = command.PowerOn
command_of word.Start = command.Start
command_of word.Stop = command.Stop
command_of word.Emergency = command.Emergency
command_of word.Calm = command.Calm
command_of word.Outage = command.Outage
command_of word.Back = command.Back
command_of word.Busy = command.Busy
command_of word.Free = command.Free
command_of word.Flush = command.Flush
command_of word.Continue = command.Continue
command_of word.Overload = command.Overload

-- After an event that the book takes, the actors come to rest; a refused one changes nothing.
-- Before either, room is made in the journal if fewer than half of its places are free.
abbrev pub after_reply : Reply → Event → Processes → Processes
after_reply (reply.Refused r) e h = tidied h
after_reply _ e h = offered e (tidied h)

-- No turn of a book gets stuck.
abbrev pub after_answer : Answer → Event → Processes → Processes
after_answer (Stuck x) e h = tidied h
after_answer (Says r) e h = after_reply r e h

-- The book is asked to take the event; its answer is printed as for a book script.
pub record IsAsked (e : Event) (t : Term) (text : List ℕ) (u : Term) : Type 0 where
  pub says : text ≡ answer_text (ledger_of t).set 0 (ask (tidied t.processes).book e).answer
  pub makes :
      u ≡ with_processes t (after_answer (ask (tidied t.processes).book e).answer e t.processes)

-- The line of a refused call; none if memory ran out.
abbrev pub IsRefusedLine : CallError → List ℕ → Type 0
IsRefusedLine (Refused r) text = text ≡ refused_text r
IsRefusedLine NoMemory text = ⊥

-- ---- messages to send

-- A message is queued after all others, unless there are so many that it is refused.
pub data Puts (m : Msu) (t : Term) : List ℕ → Term → Type 0 where
  taken : length (waiting (window_of t)) < MOST_WAITING
      → Puts m t (codes "ok") (with_window t (with_put (window_of t) m))
  full : MOST_WAITING ≤ length (waiting (window_of t))
      → Puts m t (codes "refused E1 Full") t

-- The octets form a message: its service information octet, then its signalling information field.
abbrev pub IsMessageOf : List ℕ → Msu → Type 0
IsMessageOf octets m = octets ≡ m.sio ∷ m.sif.items

-- The octets form no message: there are none, or more than 273, which is one octet and the 272 of a
-- signalling information field.
abbrev pub AreNoMessage : List ℕ → Type 0
AreNoMessage octets = (octets ≡ []) ⊎ (273 < length octets)

pub record IsPut (octets : List ℕ) (t : Term) (text : List ℕ) (u : Term) : Type 0 where
  pub message : Msu
  pub octets_are : IsMessageOf octets message
  pub puts : Puts message t text u

-- ---- octets of the line

-- No report is pending any more, neither a message nor a status of the link.
abbrev pub without_reports : Term → Term
without_reports t =
    term_with_transceiver t (record (transceiver_of t) { messages = []; statuses = [] })

-- The most messages are waiting.
abbrev pub IsFull : Term → Type 0
IsFull t = KEPT_MESSAGES ≤ length (transceiver_of t).messages

-- Why a terminal takes no further octet: the most messages are waiting, or memory ran out while
-- making room in the journal.
abbrev pub TakesNoMore : Term → Type 0
TakesNoMore t = IsFull t ⊎ (is_low t.processes ≡ true)

-- Octets of the line are received in parts, and all reports are taken out after each part. A part
-- has all remaining octets, or ends when the terminal takes no more.
pub data Listens : Term → List ℕ → Term → Type 0 where
  done : (t : Term) → Listens t [] t
  part : (t m u : Term) (first : ℕ) (octets more : List ℕ) → Heard t (first ∷ octets) m
      → ((more ≡ [] → ⊥) → TakesNoMore m)
      → Listens (without_reports m) more u → Listens t (first ∷ (octets ++ more)) u

-- Octets of the line are received, and reports are kept. Only if octets remain and the most
-- messages are waiting, the reports are dropped, and the other octets are received in this way.
pub data Hears : Term → List ℕ → Term → Type 0 where
  heard_all : (t u : Term) (octets : List ℕ) → Heard t octets u → Hears t octets u
  in_parts : (t m u : Term) (octets more : List ℕ) → Heard t octets m → (more ≡ [] → ⊥)
      → IsFull m → Hears (without_reports m) more u → Hears t (octets ++ more) u

-- Octets of the line are received, with reports kept or not.
abbrev pub Takes : Bool → Term → List ℕ → Term → Type 0
Takes true t octets u = Hears t octets u
Takes false t octets u = Listens t octets u

-- These octets are received n times.
pub data TakesTimes (keeps : Bool) (octets : List ℕ) : ℕ → Term → Term → Type 0 where
  never : (t : Term) → TakesTimes keeps octets zero t t
  again : (n : ℕ) (t m u : Term) → TakesTimes keeps octets n t m → Takes keeps m octets u
      → TakesTimes keeps octets (suc n) t u

-- A signal unit is received n times, given its octets without check octets.
pub record ReceivesTimes (keeps : Bool) (octets : List ℕ) (n : ℕ) (t u : Term) : Type 0 where
  pub come : List ℕ
  pub are : IsLineOf octets come
  pub takes : TakesTimes keeps come n t u

-- A signal unit with errors: an octet between two flags, which is too short (Q.703, 4.1.1).
abbrev pub error_line : List ℕ
error_line = 126 ∷ 0 ∷ 126 ∷ []

-- ---- reports

-- The next report is taken out and printed.
pub record Tells (t : Term) (text : List ℕ) (u : Term) : Type 0 where
  pub says : text ≡ told_line (reported (transceiver_of t)).report
  pub after : u ≡ term_with_transceiver t (reported (transceiver_of t)).transceiver

-- The line with the number of the message accepted last.
abbrev pub accepted_line : Term → List ℕ
accepted_line t = codes "ok " ++ decimal (last_accepted (transceiver_of t))

-- ---- retrieved messages

-- The terminal after a retrieval: it holds no messages. If messages were outstanding, its processes
-- hear that none are any more.
abbrev pub behind_retrieve : Option ℕ → Term → Term
behind_retrieve behind t = with_processes t (handed_out behind t.processes)

-- The line of a refused retrieval; none if memory ran out.
abbrev pub IsRetrieveLine : RetrieveError → List ℕ → Type 0
IsRetrieveLine unretrieved.BadAck text = text ≡ codes "refused E2 BadAck"
IsRetrieveLine unretrieved.NoMemory text = ⊥

-- Messages are retrieved: those after this number, or without a number those never sent. A number
-- that acknowledges more than was sent is refused.
pub data Retrieves (behind : Option ℕ) (t : Term) : List ℕ → Term → Type 0 where
  given : count_known (window_of t) behind ≤ (window_of t).sent
      → Retrieves behind t
      (codes "ok " ++ decimal (length (retrieved (window_of t) behind)))
      (behind_retrieve behind t)
  bad : (window_of t).sent < count_known (window_of t) behind
      → Retrieves behind t (codes "refused E2 BadAck") t

-- ---- measurements

-- The line with a count.
abbrev pub measure_line : Measure → Term → List ℕ
measure_line measure t = codes "ok " ++ decimal (count_of measure t.processes.measures)

-- The line with the number of aborted proving periods.
abbrev pub aborted_line : Term → List ℕ
aborted_line t = codes "ok " ++ decimal t.processes.aborted

-- The terminal after all counts are reset.
abbrev pub behind_reset : Term → Term
behind_reset t = with_processes t (all_reset t.processes)

-- ---- sent units

-- The buffers are cleared, if the text requested it.
abbrev pub behind_clear : Term → Term
behind_clear t = with_processes t (clear_obeyed t.processes)

-- The next unit sent, if there is one, and the terminal after it, with its buffers cleared if the
-- text requested it.
abbrev pub next_of : Term → Sent
next_of t = sent (tidied t.processes)

abbrev pub behind_next : Term → Term
behind_next t = behind_clear (with_processes t (next_of t).processes)

abbrev pub unit_line : Option su.Unit → List ℕ
unit_line None = codes "silent"
unit_line (Some u) = unit_text u

-- Up to n units are requested, and each one sent has a line. If there is none, the line `silent`
-- says so, and no more are requested.
pub data GoOut : ℕ → Term → List (List ℕ) → Term → Type 0 where
  nothing : (t : Term) → GoOut zero t [] t
  silent : (n : ℕ) (t : Term) → (next_of t).unit ≡ None
      → GoOut (suc n) t (codes "silent" ∷ []) (behind_next t)
  one_goes : (n : ℕ) (t u : Term) (x : su.Unit) (lines : List (List ℕ))
      → (next_of t).unit ≡ Some x → GoOut n (behind_next t) lines u
      → GoOut (suc n) t (unit_text x ∷ lines) u

-- ---- all commands

-- The effect of a command that prints one line, and that line; `keeps` tells whether reports are
-- kept. `out` and `expect` are excluded here.
abbrev pub Does : Bool → PlainTermCommand → Term → List ℕ → Term → Type 0
Does keeps (order o) t text u = IsAsked (command_event t.processes.names (command_of o)) t text u
Does keeps (unit octets) t text u = (text ≡ codes "ok") × ReceivesTimes keeps octets 1 t u
Does keeps (units n octets) t text u = (text ≡ codes "ok") × ReceivesTimes keeps octets n t u
Does keeps (errors n) t text u = (text ≡ codes "ok") × TakesTimes keeps error_line n t u
Does keeps (line octets) t text u = (text ≡ codes "ok") × TakesTimes keeps octets 1 t u
Does keeps (msu octets) t text u = IsPut octets t text u
Does keeps (out n) t text u = (text ≡ []) × (u ≡ t)
Does keeps (ticks n) t text u = IsAsked (Advance n) t text u
Does keeps told t text u = Tells t text u
Does keeps accepted t text u = (text ≡ accepted_line t) × (u ≡ t)
Does keeps (retrieving behind) t text u = Retrieves behind t text u
Does keeps (measuring measure) t text u = (text ≡ measure_line measure t) × (u ≡ t)
Does keeps counting_aborted t text u = (text ≡ aborted_line t) × (u ≡ t)
Does keeps resetting t text u = (text ≡ codes "ok") × (u ≡ behind_reset t)
Does keeps (state process) t text u =
    (text ≡ state_line t.processes.book (actor_named t.processes.book process)) × (u ≡ t)
Does keeps (shown process variable) t text u =
    (text ≡ value_line t.processes.book variable (actor_named t.processes.book process)) × (u ≡ t)
Does keeps (expected text) t said u = (said ≡ []) × (u ≡ t)

-- A command was done; then the buffers were cleared if the text requested it.
pub record Answers (keeps : Bool) (c : PlainTermCommand) (t : Term) (text : List ℕ) (u : Term) :
    Type 0 where
  pub middle : Term
  pub does : Does keeps c t text middle
  pub after : u ≡ behind_clear middle

pub record AnswersOne (keeps : Bool) (c : PlainTermCommand) (t : Term) (lines : List (List ℕ))
    (u : Term) : Type 0 where
  pub text : List ℕ
  pub one : lines ≡ text ∷ []
  pub answers : Answers keeps c t text u

-- A command was obeyed: its effect on a terminal, and its lines. `expect` is no command to a
-- terminal.
abbrev pub Obeys : Bool → PlainTermCommand → Term → List (List ℕ) → Term → Type 0
Obeys keeps (out n) t lines u = GoOut n t lines u
Obeys keeps (expected text) t lines u = ⊥
Obeys keeps c t lines u = AnswersOne keeps c t lines u
