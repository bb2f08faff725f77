-- The order in which a line's end reports what its terminal has to hand out. A signal unit leads
-- to at most one message. Its consequences are reported before the next unit is received. So the
-- last of the waiting messages came with that unit, and its link statuses are reported before it.
use Rattle.std.specs.Prelude.{◌≡◌, ℕ, List, [], ◌∷◌, ◌++◌, map, Option, None, Some, option_map}
use Rattle.link_transceiver.specs.declared.signals.Report.{Report}
use Rattle.link_transceiver.specs.declared.signals.Report.TheVariants.{Message, Status}
use Rattle.link_transceiver.specs.TransceiverState.{TransceiverState}
use Rattle.script_ends.specs.Term.{Term, transceiver_of, term_with_transceiver}
use Rattle.script_ends.specs.Told.{report_text}
use Rattle.line_play.specs.declared.link.end.LinkEnd.{LinkEnd}
use Rattle.line_play.specs.declared.link.turns.Turn.{Turn}

-- a message, the messages after it, and the link statuses: the last message comes last
abbrev pub last_behind : Report → List Report → List Report → List Report
last_behind message [] statuses = statuses ++ message ∷ []
last_behind message (next ∷ more) statuses = message ∷ last_behind next more statuses

abbrev pub ordered : List Report → List Report → List Report
ordered [] statuses = statuses
ordered (message ∷ more) statuses = last_behind message more statuses

-- The reports that wait, in the order in which they are made. A held message is one that the
-- terminal handed out already: it is the oldest.
abbrev pub in_turn : Option Report → TransceiverState → List Report
in_turn None h = ordered (map Message h.messages) (map Status h.statuses)
in_turn (Some held) h = last_behind held (map Message h.messages) (map Status h.statuses)

-- no message was handed out by the terminal and not reported yet
abbrev pub HoldsNone : LinkEnd → Type 0
HoldsNone l = l.held ≡ None

abbrev pub waiting : LinkEnd → List Report
waiting l = in_turn l.held (transceiver_of l.terminal)

-- the transceiver state without messages and statuses to hand out
abbrev pub with_none_left : TransceiverState → TransceiverState
with_none_left h = record h { messages = []; statuses = [] }

abbrev pub without_reports : Term → Term
without_reports t = term_with_transceiver t (with_none_left (transceiver_of t))

-- the first report is taken and the others are left; none is taken if there are none
abbrev pub IsFirst : Option Report → List Report → List Report → Type 0
IsFirst None before after = (before ≡ []) × (after ≡ [])
IsFirst (Some report) before after = before ≡ report ∷ after

-- the next report is handed out, and nothing else of the terminal changes
pub record HandsOut (l : LinkEnd) (report : Option Report) (m : LinkEnd) : Type 0 where
  pub first : IsFirst report (waiting l) (waiting m)
  pub same : without_reports m.terminal ≡ without_reports l.terminal

-- the next report is handed out as this line
pub record Tells (l : LinkEnd) (text : Option (List ℕ)) (m : LinkEnd) : Type 0 where
  pub report : Option Report
  pub hands_out : HandsOut l report m
  pub text_is : text ≡ option_map report_text report

-- ---- how the next report is found

-- the turn if a message is held and the terminal handed out this report after it
abbrev pub turn_of : Report → Report → Turn
turn_of held (Message m) = record { told = held; held = Some (Message m) }
turn_of held (Status s) = record { told = Status s; held = Some held }

-- the reports that wait if nothing is held and the terminal handed out this report
abbrev pub behind : Report → TransceiverState → List Report
behind (Message m) h = in_turn (Some (Message m)) h
behind (Status s) h = Status s ∷ in_turn None h

-- the turn reports the first of those that wait; with its held message the others are left
abbrev pub IsTurn : Option Turn → List Report → TransceiverState → Type 0
IsTurn None before h = (before ≡ []) × (in_turn None h ≡ [])
IsTurn (Some turn) before h = before ≡ turn.told ∷ in_turn turn.held h
