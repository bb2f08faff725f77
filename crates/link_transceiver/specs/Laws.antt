-- Laws of a transceiver over every list of calls.
use Rattle.std.specs.Prelude.{◌≡◌, ℕ, pos, ◌+◌, ◌≤◌, ◌&&◌, not, Bool, true, false, if◌then◌else◌}
use Rattle.std.specs.Prelude.{Option, Some, None, is_some, Result, Ok, Err, List, [], ◌∷◌, ◌++◌}
use Rattle.std.specs.Prelude.{length, take}
use Rattle.arrayvec.specs.ArrayVec.{ArrayVec}
use Rattle.resend_store.specs.Window.{Window, unacknowledged, waiting, count_by}
use Rattle.resend_store.specs.Window.{last_acknowledged}
use Rattle.resend_store.specs.Intake.{Intake}
use Rattle.resend_store.specs.declared.messages.Msu.{Msu}
use Rattle.resend_store.specs.declared.messages.Verdict.{Verdict}
use Rattle.resend_store.specs.declared.messages.Verdict.TheVariants.{Accept, Discard, Nack}
use Rattle.resend_store.specs.declared.refusals.UnitError.{UnitError}
use Rattle.su_octets.specs.Frame.{head_of}
use Rattle.su_octets.specs.declared.units.Head.{Head}
use Rattle.su_octets.specs.declared.units.Unit.{Unit}
use Rattle.su_octets.specs.declared.units.Unit.TheVariants as unit
use Rattle.link_transceiver.specs.declared.offers.UnitOut.{UnitOut}
use Rattle.link_transceiver.specs.declared.signals.Backward.{Backward}
use Rattle.link_transceiver.specs.declared.signals.EnvSignal.{EnvSignal}
use Rattle.link_transceiver.specs.declared.signals.EnvSignal.TheVariants as signal
use Rattle.link_transceiver.specs.declared.signals.Hold.{Hold}
use Rattle.link_transceiver.specs.declared.signals.Report.{Report}
use Rattle.link_transceiver.specs.declared.signals.Report.TheVariants as report
use Rattle.link_transceiver.specs.TransceiverState.{TransceiverState, is_held, kept_of, sent_of}
use Rattle.link_transceiver.specs.Effects.{effect, renewed_hold, backward_of, counted, clears}
use Rattle.link_transceiver.specs.Judging.{hears, sets_aside, accepts, hearing, fault_in}
use Rattle.link_transceiver.specs.Judging.{is_abnormal, bsn_heeded, head_heeded, fault_of, judged}
use Rattle.link_transceiver.specs.Going.{gone}
use Rattle.link_transceiver.specs.Reporting.{reported}

-- Exactly these messages leave those held for sending: they are the oldest, and were sent. No
-- remaining message newly counts as sent.
pub record Loses (gone : List Msu) (before after : Window) : Type 0 where
  pub kept : before.kept ≡ gone ++ after.kept
  pub sent : length gone + after.sent ≤ before.sent

-- the messages up to a backward number: the oldest of the sent and unacknowledged ones
abbrev pub acknowledged_messages : Window → ℕ → List Msu
acknowledged_messages w bsn = take (count_by w bsn) (unacknowledged w)

-- The messages that a fill-in or message signal unit acknowledges: none if units aren't taken, if
-- it follows an abnormal one, or if its number is abnormal.
abbrev pub acknowledged_by : TransceiverState → Head → List Msu
acknowledged_by h head =
    if h.take && not h.behind_odd && not (is_abnormal h.sender (bsn_heeded h head.bsn))
    then acknowledged_messages h.sender (bsn_heeded h head.bsn) else []

-- the messages that a unit acknowledges
abbrev pub acknowledged_of : TransceiverState → Unit → List Msu
acknowledged_of h (unit.Fisu head) = acknowledged_by h head
acknowledged_of h (unit.Msu head sio sif) = acknowledged_by h head
acknowledged_of h (unit.Lssu head status second) = []

-- Of the messages held for sending, a received unit removes those that it acknowledges, and the
-- waiting ones stay. A signal, a sent unit and a report remove none. A sent unit makes at most one
-- more message count as sent.
pub record KeepsUnacknowledged : Type 0 where
  pub on_signal : (s : EnvSignal) (h : TransceiverState) → Loses [] h.sender (effect s h).sender
  pub on_unit :
      (h : TransceiverState) (u : Unit)
      → Loses (acknowledged_of h u) h.sender (judged h u).transceiver.sender
  pub waits :
      (h : TransceiverState) (u : Unit) → waiting (judged h u).transceiver.sender ≡ waiting h.sender
  pub unit_out : (h : TransceiverState) → kept_of (gone h).transceiver ≡ kept_of h
  pub one_sent : (h : TransceiverState) → sent_of (gone h).transceiver ≤ sent_of h + 1
  pub report : (h : TransceiverState) → (reported h).transceiver.sender ≡ h.sender

-- Clear removes all messages held for sending, and counts them; no other call counts any.
pub record CountsCleared : Type 0 where
  pub clear : (h : TransceiverState) → (clears h).sender.kept ≡ []
  pub counts :
      (h : TransceiverState) → (clears h).cleared ≡ counted h.cleared (length h.sender.kept)
  pub number :
      (h : TransceiverState) → last_acknowledged (clears h).sender ≡ last_acknowledged h.sender
  pub on_signal : (s : EnvSignal) (h : TransceiverState) → (effect s h).cleared ≡ h.cleared
  pub on_unit : (h : TransceiverState) (u : Unit) → (judged h u).transceiver.cleared ≡ h.cleared
  pub unit_out : (h : TransceiverState) → (gone h).transceiver.cleared ≡ h.cleared
  pub report : (h : TransceiverState) → (reported h).transceiver.cleared ≡ h.cleared

unfoldable pub is_accept : Result Verdict UnitError → Bool
is_accept (Ok Accept) = true
is_accept (Ok Discard) = false
is_accept (Ok Nack) = false
is_accept (Err e) = false

-- whether a unit with a message goes to the receiver and is accepted there
abbrev pub is_accepted : TransceiverState → Head → Bool
is_accepted h head =
    h.take && not h.behind_odd && not (is_abnormal h.sender (bsn_heeded h head.bsn))
    && is_accept (hearing (accepts h) h.receiver (head_heeded h head) true).verdict

-- the message of a unit, if it is accepted
abbrev pub accepted_of : TransceiverState → Unit → List Msu
accepted_of h (unit.Fisu head) = []
accepted_of h (unit.Lssu head status second) = []
accepted_of h (unit.Msu head sio sif) =
    if is_accepted h head then record { sio = sio; sif = sif } ∷ [] else []

-- the message of a unit, if it carries one
abbrev pub message_in : Unit → List Msu
message_in (unit.Fisu head) = []
message_in (unit.Lssu head status second) = []
message_in (unit.Msu head sio sif) = record { sio = sio; sif = sif } ∷ []

-- the message that a report hands out, if it is one
abbrev pub message_of : Option Report → List Msu
message_of (Some (report.Message msu)) = msu ∷ []
message_of (Some (report.Status status)) = []
message_of None = []

pub data Call : Type 0 where
  Told : EnvSignal → Call
  Came : Unit → Call
  Went : Call
  Asked : Call

abbrev pub after_call : TransceiverState → Call → TransceiverState
after_call h (Told s) = effect s h
after_call h (Came u) = (judged h u).transceiver
after_call h Went = (gone h).transceiver
after_call h Asked = (reported h).transceiver

abbrev pub accepted_by : TransceiverState → Call → List Msu
accepted_by h (Told s) = []
accepted_by h (Came u) = accepted_of h u
accepted_by h Went = []
accepted_by h Asked = []

abbrev pub handed_by : TransceiverState → Call → List Msu
handed_by h (Told s) = []
handed_by h (Came u) = []
handed_by h Went = []
handed_by h Asked = message_of (reported h).report

abbrev pub after : TransceiverState → List Call → TransceiverState
after h [] = h
after h (c ∷ cs) = after (after_call h c) cs

-- the messages accepted over a list of calls, in order
abbrev pub accepted : TransceiverState → List Call → List Msu
accepted h [] = []
accepted h (c ∷ cs) = accepted_by h c ++ accepted (after_call h c) cs

-- the messages handed out over a list of calls, in order
abbrev pub handed : TransceiverState → List Call → List Msu
handed h [] = []
handed h (c ∷ cs) = handed_by h c ++ handed (after_call h c) cs

-- The messages that waited and then those accepted are those handed out and then those that wait
-- now: none lost, none twice, all in order.
abbrev pub HandsOutInOrder : Type 0
HandsOutInOrder =
    (h : TransceiverState) (cs : List Call)
    → h.messages ++ accepted h cs ≡ handed h cs ++ (after h cs).messages

-- the sent unit, if there is one, has this backward number and bit
abbrev pub Tells : Backward → Option UnitOut → Type 0
Tells b None = Prim.Unit {0}
Tells b (Some out) = ((head_of out.unit).bsn ≡ b.bsn) × ((head_of out.unit).bib ≡ b.bib)

-- While acknowledgement is withheld, each sent unit has the number and bit of when that was
-- requested. Received units don't change what is withheld.
pub record Withholds : Type 0 where
  pub begins :
      (h : TransceiverState)
      → (effect (signal.Withhold true) h).withheld ≡ Some (backward_of h.receiver)
  pub on_unit : (h : TransceiverState) (u : Unit) → (judged h u).transceiver.withheld ≡ h.withheld
  pub unit_out : (h : TransceiverState) → (gone h).transceiver.withheld ≡ h.withheld
  pub tells : (h : TransceiverState) (b : Backward) → h.withheld ≡ Some b → Tells b (gone h).out
  pub ends : (h : TransceiverState) → (effect (signal.Withhold false) h).withheld ≡ None

-- A requested busy status is sent, and then the state is as before: so it is sent once.
abbrev pub BusyGoesOutOnce : Type 0
BusyGoesOutOnce =
    (h : TransceiverState) → h.busy ≡ false
    → (gone (effect (signal.Line (pos 5)) h)).transceiver ≡ h

-- no message is sent, and none is reported as sent
abbrev pub BearsNone : Option UnitOut → Type 0
BearsNone None = Prim.Unit {0}
BearsNone (Some out) = (message_in out.unit ≡ []) × (out.offer ≡ None)

-- the hold after a signal: only a restart of both directions changes it
abbrev pub hold_after : EnvSignal → Hold → Hold
hold_after signal.Fresh x = renewed_hold x
hold_after _ x = x

-- While level 3 holds a link, no message is sent and none is accepted. Messages to send or to
-- retransmit wait. The receiver's number, bit and requests stay. Units are judged abnormal exactly
-- as without a hold. Only level 3 ends a hold or, if held until then, a restart of both directions.
-- If messages aren't to be delivered, none is accepted either, and the receiver stays.
pub record HoldsBack : Type 0 where
  pub unit_out : (h : TransceiverState) → is_held h.hold ≡ true → BearsNone (gone h).out
  pub sender :
      (h : TransceiverState) → is_held h.hold ≡ true → (gone h).transceiver.sender ≡ h.sender
  pub discards : (h : TransceiverState) (u : Unit) → accepts h ≡ false → accepted_of h u ≡ []
  pub knows :
      (h : TransceiverState) (u : Unit) → accepts h ≡ false
      → (judged h u).transceiver.receiver ≡ h.receiver
  pub on_unit :
      (h : TransceiverState) (u : Unit) → is_held h.hold ≡ true → accepted_of h u ≡ []
  pub receiver :
      (h : TransceiverState) (u : Unit) → is_held h.hold ≡ true
      → (judged h u).transceiver.receiver ≡ h.receiver
  pub faults :
      (r : Intake) (head : Head) (has_msu : Bool)
      → fault_in (sets_aside r head.fib).verdict
      ≡ fault_in (hears r head.fsn head.fib has_msu).verdict
  pub stays_in : (h : TransceiverState) (u : Unit) → (judged h u).transceiver.hold ≡ h.hold
  pub stays_out : (h : TransceiverState) → (gone h).transceiver.hold ≡ h.hold
  pub stays_told : (h : TransceiverState) → (reported h).transceiver.hold ≡ h.hold
  pub on_signal :
      (s : EnvSignal) (h : TransceiverState) → (effect s h).hold ≡ hold_after s h.hold

-- If Odd reports faults, the fill-in or message signal unit after an abnormal one acknowledges
-- nothing, requests nothing and isn't accepted. After a normal one it is taken as usual. A unit
-- whose only fault is its forward indicator has already acknowledged.
pub record DiscardsBehindOdd : Type 0 where
  pub fill_in :
      (h : TransceiverState) (head : Head) → h.odd ≡ true → h.take ≡ true
      → (judged h (unit.Fisu head)).transceiver.behind_odd
      ≡ is_some (fault_of h (head_heeded h head))
  pub message :
      (h : TransceiverState) (head : Head) (sio : ℕ) (sif : ArrayVec ℕ) → h.odd ≡ true
      → h.take ≡ true
      → (judged h (unit.Msu head sio sif)).transceiver.behind_odd
      ≡ is_some (fault_of h (head_heeded h head))
  pub status :
      (h : TransceiverState) (head : Head) (status : ℕ) (second : Option ℕ)
      → (judged h (unit.Lssu head status second)).transceiver.behind_odd ≡ h.behind_odd
  pub aside :
      (h : TransceiverState) (u : Unit) → h.take ≡ false
      → (judged h u).transceiver.behind_odd ≡ h.behind_odd
  pub sender :
      (h : TransceiverState) (u : Unit) → h.behind_odd ≡ true
      → (judged h u).transceiver.sender ≡ h.sender
  pub receiver :
      (h : TransceiverState) (u : Unit) → h.behind_odd ≡ true
      → (judged h u).transceiver.receiver ≡ h.receiver
  pub accepted :
      (h : TransceiverState) (u : Unit) → h.behind_odd ≡ true → accepted_of h u ≡ []
  pub named : (h : TransceiverState) (u : Unit) → (judged h u).transceiver.odd ≡ h.odd
  pub unnamed :
      (h : TransceiverState) (u : Unit) → h.odd ≡ false → h.behind_odd ≡ false
      → (judged h u).transceiver.behind_odd ≡ false
