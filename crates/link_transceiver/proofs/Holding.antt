-- A link that level 3 holds.
use Rattle.std.proofs.Common.{◌≡◌, ℤ, ◌&&◌, Bool, true, false, not, Option, Some, None, List, [], ◌∷◌, slice_get, is_some, refl}
use Rattle.std.specs.Prelude.{if◌then◌else◌}
use Rattle.resend_store.specs.declared.messages.Msu.{Msu}
use Rattle.su_octets.specs.declared.units.Head.{Head}
use Rattle.su_octets.specs.declared.units.Unit.{Unit}
use Rattle.su_octets.specs.declared.units.Unit.TheVariants as unit
use Rattle.link_transceiver.specs.declared.signals.EnvSignal.{EnvSignal}
use Rattle.link_transceiver.specs.declared.signals.EnvSignal.TheVariants as signal
use Rattle.link_transceiver.specs.declared.signals.Hold.{Hold}
use Rattle.link_transceiver.specs.declared.signals.LineKind.{LineKind}
use Rattle.link_transceiver.specs.declared.signals.LineKind.TheVariants as kind
use Rattle.link_transceiver.specs.declared.signals.LinkStatus.{LinkStatus}
use Rattle.link_transceiver.specs.Limits.{BUSY_CODE}
use Rattle.link_transceiver.specs.TransceiverState.{TransceiverState, is_held}
use Rattle.link_transceiver.specs.Effects.{effect, renewed, directed, told, sends, kind_named, is_busy_named}
use Rattle.link_transceiver.specs.Judging.{Judged, judged, by_stores, through, left_aside, Stored, stored, refused, taken, heard, discarded, bsn_heeded, head_heeded, accepts, hearing, is_abnormal}
use Rattle.link_transceiver.specs.Going.{Gone, gone, gone_by, gives, status_gone, fill_in_gone, sender_gone}
use Rattle.link_transceiver.specs.Reporting.{reported, message_reported, status_reported}
use Rattle.link_transceiver.specs.Laws.{BearsNone, HoldsBack, hold_after, accepted_of, is_accept, is_accepted}
use Rattle.link_transceiver.proofs.Aside.{none_accepted, known_aside, held_accepts, same_fault}

-- ---- sent units

message-bears : (h : TransceiverState) (held : Bool) → held ≡ true → BearsNone (if◌then◌else◌ {A = Gone} held (fill_in_gone h) (sender_gone h (gives h.sender))).out
message-bears h true e = (refl, refl)
message-bears h false e = absurd (cc)

gone_by-bears : (h : TransceiverState) (line : Option LineKind) → is_held h.hold ≡ true → BearsNone (gone_by h line).out
gone_by-bears h None e = tt
gone_by-bears h (Some (kind.Status code)) e = (refl, refl)
gone_by-bears h (Some kind.FillIn) e = (refl, refl)
gone_by-bears h (Some kind.Messages) e = message-bears h (is_held h.hold) e

gone-bears : (h : TransceiverState) → is_held h.hold ≡ true → BearsNone (gone h).out
unfolding gone
gone-bears h e = elim h.busy
    as (λ b. BearsNone (if b then status_gone (record h { busy = false }) BUSY_CODE else gone_by h h.line).out)
    [ true ↦ (refl, refl) | false ↦ gone_by-bears h h.line e ]

message-sender : (h : TransceiverState) (held : Bool) → held ≡ true →
    (if◌then◌else◌ {A = Gone} held (fill_in_gone h) (sender_gone h (gives h.sender))).transceiver.sender ≡ h.sender
message-sender h true e = refl
message-sender h false e = absurd (cc)

gone_by-sender : (h : TransceiverState) (line : Option LineKind) → is_held h.hold ≡ true → (gone_by h line).transceiver.sender ≡ h.sender
gone_by-sender h None e = refl
gone_by-sender h (Some (kind.Status code)) e = refl
gone_by-sender h (Some kind.FillIn) e = refl
gone_by-sender h (Some kind.Messages) e = message-sender h (is_held h.hold) e

gone-sender : (h : TransceiverState) → is_held h.hold ≡ true → (gone h).transceiver.sender ≡ h.sender
unfolding gone
gone-sender h e = elim h.busy
    as (λ b. (if b then status_gone (record h { busy = false }) BUSY_CODE else gone_by h h.line).transceiver.sender ≡ h.sender)
    [ true ↦ refl | false ↦ gone_by-sender h h.line e ]

message-hold : (h : TransceiverState) (held : Bool) → (if◌then◌else◌ {A = Gone} held (fill_in_gone h) (sender_gone h (gives h.sender))).transceiver.hold ≡ h.hold
message-hold h true = refl
message-hold h false = refl

gone_by-hold : (h : TransceiverState) (line : Option LineKind) → (gone_by h line).transceiver.hold ≡ h.hold
gone_by-hold h None = refl
gone_by-hold h (Some (kind.Status code)) = refl
gone_by-hold h (Some kind.FillIn) = refl
gone_by-hold h (Some kind.Messages) = message-hold h (is_held h.hold)

gone-hold : (h : TransceiverState) → (gone h).transceiver.hold ≡ h.hold
unfolding gone
gone-hold h = elim h.busy
    as (λ b. (if b then status_gone (record h { busy = false }) BUSY_CODE else gone_by h h.line).transceiver.hold ≡ h.hold)
    [ true ↦ refl | false ↦ gone_by-hold h h.line ]

-- ---- received units

none_if : (a b c d : Bool) (ms : List Msu) → d ≡ false → (if a && b && c && d then ms else []) ≡ []
none_if true true true true ms e = absurd (cc)
none_if true true true false ms e = refl
none_if true true false d ms e = refl
none_if true false c d ms e = refl
none_if false b c d ms e = refl

judged-accepts : (h : TransceiverState) (u : Unit) → accepts h ≡ false → accepted_of h u ≡ []
judged-accepts h (unit.Fisu head) e = refl
judged-accepts h (unit.Lssu head status second) e = refl
judged-accepts h (unit.Msu head sio sif) e =
    none_if h.take (not h.behind_odd) (not (is_abnormal h.sender (bsn_heeded h head.bsn))) (is_accept (hearing (accepts h) h.receiver (head_heeded h head) true).verdict) (record { sio = sio; sif = sif } ∷ [])
    (none_accepted (accepts h) h.receiver (head_heeded h head) true e)

stored-receiver : (h : TransceiverState) (head : Head) (msu : Option Msu) → accepts h ≡ false → (stored h head msu).transceiver.receiver ≡ h.receiver
unfolding stored
stored-receiver h head msu e = elim (is_abnormal h.sender head.bsn)
    as (λ b. (if◌then◌else◌ {A = Stored} b (refused h) (taken h head msu)).transceiver.receiver ≡ h.receiver)
    [ true ↦ refl | false ↦ known_aside (accepts h) h.receiver head (is_some msu) e ]

heard-receiver : (h : TransceiverState) (head : Head) (msu : Option Msu) → accepts h ≡ false → (heard h head msu).transceiver.receiver ≡ h.receiver
unfolding heard
heard-receiver h head msu e = elim h.behind_odd
    as (λ b. (if◌then◌else◌ {A = Stored} b (discarded h (head_heeded h head)) (stored h (head_heeded h head) msu)).transceiver.receiver ≡ h.receiver)
    [ true ↦ refl | false ↦ stored-receiver h (head_heeded h head) msu e ]

by_stores-receiver : (h : TransceiverState) (head : Head) (msu : Option Msu) → accepts h ≡ false → (by_stores h head msu).transceiver.receiver ≡ h.receiver
unfolding by_stores
by_stores-receiver h head msu e = elim h.take
    as (λ b. (if◌then◌else◌ {A = Judged} b (through h (heard h head msu)) (left_aside 8 h)).transceiver.receiver ≡ h.receiver)
    [ true ↦ heard-receiver h head msu e | false ↦ refl ]

judged-receiver : (h : TransceiverState) (u : Unit) → accepts h ≡ false → (judged h u).transceiver.receiver ≡ h.receiver
unfolding judged
judged-receiver h (unit.Fisu head) e = by_stores-receiver h head None e
judged-receiver h (unit.Msu head sio sif) e = by_stores-receiver h head (Some (record { sio = sio; sif = sif })) e
judged-receiver h (unit.Lssu head status second) e = refl

stored-hold : (h : TransceiverState) (head : Head) (msu : Option Msu) → (stored h head msu).transceiver.hold ≡ h.hold
unfolding stored
stored-hold h head msu = elim (is_abnormal h.sender head.bsn)
    as (λ b. (if◌then◌else◌ {A = Stored} b (refused h) (taken h head msu)).transceiver.hold ≡ h.hold)
    [ true ↦ refl | false ↦ refl ]

heard-hold : (h : TransceiverState) (head : Head) (msu : Option Msu) → (heard h head msu).transceiver.hold ≡ h.hold
unfolding heard
heard-hold h head msu = elim h.behind_odd
    as (λ b. (if◌then◌else◌ {A = Stored} b (discarded h (head_heeded h head)) (stored h (head_heeded h head) msu)).transceiver.hold ≡ h.hold)
    [ true ↦ refl | false ↦ stored-hold h (head_heeded h head) msu ]

by_stores-hold : (h : TransceiverState) (head : Head) (msu : Option Msu) → (by_stores h head msu).transceiver.hold ≡ h.hold
unfolding by_stores
by_stores-hold h head msu = elim h.take
    as (λ b. (if◌then◌else◌ {A = Judged} b (through h (heard h head msu)) (left_aside 8 h)).transceiver.hold ≡ h.hold)
    [ true ↦ heard-hold h head msu | false ↦ refl ]

judged-hold : (h : TransceiverState) (u : Unit) → (judged h u).transceiver.hold ≡ h.hold
unfolding judged
judged-hold h (unit.Fisu head) = by_stores-hold h head None
judged-hold h (unit.Msu head sio sif) = by_stores-hold h head (Some (record { sio = sio; sif = sif }))
judged-hold h (unit.Lssu head status second) = refl

-- ---- reports and signals

status-hold : (h : TransceiverState) (o : Option LinkStatus) → (status_reported h o).transceiver.hold ≡ h.hold
status-hold h (Some status) = refl
status-hold h None = refl

message_reported-hold : (h : TransceiverState) (o : Option Msu) → (message_reported h o).transceiver.hold ≡ h.hold
message_reported-hold h (Some msu) = refl
message_reported-hold h None = status-hold h (slice_get h.statuses 0)

reported-hold : (h : TransceiverState) → (reported h).transceiver.hold ≡ h.hold
unfolding reported
reported-hold h = message_reported-hold h (slice_get h.messages 0)

sends-hold : (k : Option LineKind) (h : TransceiverState) → (sends k h).hold ≡ h.hold
sends-hold (Some k) h = refl
sends-hold None h = refl

directed-hold : (number : ℤ) (h : TransceiverState) → (directed number h).hold ≡ h.hold
unfolding directed
directed-hold number h = elim (is_busy_named number)
    as (λ b. (if b then record h { busy = true } else sends (kind_named number) h).hold ≡ h.hold)
    [ true ↦ refl | false ↦ sends-hold (kind_named number) h ]

effect-hold : (s : EnvSignal) (h : TransceiverState) → (effect s h).hold ≡ hold_after s h.hold
unfolding effect renewed told
effect-hold signal.Fresh h = refl
effect-hold (signal.Take on) h = refl
effect-hold (signal.Deliver on) h = refl
effect-hold (signal.Line number) h = directed-hold number h
effect-hold (signal.Withhold true) h = refl
effect-hold (signal.Withhold false) h = refl
effect-hold signal.InServiceNow h = refl
effect-hold (signal.Down reason) h = refl
effect-hold signal.RemoteOut h = refl
effect-hold signal.RemoteBack h = refl
effect-hold signal.Clear h = refl
effect-hold signal.Cleared h = refl

pub holds_back : HoldsBack
holds_back = record {
  unit_out = gone-bears;
  sender = gone-sender;
  discards = judged-accepts;
  knows = judged-receiver;
  on_unit = λ h u e. judged-accepts h u (held_accepts h.deliver (is_held h.hold) e);
  receiver = λ h u e. judged-receiver h u (held_accepts h.deliver (is_held h.hold) e);
  faults = same_fault;
  stays_in = judged-hold;
  stays_out = gone-hold;
  stays_told = reported-hold;
  on_signal = effect-hold;
}
