-- Units after an abnormal one, and how many messages are cleared.
use Rattle.std.proofs.Common.{◌≡◌, ℕ, ℤ, ◌&&◌, Bool, true, false, not, Option, Some, None, List, [], ◌∷◌, slice_get, is_some, refl, sym, ap, ◌∙◌, arith}
use Rattle.std.specs.Prelude.{if◌then◌else◌}
use Rattle.arrayvec.specs.ArrayVec.{ArrayVec}
use Rattle.resend_store.specs.Intake.{Hearing}
use Rattle.resend_store.specs.declared.messages.Msu.{Msu}
use Rattle.resend_store.specs.Window.{last_acknowledged}
use Rattle.su_octets.specs.declared.units.Head.{Head}
use Rattle.su_octets.specs.declared.units.Unit.{Unit}
use Rattle.su_octets.specs.declared.units.Unit.TheVariants as unit
use Rattle.link_transceiver.specs.declared.faults.Fault.{Fault}
use Rattle.link_transceiver.specs.declared.faults.Fault.TheVariants.{AbnormalBsn}
use Rattle.link_transceiver.specs.declared.signals.EnvSignal.{EnvSignal}
use Rattle.link_transceiver.specs.declared.signals.EnvSignal.TheVariants as signal
use Rattle.link_transceiver.specs.declared.signals.LineKind.{LineKind}
use Rattle.link_transceiver.specs.declared.signals.LineKind.TheVariants as kind
use Rattle.link_transceiver.specs.declared.signals.LinkStatus.{LinkStatus}
use Rattle.link_transceiver.specs.Limits.{BUSY_CODE}
use Rattle.link_transceiver.specs.TransceiverState.{TransceiverState, is_held}
use Rattle.link_transceiver.specs.Effects.{effect, renewed, directed, told, sends, kind_named, is_busy_named, clears}
use Rattle.link_transceiver.specs.Judging.{Judged, judged, by_stores, through, left_aside, Stored, stored, refused, taken, led, heard, discarded, fault_of, fault_in, hears, sets_aside, bsn_heeded, head_heeded, accepts, hearing, is_abnormal}
use Rattle.link_transceiver.specs.Going.{Gone, gone, gone_by, gives, status_gone, fill_in_gone, sender_gone}
use Rattle.link_transceiver.specs.Reporting.{reported, message_reported, status_reported}
use Rattle.link_transceiver.specs.Laws.{CountsCleared, DiscardsBehindOdd, accepted_of, is_accept}
use Rattle.link_transceiver.proofs.Aside.{same_fault}

-- ---- after an abnormal unit

none_behind : (a b c d : Bool) (ms : List Msu) → b ≡ true → (if a && not b && c && d then ms else []) ≡ []
none_behind true true c d ms e = refl
none_behind true false c d ms e = absurd (cc)
none_behind false b c d ms e = refl

behind-accepted : (h : TransceiverState) (u : Unit) → h.behind_odd ≡ true → accepted_of h u ≡ []
behind-accepted h (unit.Fisu head) e = refl
behind-accepted h (unit.Lssu head status second) e = refl
behind-accepted h (unit.Msu head sio sif) e =
    none_behind h.take h.behind_odd (not (is_abnormal h.sender (bsn_heeded h head.bsn))) (is_accept (hearing (accepts h) h.receiver (head_heeded h head) true).verdict)
    (record { sio = sio; sif = sif } ∷ []) e

behind_by : (h : TransceiverState) (head : Head) (msu : Option Msu) (b : Bool) → b ≡ true →
    (let s = if◌then◌else◌ {A = Stored} b (discarded h head) (stored h head msu) in
    (s.transceiver.sender ≡ h.sender) × (s.transceiver.receiver ≡ h.receiver))
behind_by h head msu true e = (refl, refl)
behind_by h head msu false e = absurd (cc)

heard-behind : (h : TransceiverState) (head : Head) (msu : Option Msu) → h.behind_odd ≡ true →
    ((heard h head msu).transceiver.sender ≡ h.sender) × ((heard h head msu).transceiver.receiver ≡ h.receiver)
unfolding heard
heard-behind h head msu e = behind_by h (head_heeded h head) msu h.behind_odd e

by_stores-behind : (h : TransceiverState) (head : Head) (msu : Option Msu) → h.behind_odd ≡ true →
    ((by_stores h head msu).transceiver.sender ≡ h.sender) × ((by_stores h head msu).transceiver.receiver ≡ h.receiver)
unfolding by_stores
by_stores-behind h head msu e = elim h.take
    as (λ b. (let j = if◌then◌else◌ {A = Judged} b (through h (heard h head msu)) (left_aside 8 h) in
    (j.transceiver.sender ≡ h.sender) × (j.transceiver.receiver ≡ h.receiver)))
    [ true ↦ heard-behind h head msu e | false ↦ (refl, refl) ]

judged-behind : (h : TransceiverState) (u : Unit) → h.behind_odd ≡ true →
    ((judged h u).transceiver.sender ≡ h.sender) × ((judged h u).transceiver.receiver ≡ h.receiver)
unfolding judged
judged-behind h (unit.Fisu head) e = by_stores-behind h head None e
judged-behind h (unit.Msu head sio sif) e = by_stores-behind h head (Some (record { sio = sio; sif = sif })) e
judged-behind h (unit.Lssu head status second) e = (refl, refl)

-- ---- whether Odd reports faults, and the count of cleared messages

-- two fields that a unit doesn't change
record Leaves (h k : TransceiverState) : Type 0 where
  odd : k.odd ≡ h.odd
  cleared : k.cleared ≡ h.cleared

stored-leaves : (h : TransceiverState) (head : Head) (msu : Option Msu) → Leaves h (stored h head msu).transceiver
unfolding stored
stored-leaves h head msu = elim (is_abnormal h.sender head.bsn)
    as (λ b. Leaves h (if◌then◌else◌ {A = Stored} b (refused h) (taken h head msu)).transceiver)
    [ true ↦ record { odd = refl; cleared = refl } | false ↦ record { odd = refl; cleared = refl } ]

heard_by-leaves : (h : TransceiverState) (head : Head) (msu : Option Msu) (b : Bool) →
    Leaves h (if◌then◌else◌ {A = Stored} b (discarded h head) (stored h head msu)).transceiver
heard_by-leaves h head msu true = record { odd = refl; cleared = refl }
heard_by-leaves h head msu false = stored-leaves h head msu

heard-leaves : (h : TransceiverState) (head : Head) (msu : Option Msu) → Leaves h (heard h head msu).transceiver
unfolding heard
heard-leaves h head msu =
    let l = heard_by-leaves h (head_heeded h head) msu h.behind_odd in record { odd = l.odd; cleared = l.cleared }

by_stores-leaves : (h : TransceiverState) (head : Head) (msu : Option Msu) → Leaves h (by_stores h head msu).transceiver
unfolding by_stores
by_stores-leaves h head msu = elim h.take
    as (λ b. Leaves h (if◌then◌else◌ {A = Judged} b (through h (heard h head msu)) (left_aside 8 h)).transceiver)
    [ true ↦ heard-leaves h head msu | false ↦ record { odd = refl; cleared = refl } ]

judged-leaves : (h : TransceiverState) (u : Unit) → Leaves h (judged h u).transceiver
unfolding judged
judged-leaves h (unit.Fisu head) = by_stores-leaves h head None
judged-leaves h (unit.Msu head sio sif) = by_stores-leaves h head (Some (record { sio = sio; sif = sif }))
judged-leaves h (unit.Lssu head status second) = record { odd = refl; cleared = refl }

-- if Odd doesn't report faults, no unit counts as one after an abnormal one
heard-unnamed : (h : TransceiverState) (head : Head) (msu : Option Msu) → h.odd ≡ false → (heard h head msu).transceiver.behind_odd ≡ false
unfolding heard
heard-unnamed h head msu e = rw e refl

by_stores-unnamed : (h : TransceiverState) (head : Head) (msu : Option Msu) → h.odd ≡ false → h.behind_odd ≡ false → (by_stores h head msu).transceiver.behind_odd ≡ false
unfolding by_stores
by_stores-unnamed h head msu e f = elim h.take
    as (λ b. (if◌then◌else◌ {A = Judged} b (through h (heard h head msu)) (left_aside 8 h)).transceiver.behind_odd ≡ false)
    [ true ↦ heard-unnamed h head msu e | false ↦ f ]

judged-unnamed : (h : TransceiverState) (u : Unit) → h.odd ≡ false → h.behind_odd ≡ false → (judged h u).transceiver.behind_odd ≡ false
unfolding judged
judged-unnamed h (unit.Fisu head) e f = by_stores-unnamed h head None e f
judged-unnamed h (unit.Msu head sio sif) e f = by_stores-unnamed h head (Some (record { sio = sio; sif = sif })) e f
judged-unnamed h (unit.Lssu head status second) e f = f

-- ---- which units follow an abnormal one

taken-fault : (h : TransceiverState) (head : Head) (msu : Option Msu) → (taken h head msu).fault ≡ fault_in (sets_aside h.receiver head.fib).verdict
unfolding hearing
taken-fault h head msu = elim (accepts h)
    as (λ b. fault_in (if◌then◌else◌ {A = Hearing} b (hears h.receiver head.fsn head.fib (is_some msu)) (sets_aside h.receiver head.fib)).verdict
    ≡ fault_in (sets_aside h.receiver head.fib).verdict)
    [ true ↦ sym (same_fault h.receiver head (is_some msu)) | false ↦ refl ]

stored-fault : (h : TransceiverState) (head : Head) (msu : Option Msu) → (stored h head msu).fault ≡ fault_of h head
unfolding stored fault_of
stored-fault h head msu = elim (is_abnormal h.sender head.bsn)
    as (λ b. (if◌then◌else◌ {A = Stored} b (refused h) (taken h head msu)).fault
    ≡ (if◌then◌else◌ {A = Option Fault} b (Some AbnormalBsn) (fault_in (sets_aside h.receiver head.fib).verdict)))
    [ true ↦ refl | false ↦ taken-fault h head msu ]

led-fault : (h : TransceiverState) (head : Head) (msu : Option Msu) (b : Bool) →
    (if◌then◌else◌ {A = Stored} b (discarded h head) (stored h head msu)).fault ≡ fault_of h head
led-fault h head msu true = refl
led-fault h head msu false = stored-fault h head msu

heard-mark : (h : TransceiverState) (head : Head) (msu : Option Msu) → h.odd ≡ true →
    (heard h head msu).transceiver.behind_odd ≡ is_some (fault_of h (head_heeded h head))
unfolding heard
heard-mark h head msu e =
    ap (λ (b : Bool). b && is_some (led h (head_heeded h head) msu).fault) e ∙ ap (λ (o : Option Fault). is_some o) (led-fault h (head_heeded h head) msu h.behind_odd)

by_stores-mark : (h : TransceiverState) (head : Head) (msu : Option Msu) → h.odd ≡ true → h.take ≡ true →
    (by_stores h head msu).transceiver.behind_odd ≡ is_some (fault_of h (head_heeded h head))
unfolding by_stores
by_stores-mark h head msu e f =
    ap (λ (b : Bool). (if◌then◌else◌ {A = Judged} b (through h (heard h head msu)) (left_aside 8 h)).transceiver.behind_odd) f ∙ heard-mark h head msu e

by_stores-aside : (h : TransceiverState) (head : Head) (msu : Option Msu) → h.take ≡ false → (by_stores h head msu).transceiver.behind_odd ≡ h.behind_odd
unfolding by_stores
by_stores-aside h head msu f =
    ap (λ (b : Bool). (if◌then◌else◌ {A = Judged} b (through h (heard h head msu)) (left_aside 8 h)).transceiver.behind_odd) f

fill_in-mark : (h : TransceiverState) (head : Head) → h.odd ≡ true → h.take ≡ true →
    (judged h (unit.Fisu head)).transceiver.behind_odd ≡ is_some (fault_of h (head_heeded h head))
unfolding judged
fill_in-mark h head e f = by_stores-mark h head None e f

message-mark : (h : TransceiverState) (head : Head) (sio : ℕ) (sif : ArrayVec ℕ) → h.odd ≡ true → h.take ≡ true →
    (judged h (unit.Msu head sio sif)).transceiver.behind_odd ≡ is_some (fault_of h (head_heeded h head))
unfolding judged
message-mark h head sio sif e f = by_stores-mark h head (Some (record { sio = sio; sif = sif })) e f

status-mark : (h : TransceiverState) (head : Head) (status : ℕ) (second : Option ℕ) →
    (judged h (unit.Lssu head status second)).transceiver.behind_odd ≡ h.behind_odd
unfolding judged
status-mark h head status second = refl

judged-aside : (h : TransceiverState) (u : Unit) → h.take ≡ false → (judged h u).transceiver.behind_odd ≡ h.behind_odd
unfolding judged
judged-aside h (unit.Fisu head) f = by_stores-aside h head None f
judged-aside h (unit.Msu head sio sif) f = by_stores-aside h head (Some (record { sio = sio; sif = sif })) f
judged-aside h (unit.Lssu head status second) f = refl

pub discards_behind_odd : DiscardsBehindOdd
discards_behind_odd = record {
  fill_in = fill_in-mark;
  message = message-mark;
  status = status-mark;
  aside = judged-aside;
  sender = λ h u e. (judged-behind h u e).0;
  receiver = λ h u e. (judged-behind h u e).1;
  accepted = behind-accepted;
  named = λ h u. (judged-leaves h u).odd;
  unnamed = judged-unnamed;
}

-- ---- other calls don't change the count

message-cleared : (h : TransceiverState) (b : Bool) → (if◌then◌else◌ {A = Gone} b (fill_in_gone h) (sender_gone h (gives h.sender))).transceiver.cleared ≡ h.cleared
message-cleared h true = refl
message-cleared h false = refl

gone_by-cleared : (h : TransceiverState) (line : Option LineKind) → (gone_by h line).transceiver.cleared ≡ h.cleared
gone_by-cleared h None = refl
gone_by-cleared h (Some (kind.Status code)) = refl
gone_by-cleared h (Some kind.FillIn) = refl
gone_by-cleared h (Some kind.Messages) = message-cleared h (is_held h.hold)

gone-cleared : (h : TransceiverState) → (gone h).transceiver.cleared ≡ h.cleared
unfolding gone
gone-cleared h = elim h.busy
    as (λ b. (if b then status_gone (record h { busy = false }) BUSY_CODE else gone_by h h.line).transceiver.cleared ≡ h.cleared)
    [ true ↦ refl | false ↦ gone_by-cleared h h.line ]

status-cleared : (h : TransceiverState) (o : Option LinkStatus) → (status_reported h o).transceiver.cleared ≡ h.cleared
status-cleared h (Some status) = refl
status-cleared h None = refl

message_reported-cleared : (h : TransceiverState) (o : Option Msu) → (message_reported h o).transceiver.cleared ≡ h.cleared
message_reported-cleared h (Some msu) = refl
message_reported-cleared h None = status-cleared h (slice_get h.statuses 0)

reported-cleared : (h : TransceiverState) → (reported h).transceiver.cleared ≡ h.cleared
unfolding reported
reported-cleared h = message_reported-cleared h (slice_get h.messages 0)

sends-cleared : (k : Option LineKind) (h : TransceiverState) → (sends k h).cleared ≡ h.cleared
sends-cleared (Some k) h = refl
sends-cleared None h = refl

directed-cleared : (number : ℤ) (h : TransceiverState) → (directed number h).cleared ≡ h.cleared
unfolding directed
directed-cleared number h = elim (is_busy_named number)
    as (λ b. (if b then record h { busy = true } else sends (kind_named number) h).cleared ≡ h.cleared)
    [ true ↦ refl | false ↦ sends-cleared (kind_named number) h ]

effect-cleared : (s : EnvSignal) (h : TransceiverState) → (effect s h).cleared ≡ h.cleared
unfolding effect renewed told
effect-cleared signal.Fresh h = refl
effect-cleared (signal.Take on) h = refl
effect-cleared (signal.Deliver on) h = refl
effect-cleared (signal.Line number) h = directed-cleared number h
effect-cleared (signal.Withhold true) h = refl
effect-cleared (signal.Withhold false) h = refl
effect-cleared signal.InServiceNow h = refl
effect-cleared (signal.Down reason) h = refl
effect-cleared signal.RemoteOut h = refl
effect-cleared signal.RemoteBack h = refl
effect-cleared signal.Clear h = refl
effect-cleared signal.Cleared h = refl

clear-number : (h : TransceiverState) → last_acknowledged (clears h).sender ≡ last_acknowledged h.sender
unfolding clears
clear-number h = omega arith

pub counts_cleared : CountsCleared
unfolding clears
counts_cleared = record {
  clear = λ h. refl;
  counts = λ h. refl;
  number = clear-number;
  on_signal = effect-cleared;
  on_unit = λ h u. (judged-leaves h u).cleared;
  unit_out = gone-cleared;
  report = reported-cleared;
}
