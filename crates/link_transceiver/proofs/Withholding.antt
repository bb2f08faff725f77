-- The units sent while acknowledgement is withheld.
use Rattle.std.proofs.Common.{◌≡◌, ℕ, Bool, true, false, Option, Some, None, refl, ap}
use Rattle.std.specs.Prelude.{if◌then◌else◌, unwrap_or}
use Rattle.resend_store.specs.declared.messages.Msu.{Msu}
use Rattle.resend_store.specs.Window.{Sending}
use Rattle.su_octets.specs.declared.units.Head.{Head}
use Rattle.su_octets.specs.declared.units.Unit.{Unit}
use Rattle.su_octets.specs.declared.units.Unit.TheVariants as unit
use Rattle.link_transceiver.specs.declared.signals.Backward.{Backward}
use Rattle.link_transceiver.specs.declared.signals.LineKind.{LineKind}
use Rattle.link_transceiver.specs.declared.signals.LineKind.TheVariants as kind
use Rattle.link_transceiver.specs.Limits.{BUSY_CODE}
use Rattle.link_transceiver.specs.TransceiverState.{TransceiverState, is_held}
use Rattle.link_transceiver.specs.Effects.{effect, backward_of}
use Rattle.link_transceiver.specs.Judging.{Judged, judged, by_stores, through, left_aside, Stored, stored, refused, taken, heard, discarded, head_heeded, is_abnormal}
use Rattle.link_transceiver.specs.Going.{Gone, gone, gone_by, gives, head_with, idle_head, idle_fsn, filled, status_gone, fill_in_gone, sender_gone}
use Rattle.link_transceiver.specs.Laws.{Tells, Withholds}

-- ---- received units

stored-withheld : (h : TransceiverState) (head : Head) (msu : Option Msu) → (stored h head msu).transceiver.withheld ≡ h.withheld
unfolding stored
stored-withheld h head msu = elim (is_abnormal h.sender head.bsn)
    as (λ b. (if◌then◌else◌ {A = Stored} b (refused h) (taken h head msu)).transceiver.withheld ≡ h.withheld)
    [ true ↦ refl | false ↦ refl ]

heard-withheld : (h : TransceiverState) (head : Head) (msu : Option Msu) → (heard h head msu).transceiver.withheld ≡ h.withheld
unfolding heard
heard-withheld h head msu = elim h.behind_odd
    as (λ b. (if◌then◌else◌ {A = Stored} b (discarded h (head_heeded h head)) (stored h (head_heeded h head) msu)).transceiver.withheld ≡ h.withheld)
    [ true ↦ refl | false ↦ stored-withheld h (head_heeded h head) msu ]

by_stores-withheld : (h : TransceiverState) (head : Head) (msu : Option Msu) → (by_stores h head msu).transceiver.withheld ≡ h.withheld
unfolding by_stores
by_stores-withheld h head msu = elim h.take
    as (λ b. (if◌then◌else◌ {A = Judged} b (through h (heard h head msu)) (left_aside 8 h)).transceiver.withheld ≡ h.withheld)
    [ true ↦ heard-withheld h head msu | false ↦ refl ]

judged-withheld : (h : TransceiverState) (u : Unit) → (judged h u).transceiver.withheld ≡ h.withheld
unfolding judged
judged-withheld h (unit.Fisu head) = by_stores-withheld h head None
judged-withheld h (unit.Msu head sio sif) = by_stores-withheld h head (Some (record { sio = sio; sif = sif }))
judged-withheld h (unit.Lssu head status second) = refl

-- ---- sent units

message-withheld : (h : TransceiverState) (b : Bool) → (if◌then◌else◌ {A = Gone} b (fill_in_gone h) (sender_gone h (gives h.sender))).transceiver.withheld ≡ h.withheld
message-withheld h true = refl
message-withheld h false = refl

gone_by-withheld : (h : TransceiverState) (line : Option LineKind) → (gone_by h line).transceiver.withheld ≡ h.withheld
gone_by-withheld h None = refl
gone_by-withheld h (Some (kind.Status code)) = refl
gone_by-withheld h (Some kind.FillIn) = refl
gone_by-withheld h (Some kind.Messages) = message-withheld h (is_held h.hold)

gone-withheld : (h : TransceiverState) → (gone h).transceiver.withheld ≡ h.withheld
unfolding gone
gone-withheld h = elim h.busy
    as (λ b. (if b then status_gone (record h { busy = false }) BUSY_CODE else gone_by h h.line).transceiver.withheld ≡ h.withheld)
    [ true ↦ refl | false ↦ gone_by-withheld h h.line ]

-- a head with the number and the bit
record Heads (b : Backward) (head : Head) : Type 0 where
  number : head.bsn ≡ b.bsn
  indicator : head.bib ≡ b.bib

heads : (h : TransceiverState) (b : Backward) (fsn fib : ℕ) → h.withheld ≡ Some b → Heads b (head_with h fsn fib)
heads h b fsn fib e = record {
  number = ap (λ (o : Option Backward). (unwrap_or o (backward_of h.receiver)).bsn) e;
  indicator = ap (λ (o : Option Backward). (unwrap_or o (backward_of h.receiver)).bib) e;
}

idle-heads : (h : TransceiverState) (b : Backward) → h.withheld ≡ Some b → Heads b (idle_head h)
unfolding idle_head
idle-heads h b e = heads h b (idle_fsn h.sender) h.sender.fib e

filled-tells : (b : Backward) (head : Head) (msu : Option Msu) → Heads b head → Tells b (Some (filled head msu))
filled-tells b head (Some msu) h = (h.number, h.indicator)
filled-tells b head None h = (h.number, h.indicator)

status-tells : (h : TransceiverState) (b : Backward) (code : ℕ) → h.withheld ≡ Some b → Tells b (status_gone h code).out
status-tells h b code e = let k = idle-heads h b e in (k.number, k.indicator)

fill_in-tells : (h : TransceiverState) (b : Backward) → h.withheld ≡ Some b → Tells b (fill_in_gone h).out
fill_in-tells h b e = let k = idle-heads h b e in (k.number, k.indicator)

message-tells : (h : TransceiverState) (b : Backward) (held : Bool) → h.withheld ≡ Some b →
    Tells b (if◌then◌else◌ {A = Gone} held (fill_in_gone h) (sender_gone h (gives h.sender))).out
message-tells h b true e = fill_in-tells h b e
message-tells h b false e =
    let s : Sending = gives h.sender in
    filled-tells b (head_with h s.unit.fsn s.unit.fib) s.unit.msu (heads h b s.unit.fsn s.unit.fib e)

gone_by-tells : (h : TransceiverState) (b : Backward) (line : Option LineKind) → h.withheld ≡ Some b → Tells b (gone_by h line).out
gone_by-tells h b None e = tt
gone_by-tells h b (Some (kind.Status code)) e = status-tells h b code e
gone_by-tells h b (Some kind.FillIn) e = fill_in-tells h b e
gone_by-tells h b (Some kind.Messages) e = message-tells h b (is_held h.hold) e

gone-tells : (h : TransceiverState) (b : Backward) → h.withheld ≡ Some b → Tells b (gone h).out
unfolding gone
gone-tells h b e = elim h.busy
    as (λ c. Tells b (if c then status_gone (record h { busy = false }) BUSY_CODE else gone_by h h.line).out)
    [ true ↦ status-tells (record h { busy = false }) b BUSY_CODE e | false ↦ gone_by-tells h b h.line e ]

pub withholds : Withholds
unfolding effect
withholds = record {
  begins = λ h. refl;
  on_unit = judged-withheld;
  unit_out = gone-withheld;
  tells = gone-tells;
  ends = λ h. refl;
}
