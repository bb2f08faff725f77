-- A received unit removes the messages that it acknowledges from those held for sending.
use Rattle.std.proofs.Common.{◌≡◌, ℕ, ◌+◌, ◌-◌, ◌≤◌, ◌==◌, ◌&&◌, zero, suc, Bool, true, false, not, Option, Some, None, List, [], ◌∷◌, ◌++◌, length, take, drop, refl, sym, ap, ◌∙◌, arith}
use Rattle.std.specs.Prelude.{if◌then◌else◌}
use Rattle.resend_store.specs.declared.messages.Msu.{Msu}
use Rattle.resend_store.specs.declared.messages.Mode.{Mode}
use Rattle.resend_store.specs.declared.messages.Mode.TheVariants.{Basic, Cyclic}
use Rattle.resend_store.specs.Window.{Window, unacknowledged, waiting, count_by, without, asked}
use Rattle.su_octets.specs.declared.units.Head.{Head}
use Rattle.su_octets.specs.declared.units.Unit.{Unit}
use Rattle.su_octets.specs.declared.units.Unit.TheVariants as unit
use Rattle.link_transceiver.specs.TransceiverState.{TransceiverState}
use Rattle.link_transceiver.specs.Judging.{Judged, judged, by_stores, through, left_aside, Stored, stored, refused, taken, heard, discarded, bsn_heeded, head_heeded, acknowledged, is_abnormal}
use Rattle.link_transceiver.specs.Laws.{Loses, KeepsUnacknowledged, acknowledged_messages, acknowledged_by, acknowledged_of}
use Rattle.link_transceiver.proofs.Keeping.{same_loses, effect-loses, gone-kept, gone-sent, reported-sender, kept_if}
use Rattle.std.proofs.lemmas.Bool.{ltb-false as not_more}

-- ---- lists

front_gone : (n s : ℕ) (ms : List Msu) → n ≤ s → take n (take s ms) ++ drop n ms ≡ ms
front_gone zero s ms h = refl
front_gone (suc n) zero ms h = let f : ⊥ = omega (arith, h) in absurd f
front_gone (suc n) (suc s) [] h = refl
front_gone (suc n) (suc s) (m ∷ ms) h = ap (λ (xs : List Msu). m ∷ xs) (front_gone n s ms (omega (arith, h)))

few_taken : (n : ℕ) (ms : List Msu) → length (take n ms) ≤ n
few_taken zero ms = omega arith
few_taken (suc n) [] = omega arith
few_taken (suc n) (m ∷ ms) = omega (arith, few_taken n ms)

drop_none : (n : ℕ) → drop {A = Msu} n [] ≡ []
drop_none zero = refl
drop_none (suc n) = refl

less_none : (s : ℕ) → s - zero ≡ s
less_none s = omega arith

less_one : (n s : ℕ) → suc s - suc n ≡ s - n
less_one n s = omega arith

rest_gone : (n s : ℕ) (ms : List Msu) → n ≤ s → drop (s - n) (drop n ms) ≡ drop s ms
rest_gone zero s ms h = ap (λ (k : ℕ). drop k ms) (less_none s)
rest_gone (suc n) zero ms h = let f : ⊥ = omega (arith, h) in absurd f
rest_gone (suc n) (suc s) [] h = drop_none (suc s - suc n)
rest_gone (suc n) (suc s) (m ∷ ms) h = ap (λ (k : ℕ). drop k (drop n ms)) (less_one n s) ∙ rest_gone n s ms (omega (arith, h))

-- ---- a window whose oldest messages are acknowledged

sent_if : (b : Bool) (x y : Window) (n : ℕ) → x.sent ≡ n → y.sent ≡ n → (if b then x else y).sent ≡ n
sent_if true x y n p q = p
sent_if false x y n p q = q

asked-kept : (m : Mode) (bib : ℕ) (w : Window) → (asked m bib w).kept ≡ w.kept
asked-kept Basic bib w = kept_if (bib == w.fib) w (record w { fib = 1 - w.fib; again = w.sent }) w.kept refl refl
asked-kept Cyclic bib w = refl

asked-sent : (m : Mode) (bib : ℕ) (w : Window) → (asked m bib w).sent ≡ w.sent
asked-sent Basic bib w = sent_if (bib == w.fib) w (record w { fib = 1 - w.fib; again = w.sent }) w.sent refl refl
asked-sent Cyclic bib w = refl

fewer_sent : (g n s t : ℕ) → g ≤ n → n ≤ s → t ≡ s - n → g + t ≤ s
fewer_sent g n s t h k e = omega (arith, h, k, e)

without_loses : (w v : Window) (n : ℕ) → n ≤ w.sent → v.kept ≡ drop n w.kept → v.sent ≡ w.sent - n → Loses (take n (unacknowledged w)) w v
without_loses w v n h kept sent = record {
  kept = sym (front_gone n w.sent w.kept h) ∙ ap (λ (xs : List Msu). take n (take w.sent w.kept) ++ xs) (sym kept);
  sent = fewer_sent (length (take n (take w.sent w.kept))) n w.sent v.sent (few_taken n (take w.sent w.kept)) h sent;
}

without_waits : (w v : Window) (n : ℕ) → n ≤ w.sent → v.kept ≡ drop n w.kept → v.sent ≡ w.sent - n → waiting v ≡ waiting w
without_waits w v n h kept sent =
    ap (λ (k : ℕ). drop k v.kept) sent ∙ ap (drop (w.sent - n)) kept ∙ rest_gone n w.sent w.kept h

-- ---- a unit

-- These messages are removed, and the waiting ones stay.
record Takes (gone : List Msu) (before after : Window) : Type 0 where
  loses : Loses gone before after
  waits : waiting after ≡ waiting before

none_taken : (w : Window) → Takes [] w w
none_taken w = record { loses = same_loses w w refl; waits = refl }

number_taken : (w : Window) (bsn bib : ℕ) → count_by w bsn ≤ w.sent → Takes (acknowledged_messages w bsn) w (acknowledged w bsn bib)
unfolding acknowledged
number_taken w bsn bib h =
    let n = count_by w bsn in
    let v = asked w.mode bib (without w n) in
    let kept : v.kept ≡ drop n w.kept = asked-kept w.mode bib (without w n) in
    let sent : v.sent ≡ w.sent - n = asked-sent w.mode bib (without w n) in
    record { loses = without_loses w v n h kept sent; waits = without_waits w v n h kept sent }

stored_by : (h : TransceiverState) (head : Head) (msu : Option Msu) (b : Bool) → is_abnormal h.sender head.bsn ≡ b →
    Takes (if not b then acknowledged_messages h.sender head.bsn else []) h.sender (if◌then◌else◌ {A = Stored} b (refused h) (taken h head msu)).transceiver.sender
stored_by h head msu true e = none_taken h.sender
stored_by h head msu false e = number_taken h.sender head.bsn head.bib (not_more h.sender.sent (count_by h.sender head.bsn) e)

stored-takes : (h : TransceiverState) (head : Head) (msu : Option Msu) →
    Takes (if not (is_abnormal h.sender head.bsn) then acknowledged_messages h.sender head.bsn else []) h.sender (stored h head msu).transceiver.sender
unfolding stored
stored-takes h head msu = stored_by h head msu (is_abnormal h.sender head.bsn) refl

heard-takes : (h : TransceiverState) (head : Head) (msu : Option Msu) →
    Takes (if not h.behind_odd && not (is_abnormal h.sender (bsn_heeded h head.bsn)) then acknowledged_messages h.sender (bsn_heeded h head.bsn) else []) h.sender
    (heard h head msu).transceiver.sender
unfolding heard
heard-takes h head msu = elim h.behind_odd
    as (λ b. Takes (if not b && not (is_abnormal h.sender (bsn_heeded h head.bsn)) then acknowledged_messages h.sender (bsn_heeded h head.bsn) else []) h.sender
    (if◌then◌else◌ {A = Stored} b (discarded h (head_heeded h head)) (stored h (head_heeded h head) msu)).transceiver.sender)
    [ true ↦ none_taken h.sender | false ↦ stored-takes h (head_heeded h head) msu ]

by_stores-takes : (h : TransceiverState) (head : Head) (msu : Option Msu) → Takes (acknowledged_by h head) h.sender (by_stores h head msu).transceiver.sender
unfolding by_stores
by_stores-takes h head msu = elim h.take
    as (λ b. Takes (if b && not h.behind_odd && not (is_abnormal h.sender (bsn_heeded h head.bsn)) then acknowledged_messages h.sender (bsn_heeded h head.bsn) else []) h.sender
    (if◌then◌else◌ {A = Judged} b (through h (heard h head msu)) (left_aside 8 h)).transceiver.sender)
    [ true ↦ heard-takes h head msu | false ↦ none_taken h.sender ]

judged-takes : (h : TransceiverState) (u : Unit) → Takes (acknowledged_of h u) h.sender (judged h u).transceiver.sender
unfolding judged
judged-takes h (unit.Fisu head) = by_stores-takes h head None
judged-takes h (unit.Msu head sio sif) = by_stores-takes h head (Some (record { sio = sio; sif = sif }))
judged-takes h (unit.Lssu head status second) = none_taken h.sender

pub keeps_unacknowledged : KeepsUnacknowledged
keeps_unacknowledged = record {
  on_signal = effect-loses;
  on_unit = λ h u. (judged-takes h u).loses;
  waits = λ h u. (judged-takes h u).waits;
  unit_out = gone-kept;
  one_sent = gone-sent;
  report = reported-sender;
}
