-- Messages are handed out in the order in which they were accepted.
use Rattle.std.proofs.Common.{◌≡◌, ◌&&◌, Bool, true, false, not, Option, Some, None, Result, Ok, Err, List, [], ◌∷◌, ◌++◌, drop, slice_get, refl, sym, ◌∙◌, ap, append_assoc, append-nil}
use Rattle.std.specs.Prelude.{if◌then◌else◌}
use Rattle.resend_store.specs.declared.messages.Msu.{Msu}
use Rattle.resend_store.specs.declared.messages.Verdict.{Verdict}
use Rattle.resend_store.specs.declared.messages.Verdict.TheVariants.{Accept, Discard, Nack}
use Rattle.resend_store.specs.declared.refusals.UnitError.{UnitError}
use Rattle.su_octets.specs.declared.units.Head.{Head}
use Rattle.su_octets.specs.declared.units.Unit.{Unit}
use Rattle.su_octets.specs.declared.units.Unit.TheVariants as unit
use Rattle.link_transceiver.specs.declared.signals.LinkStatus.{LinkStatus}
use Rattle.link_transceiver.specs.TransceiverState.{TransceiverState}
use Rattle.link_transceiver.specs.Effects.{effect, directed, is_busy_named}
use Rattle.link_transceiver.specs.Judging.{Judged, judged, by_stores, through, left_aside, Stored, stored, refused, taken, heard, discarded, bsn_heeded, head_heeded, delivered, accepts, hearing, is_abnormal}
use Rattle.link_transceiver.specs.Going.{gone}
use Rattle.link_transceiver.specs.Reporting.{reported, message_reported, status_reported}
use Rattle.link_transceiver.specs.Laws.{Call, Told, Came, Went, Asked, is_accept, accepted_by, accepted_of, handed_by, after_call, after, accepted, handed, message_of, HandsOutInOrder, BusyGoesOutOnce}
use Rattle.link_transceiver.proofs.Keeping.{effect-messages, gone-messages}

-- a unit without a message delivers none
none-delivered : (v : Result Verdict UnitError) (ms : List Msu) → delivered v None ms ≡ ms
none-delivered (Ok Accept) ms = refl
none-delivered (Ok Discard) ms = refl
none-delivered (Ok Nack) ms = refl
none-delivered (Err e) ms = refl

-- a unit with a message delivers it if it is accepted
some-delivered : (v : Result Verdict UnitError) (m : Msu) (ms : List Msu) →
    delivered v (Some m) ms ≡ ms ++ (if is_accept v then m ∷ [] else [])
unfolding is_accept
some-delivered (Ok Accept) m ms = refl
some-delivered (Ok Discard) m ms = sym (append-nil ms)
some-delivered (Ok Nack) m ms = sym (append-nil ms)
some-delivered (Err e) m ms = sym (append-nil ms)

stored-none : (h : TransceiverState) (head : Head) → (stored h head None).transceiver.messages ≡ h.messages
unfolding stored
stored-none h head = elim (is_abnormal h.sender head.bsn)
    as (λ b. (if◌then◌else◌ {A = Stored} b (refused h) (taken h head None)).transceiver.messages ≡ h.messages)
    [ true ↦ refl | false ↦ none-delivered (hearing (accepts h) h.receiver head false).verdict h.messages ]

stored-some : (h : TransceiverState) (head : Head) (m : Msu) → (stored h head (Some m)).transceiver.messages
    ≡ h.messages ++ (if not (is_abnormal h.sender head.bsn) && is_accept (hearing (accepts h) h.receiver head true).verdict then m ∷ [] else [])
unfolding stored
stored-some h head m = elim (is_abnormal h.sender head.bsn)
    as (λ b. (if◌then◌else◌ {A = Stored} b (refused h) (taken h head (Some m))).transceiver.messages
    ≡ h.messages ++ (if not b && is_accept (hearing (accepts h) h.receiver head true).verdict then m ∷ [] else [])) [
      | true ↦ sym (append-nil h.messages)
      | false ↦ some-delivered (hearing (accepts h) h.receiver head true).verdict m h.messages
    ]

heard-none : (h : TransceiverState) (head : Head) → (heard h head None).transceiver.messages ≡ h.messages
unfolding heard
heard-none h head = elim h.behind_odd
    as (λ b. (if◌then◌else◌ {A = Stored} b (discarded h (head_heeded h head)) (stored h (head_heeded h head) None)).transceiver.messages ≡ h.messages)
    [ true ↦ refl | false ↦ stored-none h (head_heeded h head) ]

by_stores-none : (h : TransceiverState) (head : Head) → (by_stores h head None).transceiver.messages ≡ h.messages
unfolding by_stores
by_stores-none h head = elim h.take
    as (λ b. (if◌then◌else◌ {A = Judged} b (through h (heard h head None)) (left_aside 8 h)).transceiver.messages ≡ h.messages)
    [ true ↦ heard-none h head | false ↦ refl ]

-- the message of a unit, if it is accepted and doesn't follow an abnormal unit
abbrev if_accepted : TransceiverState → Head → Bool → Bool → Msu → List Msu
if_accepted h head takes heeds m =
    if takes && heeds && not (is_abnormal h.sender (bsn_heeded h head.bsn)) && is_accept (hearing (accepts h) h.receiver (head_heeded h head) true).verdict then m ∷ [] else []

heard-some : (h : TransceiverState) (head : Head) (m : Msu) → (heard h head (Some m)).transceiver.messages ≡ h.messages ++ if_accepted h head true (not h.behind_odd) m
unfolding heard
heard-some h head m = elim h.behind_odd
    as (λ b. (if◌then◌else◌ {A = Stored} b (discarded h (head_heeded h head)) (stored h (head_heeded h head) (Some m))).transceiver.messages ≡ h.messages ++ if_accepted h head true (not b) m)
    [ true ↦ sym (append-nil h.messages) | false ↦ stored-some h (head_heeded h head) m ]

by_stores-some : (h : TransceiverState) (head : Head) (m : Msu) → (by_stores h head (Some m)).transceiver.messages ≡ h.messages ++ if_accepted h head h.take (not h.behind_odd) m
unfolding by_stores
by_stores-some h head m = elim h.take
    as (λ b. (if◌then◌else◌ {A = Judged} b (through h (heard h head (Some m))) (left_aside 8 h)).transceiver.messages ≡ h.messages ++ if_accepted h head b (not h.behind_odd) m)
    [ true ↦ heard-some h head m | false ↦ sym (append-nil h.messages) ]

judged-messages : (h : TransceiverState) (u : Unit) → (judged h u).transceiver.messages ≡ h.messages ++ accepted_of h u
unfolding judged
judged-messages h (unit.Fisu head) = by_stores-none h head ∙ sym (append-nil h.messages)
judged-messages h (unit.Msu head sio sif) = by_stores-some h head (record { sio = sio; sif = sif })
judged-messages h (unit.Lssu head status second) = sym (append-nil h.messages)

status-asked : (h : TransceiverState) (o : Option LinkStatus) →
    message_of (status_reported h o).report ++ (status_reported h o).transceiver.messages ≡ h.messages
status-asked h (Some s) = refl
status-asked h None = refl

front : (ms : List Msu) (m : Msu) → slice_get ms 0 ≡ Some m → m ∷ drop 1 ms ≡ ms
front [] m e = cc
front (x ∷ xs) m e = cc

asked_by : (h : TransceiverState) (o : Option Msu) → slice_get h.messages 0 ≡ o →
    message_of (message_reported h o).report ++ (message_reported h o).transceiver.messages ≡ h.messages
asked_by h (Some m) e = front h.messages m e
asked_by h None e = status-asked h (slice_get h.statuses 0)

asked-messages : (h : TransceiverState) → message_of (reported h).report ++ (reported h).transceiver.messages ≡ h.messages
unfolding reported
asked-messages h = asked_by h (slice_get h.messages 0) refl

one : (h : TransceiverState) (c : Call) → h.messages ++ accepted_by h c ≡ handed_by h c ++ (after_call h c).messages
one h (Told s) = append-nil h.messages ∙ sym (effect-messages s h)
one h (Came u) = sym (judged-messages h u)
one h Went = append-nil h.messages ∙ sym (gone-messages h)
one h Asked = append-nil h.messages ∙ sym (asked-messages h)

joined : (a b c d e f g : List Msu) → a ++ b ≡ c ++ d → d ++ e ≡ f ++ g → a ++ (b ++ e) ≡ (c ++ f) ++ g
joined a b c d e f g p q =
    sym (append_assoc a b e) ∙ ap (λ xs. xs ++ e) p ∙ append_assoc c d e ∙ ap (λ xs. c ++ xs) q ∙ sym (append_assoc c f g)

pub hands_out_in_order : HandsOutInOrder
hands_out_in_order h [] = append-nil h.messages
hands_out_in_order h (c ∷ cs) = joined h.messages (accepted_by h c) (handed_by h c) (after_call h c).messages
    (accepted (after_call h c) cs) (handed (after_call h c) cs) (after (after_call h c) cs).messages
    (one h c) (hands_out_in_order (after_call h c) cs)

pub busy_once : BusyGoesOutOnce
unfolding effect directed is_busy_named gone
busy_once h e = ap (λ b. record h { busy = b }) (sym e)
