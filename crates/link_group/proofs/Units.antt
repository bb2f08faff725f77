-- What sent and received units do to one direction of a link.
use Rattle.std.proofs.Common.{◌≡◌, ℕ, ◌≤◌, ◌&&◌, Bool, true, false, not, List, [], ◌∷◌, ◌++◌, Option, Some, None, Result, Ok, Err, nat_lt, nat_le, is_some, refl, sym, ap, ◌∙◌, subst, append_assoc}
use Rattle.std.specs.Prelude.{if◌then◌else◌}
use Rattle.std.specs.Option.{option_to_list}
use Rattle.std.proofs.lemmas.Bool.{ltb-false}
use Rattle.plain_laws.proofs.Truths.{by_test}
use Rattle.arrayvec.specs.ArrayVec.{ArrayVec}
use Rattle.resend_store.specs.declared.messages.Msu.{Msu}
use Rattle.resend_store.specs.declared.messages.Outgoing.{Outgoing}
use Rattle.resend_store.specs.declared.messages.Verdict.{Verdict}
use Rattle.resend_store.specs.declared.messages.Verdict.TheVariants.{Accept, Discard, Nack}
use Rattle.resend_store.specs.declared.refusals.UnitError.{UnitError}
use Rattle.resend_store.specs.Window.{Window, next, count_by, last_acknowledged, after_back}
use Rattle.resend_store.specs.Intake.{Intake, Hearing, hear}
use Rattle.resend_store.specs.Hearings.{is_accept as verdict_accepts}
use Rattle.resend_store.specs.Exchange.{Answer}
use Rattle.su_octets.specs.declared.units.Head.{Head}
use Rattle.su_octets.specs.declared.units.Unit.{Unit}
use Rattle.su_octets.specs.declared.units.Unit.TheVariants as unit
use Rattle.link_transceiver.specs.declared.signals.Backward.{Backward}
use Rattle.link_transceiver.specs.declared.signals.LineKind.{LineKind}
use Rattle.link_transceiver.specs.declared.signals.LineKind.TheVariants as kind
use Rattle.link_transceiver.specs.Limits.{BUSY_CODE}
use Rattle.link_transceiver.specs.TransceiverState.{TransceiverState, is_held}
use Rattle.link_transceiver.specs.Judging.{Judged, judged, by_stores, through, left_aside, Stored, stored, refused, taken, heard, discarded, bsn_heeded, head_heeded, acknowledged, hears, accepts, hearing, is_abnormal}
use Rattle.link_transceiver.specs.Going.{Gone, gone, gone_by, gives, backward_out, head_with, idle_head, filled, status_gone, fill_in_gone, sender_gone, spare_behind}
use Rattle.link_transceiver.specs.Laws.{is_accept, accepted_of}
use Rattle.link_transceiver.proofs.Aside.{none_accepted, known_aside}
use Rattle.link_group.specs.Ends.{units_in}
use Rattle.link_group.specs.Along.{heeded}

-- ---- units as the stores see them

abbrev pub outgoing_of : Head → Option Msu → Outgoing
outgoing_of head msu = record { fsn = head.fsn; fib = head.fib; msu = msu }

abbrev pub outgoing_in : Unit → List Outgoing
outgoing_in (unit.Fisu head) = outgoing_of head None ∷ []
outgoing_in (unit.Msu head sio sif) = outgoing_of head (Some (record { sio = sio; sif = sif })) ∷ []
outgoing_in (unit.Lssu head status second) = []

abbrev pub outgoings : List Unit → List Outgoing
outgoings [] = []
outgoings (u ∷ us) = outgoing_in u ++ outgoings us

pub outgoings-append : (us vs : List Unit) → outgoings (us ++ vs) ≡ outgoings us ++ outgoings vs
outgoings-append [] vs = refl
outgoings-append (u ∷ us) vs =
    ap (λ (xs : List Outgoing). outgoing_in u ++ xs) (outgoings-append us vs) ∙ sym (append_assoc (outgoing_in u) (outgoings us) (outgoings vs))

abbrev pub telling_of : Head → Answer
telling_of head = record { bsn = head.bsn; bib = head.bib }

abbrev pub telling_in : Unit → List Answer
telling_in (unit.Fisu head) = telling_of head ∷ []
telling_in (unit.Msu head sio sif) = telling_of head ∷ []
telling_in (unit.Lssu head status second) = []

abbrev pub tellings : List Unit → List Answer
tellings [] = []
tellings (u ∷ us) = telling_in u ++ tellings us

pub tellings-append : (us vs : List Unit) → tellings (us ++ vs) ≡ tellings us ++ tellings vs
tellings-append [] vs = refl
tellings-append (u ∷ us) vs =
    ap (λ (xs : List Answer). telling_in u ++ xs) (tellings-append us vs) ∙ sym (append_assoc (telling_in u) (tellings us) (tellings vs))

-- ---- sent units: the messages held for sending

-- no unit from the stores, one without a message, or the sender's next one
pub data Goes (h : TransceiverState) (g : Gone) : Type 0 where
  says_none : outgoings (units_in g.out) ≡ [] → g.transceiver.sender ≡ h.sender → g.transceiver.spare ≡ h.spare → Goes h g
  fills_in : (u : Outgoing) → outgoings (units_in g.out) ≡ u ∷ [] → u.msu ≡ None → g.transceiver.sender ≡ h.sender → g.transceiver.spare ≡ h.spare → Goes h g
  gives_one : outgoings (units_in g.out) ≡ (next h.sender).unit ∷ [] → g.transceiver.sender ≡ (next h.sender).left → (h.spare ≡ 0 → g.transceiver.spare ≡ 0) → Goes h g

filled_one : (head : Head) (o : Option Msu) → outgoings (units_in (Some (filled head o))) ≡ outgoing_of head o ∷ []
filled_one head None = refl
filled_one head (Some msu) = refl

spare_none : (o : Option Msu) (n : ℕ) → n ≡ 0 → spare_behind o n ≡ 0
spare_none None n e = e
spare_none (Some msu) n e = refl

message_goes : (h : TransceiverState) (held : Bool) → Goes h (if◌then◌else◌ {A = Gone} held (fill_in_gone h) (sender_gone h (gives h.sender)))
unfolding gives
message_goes h true = fills_in (outgoing_of (idle_head h) None) refl refl refl refl
message_goes h false =
    gives_one (filled_one (head_with h (next h.sender).unit.fsn (next h.sender).unit.fib) (next h.sender).unit.msu) refl (λ e. spare_none (next h.sender).unit.msu h.spare e)

line_goes : (h : TransceiverState) (line : Option LineKind) → Goes h (gone_by h line)
line_goes h None = says_none refl refl refl
line_goes h (Some (kind.Status code)) = says_none refl refl refl
line_goes h (Some kind.FillIn) = fills_in (outgoing_of (idle_head h) None) refl refl refl refl
line_goes h (Some kind.Messages) = message_goes h (is_held h.hold)

pub going : (h : TransceiverState) → Goes h (gone h)
unfolding gone
going h = by_test (λ (g : Gone). Goes h g) h.busy (status_gone (record h { busy = false }) BUSY_CODE) (gone_by h h.line) (λ e. says_none refl refl refl) (λ e. line_goes h h.line)

-- ---- sent units: the receiver

pub record SameIntake (h g : TransceiverState) : Type 0 where
  pub receiver : g.receiver ≡ h.receiver
  pub withheld : g.withheld ≡ h.withheld
  pub hold : g.hold ≡ h.hold
  pub began : g.began ≡ h.began

abbrev pub telling_by : Backward → Answer
telling_by b = record { bsn = b.bsn; bib = b.bib }

pub data Answers (h : TransceiverState) (g : Gone) : Type 0 where
  tells_none : tellings (units_in g.out) ≡ [] → SameIntake h g.transceiver → Answers h g
  tells_one : tellings (units_in g.out) ≡ telling_by (backward_out h) ∷ [] → SameIntake h g.transceiver → Answers h g

filled_tells : (head : Head) (o : Option Msu) → tellings (units_in (Some (filled head o))) ≡ telling_of head ∷ []
filled_tells head None = refl
filled_tells head (Some msu) = refl

fill_in_answers : (h : TransceiverState) → Answers h (fill_in_gone h)
unfolding idle_head
fill_in_answers h = tells_one refl (record { receiver = refl; withheld = refl; hold = refl; began = refl })

message_answers : (h : TransceiverState) (held : Bool) → Answers h (if◌then◌else◌ {A = Gone} held (fill_in_gone h) (sender_gone h (gives h.sender)))
message_answers h true = fill_in_answers h
message_answers h false =
    let s = gives h.sender in
    tells_one (filled_tells (head_with h s.unit.fsn s.unit.fib) s.unit.msu) (record { receiver = refl; withheld = refl; hold = refl; began = refl })

line_answers : (h : TransceiverState) (line : Option LineKind) → Answers h (gone_by h line)
line_answers h None = tells_none refl (record { receiver = refl; withheld = refl; hold = refl; began = refl })
line_answers h (Some (kind.Status code)) = tells_none refl (record { receiver = refl; withheld = refl; hold = refl; began = refl })
line_answers h (Some kind.FillIn) = fill_in_answers h
line_answers h (Some kind.Messages) = message_answers h (is_held h.hold)

pub answering : (h : TransceiverState) → Answers h (gone h)
unfolding gone
answering h =
    by_test (λ (g : Gone). Answers h g) h.busy (status_gone (record h { busy = false }) BUSY_CODE) (gone_by h h.line)
    (λ e. tells_none refl (record { receiver = refl; withheld = refl; hold = refl; began = refl })) (λ e. line_answers h h.line)

began_answering : (h : TransceiverState) (g : Gone) → Answers h g → g.transceiver.began ≡ h.began
began_answering h g (tells_none none same) = same.began
began_answering h g (tells_one one same) = same.began

pub gone_began : (h : TransceiverState) → (gone h).transceiver.began ≡ h.began
gone_began h = began_answering h (gone h) (answering h)

-- ---- received units: the receiver

-- A unit skips the stores, or the receiver judges it; these messages of it are accepted.
pub data Comes (old new : Intake) (o : Outgoing) (ms : List Msu) : Type 0 where
  passes_by : new ≡ old → ms ≡ [] → Comes old new o ms
  is_judged : new ≡ (hear old o.fsn o.fib (is_some o.msu)).known
      → ms ≡ (if verdict_accepts (hear old o.fsn o.fib (is_some o.msu)).verdict then option_to_list o.msu else []) → Comes old new o ms

same_accept : (v : Result Verdict UnitError) → is_accept v ≡ verdict_accepts v
unfolding is_accept
same_accept (Ok Accept) = refl
same_accept (Ok Discard) = refl
same_accept (Ok Nack) = refl
same_accept (Err e) = refl

none_of_none : (b : Bool) → [] ≡ (if b then option_to_list {X = Msu} None else [])
none_of_none true = refl
none_of_none false = refl

by_hearing : (r : Intake) (head : Head) (has_msu : Bool) → hearing true r head has_msu ≡ hear r head.fsn head.fib has_msu
unfolding hearing hears
by_hearing r head has_msu = refl

taken_none : (h : TransceiverState) (head : Head) (accepting : Bool) → accepts h ≡ accepting → Comes h.receiver (taken h head None).transceiver.receiver (outgoing_of head None) []
taken_none h head true e =
    is_judged (ap (λ (b : Bool). (hearing b h.receiver head false).known) e ∙ ap (λ (s : Hearing). s.known) (by_hearing h.receiver head false))
    (none_of_none (verdict_accepts (hear h.receiver head.fsn head.fib false).verdict))
taken_none h head false e = passes_by (known_aside (accepts h) h.receiver head false e) refl

taken_some : (h : TransceiverState) (head : Head) (m : Msu) (accepting : Bool) → accepts h ≡ accepting
    → Comes h.receiver (taken h head (Some m)).transceiver.receiver (outgoing_of head (Some m)) (if is_accept (hearing (accepts h) h.receiver head true).verdict then m ∷ [] else [])
taken_some h head m true e =
    let by : hearing (accepts h) h.receiver head true ≡ hear h.receiver head.fsn head.fib true =
    ap (λ (b : Bool). hearing b h.receiver head true) e ∙ by_hearing h.receiver head true in
    is_judged (ap (λ (s : Hearing). s.known) by)
    (ap (λ (s : Hearing). if is_accept s.verdict then m ∷ [] else []) by
    ∙ ap (λ (b : Bool). if b then m ∷ [] else []) (same_accept (hear h.receiver head.fsn head.fib true).verdict))
taken_some h head m false e =
    passes_by (known_aside (accepts h) h.receiver head true e) (ap (λ (b : Bool). if b then m ∷ [] else []) (none_accepted (accepts h) h.receiver head true e))

stored_none : (h : TransceiverState) (head : Head) → Comes h.receiver (stored h head None).transceiver.receiver (outgoing_of head None) []
unfolding stored
stored_none h head = elim (is_abnormal h.sender head.bsn)
    as (λ b. Comes h.receiver (if◌then◌else◌ {A = Stored} b (refused h) (taken h head None)).transceiver.receiver (outgoing_of head None) [])
    [ true ↦ passes_by refl refl | false ↦ taken_none h head (accepts h) refl ]

stored_some : (h : TransceiverState) (head : Head) (m : Msu) → Comes h.receiver (stored h head (Some m)).transceiver.receiver (outgoing_of head (Some m))
    (if not (is_abnormal h.sender head.bsn) && is_accept (hearing (accepts h) h.receiver head true).verdict then m ∷ [] else [])
unfolding stored
stored_some h head m = elim (is_abnormal h.sender head.bsn)
    as (λ b. Comes h.receiver (if◌then◌else◌ {A = Stored} b (refused h) (taken h head (Some m))).transceiver.receiver (outgoing_of head (Some m))
    (if not b && is_accept (hearing (accepts h) h.receiver head true).verdict then m ∷ [] else []))
    [ true ↦ passes_by refl refl | false ↦ taken_some h head m (accepts h) refl ]

heard_none : (h : TransceiverState) (head : Head) → Comes h.receiver (heard h head None).transceiver.receiver (outgoing_of head None) []
unfolding heard
heard_none h head = elim h.behind_odd
    as (λ b. Comes h.receiver (if◌then◌else◌ {A = Stored} b (discarded h (head_heeded h head)) (stored h (head_heeded h head) None)).transceiver.receiver (outgoing_of head None) [])
    [ true ↦ passes_by refl refl | false ↦ stored_none h (head_heeded h head) ]

-- the message of a unit, if these tests hold
abbrev if_accepted : TransceiverState → Head → Bool → Bool → Msu → List Msu
if_accepted h head takes heeds m =
    if takes && heeds && not (is_abnormal h.sender (bsn_heeded h head.bsn)) && is_accept (hearing (accepts h) h.receiver (head_heeded h head) true).verdict then m ∷ [] else []

heard_some : (h : TransceiverState) (head : Head) (m : Msu)
    → Comes h.receiver (heard h head (Some m)).transceiver.receiver (outgoing_of head (Some m)) (if_accepted h head true (not h.behind_odd) m)
unfolding heard
heard_some h head m = elim h.behind_odd
    as (λ b. Comes h.receiver (if◌then◌else◌ {A = Stored} b (discarded h (head_heeded h head)) (stored h (head_heeded h head) (Some m))).transceiver.receiver (outgoing_of head (Some m))
    (if_accepted h head true (not b) m))
    [ true ↦ passes_by refl refl | false ↦ stored_some h (head_heeded h head) m ]

by_stores_none : (h : TransceiverState) (head : Head) → Comes h.receiver (by_stores h head None).transceiver.receiver (outgoing_of head None) []
unfolding by_stores
by_stores_none h head = elim h.take
    as (λ b. Comes h.receiver (if◌then◌else◌ {A = Judged} b (through h (heard h head None)) (left_aside 8 h)).transceiver.receiver (outgoing_of head None) [])
    [ true ↦ heard_none h head | false ↦ passes_by refl refl ]

by_stores_some : (h : TransceiverState) (head : Head) (m : Msu)
    → Comes h.receiver (by_stores h head (Some m)).transceiver.receiver (outgoing_of head (Some m)) (if_accepted h head h.take (not h.behind_odd) m)
unfolding by_stores
by_stores_some h head m = elim h.take
    as (λ b. Comes h.receiver (if◌then◌else◌ {A = Judged} b (through h (heard h head (Some m))) (left_aside 8 h)).transceiver.receiver (outgoing_of head (Some m))
    (if_accepted h head b (not h.behind_odd) m))
    [ true ↦ heard_some h head m | false ↦ passes_by refl refl ]

-- a unit at the end that accepts messages
pub data ComesIn (h : TransceiverState) (u : Unit) : Type 0 where
  status_comes : outgoing_in u ≡ [] → (judged h u).transceiver.receiver ≡ h.receiver → accepted_of h u ≡ [] → ComesIn h u
  unit_comes : (o : Outgoing) → outgoing_in u ≡ o ∷ [] → Comes h.receiver (judged h u).transceiver.receiver o (accepted_of h u) → ComesIn h u

pub coming_in : (h : TransceiverState) (u : Unit) → ComesIn h u
unfolding judged
coming_in h (unit.Fisu head) = unit_comes (outgoing_of head None) refl (by_stores_none h head)
coming_in h (unit.Msu head sio sif) =
    unit_comes (outgoing_of head (Some (record { sio = sio; sif = sif }))) refl (by_stores_some h head (record { sio = sio; sif = sif }))
coming_in h (unit.Lssu head status second) = status_comes refl refl refl

-- ---- received units: the messages held for sending

-- a backward number and bit that count for nothing, or are obeyed
pub data Obeys (old new : Window) (b : Answer) : Type 0 where
  ignores : new ≡ old → Obeys old new b
  is_obeyed : new ≡ after_back old b.bsn b.bib → count_by old b.bsn ≤ old.sent → Obeys old new b

stored_by : (h : TransceiverState) (head : Head) (o : Option Msu) (abnormal : Bool) → is_abnormal h.sender head.bsn ≡ abnormal
    → Obeys h.sender (if◌then◌else◌ {A = Stored} abnormal (refused h) (taken h head o)).transceiver.sender (telling_of head)
unfolding acknowledged
stored_by h head o true e = ignores refl
stored_by h head o false e = is_obeyed refl (ltb-false h.sender.sent (count_by h.sender head.bsn) e)

stored_back : (h : TransceiverState) (head : Head) (o : Option Msu) → Obeys h.sender (stored h head o).transceiver.sender (telling_of head)
unfolding stored
stored_back h head o = stored_by h head o (is_abnormal h.sender head.bsn) refl

-- if nothing was cleared, each number counts unchanged
heeds : (h : TransceiverState) (bsn : ℕ) → h.spare ≡ 0 → bsn_heeded h bsn ≡ bsn
unfolding bsn_heeded
heeds h bsn e = ap (λ (n : ℕ). if nat_lt 0 n && nat_le (count_by h.sender bsn) n then last_acknowledged h.sender else bsn) e

heeded_back : (h : TransceiverState) (head : Head) (o : Option Msu) → h.spare ≡ 0 → Obeys h.sender (stored h (head_heeded h head) o).transceiver.sender (telling_of head)
heeded_back h head o e =
    subst (λ (n : ℕ). Obeys h.sender (stored h (head_heeded h head) o).transceiver.sender (record { bsn = n; bib = head.bib })) (heeds h head.bsn e)
    (stored_back h (head_heeded h head) o)

heard_back : (h : TransceiverState) (head : Head) (o : Option Msu) → h.spare ≡ 0 → Obeys h.sender (heard h head o).transceiver.sender (telling_of head)
unfolding heard
heard_back h head o e = elim h.behind_odd
    as (λ b. Obeys h.sender (if◌then◌else◌ {A = Stored} b (discarded h (head_heeded h head)) (stored h (head_heeded h head) o)).transceiver.sender (telling_of head))
    [ true ↦ ignores refl | false ↦ heeded_back h head o e ]

by_stores_back : (h : TransceiverState) (head : Head) (o : Option Msu) → h.spare ≡ 0 → Obeys h.sender (by_stores h head o).transceiver.sender (telling_of head)
unfolding by_stores
by_stores_back h head o e = elim h.take
    as (λ b. Obeys h.sender (if◌then◌else◌ {A = Judged} b (through h (heard h head o)) (left_aside 8 h)).transceiver.sender (telling_of head))
    [ true ↦ heard_back h head o e | false ↦ ignores refl ]

-- a unit received near
pub data ComesBack (h : TransceiverState) (u : Unit) : Type 0 where
  status_back : telling_in u ≡ [] → (judged h u).transceiver.sender ≡ h.sender → ComesBack h u
  unit_back : (b : Answer) → telling_in u ≡ b ∷ [] → Obeys h.sender (judged h u).transceiver.sender b → ComesBack h u

pub coming_back : (h : TransceiverState) (u : Unit) → h.spare ≡ 0 → ComesBack h u
unfolding judged
coming_back h (unit.Fisu head) e = unit_back (telling_of head) refl (by_stores_back h head None e)
coming_back h (unit.Msu head sio sif) e = unit_back (telling_of head) refl (by_stores_back h head (Some (record { sio = sio; sif = sif })) e)
coming_back h (unit.Lssu head status second) e = status_back refl refl

-- ---- a received unit clears nothing and restarts no direction

stored_spare : (h : TransceiverState) (head : Head) (o : Option Msu) → (stored h head o).transceiver.spare ≡ h.spare
unfolding stored
stored_spare h head o = elim (is_abnormal h.sender head.bsn)
    as (λ b. (if◌then◌else◌ {A = Stored} b (refused h) (taken h head o)).transceiver.spare ≡ h.spare)
    [ true ↦ refl | false ↦ refl ]

heard_spare : (h : TransceiverState) (head : Head) (o : Option Msu) → (heard h head o).transceiver.spare ≡ h.spare
unfolding heard
heard_spare h head o = elim h.behind_odd
    as (λ b. (if◌then◌else◌ {A = Stored} b (discarded h (head_heeded h head)) (stored h (head_heeded h head) o)).transceiver.spare ≡ h.spare)
    [ true ↦ refl | false ↦ stored_spare h (head_heeded h head) o ]

by_stores_spare : (h : TransceiverState) (head : Head) (o : Option Msu) → (by_stores h head o).transceiver.spare ≡ h.spare
unfolding by_stores
by_stores_spare h head o = elim h.take
    as (λ b. (if◌then◌else◌ {A = Judged} b (through h (heard h head o)) (left_aside 8 h)).transceiver.spare ≡ h.spare)
    [ true ↦ heard_spare h head o | false ↦ refl ]

pub judged_spare : (h : TransceiverState) (u : Unit) → (judged h u).transceiver.spare ≡ h.spare
unfolding judged
judged_spare h (unit.Fisu head) = by_stores_spare h head None
judged_spare h (unit.Msu head sio sif) = by_stores_spare h head (Some (record { sio = sio; sif = sif }))
judged_spare h (unit.Lssu head status second) = refl

stored_began : (h : TransceiverState) (head : Head) (o : Option Msu) → (stored h head o).transceiver.began ≡ h.began
unfolding stored
stored_began h head o = elim (is_abnormal h.sender head.bsn)
    as (λ b. (if◌then◌else◌ {A = Stored} b (refused h) (taken h head o)).transceiver.began ≡ h.began)
    [ true ↦ refl | false ↦ refl ]

heard_began : (h : TransceiverState) (head : Head) (o : Option Msu) → (heard h head o).transceiver.began ≡ h.began
unfolding heard
heard_began h head o = elim h.behind_odd
    as (λ b. (if◌then◌else◌ {A = Stored} b (discarded h (head_heeded h head)) (stored h (head_heeded h head) o)).transceiver.began ≡ h.began)
    [ true ↦ refl | false ↦ stored_began h (head_heeded h head) o ]

by_stores_began : (h : TransceiverState) (head : Head) (o : Option Msu) → (by_stores h head o).transceiver.began ≡ h.began
unfolding by_stores
by_stores_began h head o = elim h.take
    as (λ b. (if◌then◌else◌ {A = Judged} b (through h (heard h head o)) (left_aside 8 h)).transceiver.began ≡ h.began)
    [ true ↦ heard_began h head o | false ↦ refl ]

pub judged_began : (h : TransceiverState) (u : Unit) → (judged h u).transceiver.began ≡ h.began
unfolding judged
judged_began h (unit.Fisu head) = by_stores_began h head None
judged_began h (unit.Msu head sio sif) = by_stores_began h head (Some (record { sio = sio; sif = sif }))
judged_began h (unit.Lssu head status second) = refl

-- ---- units that don't go through the stores

pub data Heeds (h : TransceiverState) (u : Unit) : Type 0 where
  left_so : heeded h u ≡ [] → (judged h u).transceiver ≡ h → accepted_of h u ≡ [] → Heeds h u
  goes_through : heeded h u ≡ u ∷ [] → Heeds h u

fill_in_heeds : (h : TransceiverState) (head : Head) (take : Bool) → h.take ≡ take → Heeds h (unit.Fisu head)
unfolding judged by_stores
fill_in_heeds h head true e = goes_through (ap (λ (b : Bool). if◌then◌else◌ {A = List Unit} b (unit.Fisu head ∷ []) []) e)
fill_in_heeds h head false e =
    left_so (ap (λ (b : Bool). if◌then◌else◌ {A = List Unit} b (unit.Fisu head ∷ []) []) e)
    (ap (λ (b : Bool). (if◌then◌else◌ {A = Judged} b (through h (heard h head None)) (left_aside 8 h)).transceiver) e) refl

message_heeds : (h : TransceiverState) (head : Head) (sio : ℕ) (sif : ArrayVec ℕ) (take : Bool) → h.take ≡ take → Heeds h (unit.Msu head sio sif)
unfolding judged by_stores
message_heeds h head sio sif true e = goes_through (ap (λ (b : Bool). if◌then◌else◌ {A = List Unit} b (unit.Msu head sio sif ∷ []) []) e)
message_heeds h head sio sif false e =
    let m : Msu = record { sio = sio; sif = sif } in
    left_so (ap (λ (b : Bool). if◌then◌else◌ {A = List Unit} b (unit.Msu head sio sif ∷ []) []) e)
    (ap (λ (b : Bool). (if◌then◌else◌ {A = Judged} b (through h (heard h head (Some m))) (left_aside 8 h)).transceiver) e)
    (ap (λ (b : Bool). if_accepted h head b (not h.behind_odd) m) e)

pub heeding : (h : TransceiverState) (u : Unit) → Heeds h u
unfolding judged
heeding h (unit.Fisu head) = fill_in_heeds h head h.take refl
heeding h (unit.Msu head sio sif) = message_heeds h head sio sif h.take refl
heeding h (unit.Lssu head status second) = left_so refl refl refl
