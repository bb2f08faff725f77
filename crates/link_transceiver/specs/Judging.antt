-- What a signal unit without errors leads to.
use Rattle.std.specs.Prelude.{ℕ, ◌%◌, nat_lt, nat_le, ◌&&◌, ◌||◌, Bool, not, if◌then◌else◌, Option}
use Rattle.std.specs.Prelude.{Some, None, is_some, Result, Ok, Err, List, [], ◌∷◌, ◌++◌}
use Rattle.resend_store.specs.Window.{Window, count_by, last_acknowledged, after_back}
use Rattle.resend_store.specs.Intake.{Intake, Hearing, hear, hear_aside}
use Rattle.resend_store.specs.declared.messages.Msu.{Msu}
use Rattle.resend_store.specs.declared.messages.Verdict.{Verdict}
use Rattle.resend_store.specs.declared.messages.Verdict.TheVariants.{Accept, Discard, Nack}
use Rattle.resend_store.specs.declared.refusals.UnitError.{UnitError}
use Rattle.su_octets.specs.declared.units.Head.{Head}
use Rattle.su_octets.specs.declared.units.Unit.{Unit}
use Rattle.su_octets.specs.declared.units.Unit.TheVariants as unit
use Rattle.link_transceiver.specs.declared.faults.Fault.{Fault}
use Rattle.link_transceiver.specs.declared.faults.Fault.TheVariants.{AbnormalBsn, AbnormalFib}
use Rattle.link_transceiver.specs.declared.offers.Offer.{Offer}
use Rattle.link_transceiver.specs.declared.offers.Notice.TheVariants as notice
use Rattle.link_transceiver.specs.Faults.{with_newest, is_failing}
use Rattle.link_transceiver.specs.TransceiverState.{TransceiverState, is_held}
use Rattle.link_transceiver.specs.Offers.{to_monitors, acknowledgement_seen, two_bad, unit_seen}
use Rattle.link_transceiver.specs.Offers.{odd_seen}

-- the sender after the far side's backward number and bit
unfoldable pub acknowledged : Window → ℕ → ℕ → Window
acknowledged w bsn bib = after_back w bsn bib

-- the receiver and its verdict after a unit's forward number and bit
unfoldable pub hears : Intake → ℕ → ℕ → Bool → Hearing
hears r fsn fib has_msu = hear r fsn fib has_msu

-- as `hears`, while messages are discarded
unfoldable pub sets_aside : Intake → ℕ → Hearing
sets_aside r fib = hear_aside r.mode r fib

-- Whether received messages are accepted: they are to be delivered, and level 3 doesn't hold the
-- link.
abbrev pub accepts : TransceiverState → Bool
accepts h = h.deliver && not (is_held h.hold)

-- The receiver and its verdict after a unit, depending on whether messages are accepted.
unfoldable pub hearing : Bool → Intake → Head → Bool → Hearing
hearing accepting r head has_msu =
    if accepting then hears r head.fsn head.fib has_msu else sets_aside r head.fib

-- whether a backward number acknowledges more than was sent
abbrev pub is_abnormal : Window → ℕ → Bool
is_abnormal w bsn = nat_lt w.sent (count_by w bsn)

abbrev pub fault_in : Result Verdict UnitError → Option Fault
fault_in (Ok verdict) = None
fault_in (Err e) = Some AbnormalFib

-- an accepted message is put after those that wait
abbrev pub delivered : Result Verdict UnitError → Option Msu → List Msu → List Msu
delivered (Ok Accept) (Some msu) messages = messages ++ msu ∷ []
delivered (Ok Accept) None messages = messages
delivered (Ok Discard) msu messages = messages
delivered (Ok Nack) msu messages = messages
delivered (Err e) msu messages = messages

abbrev pub remembered : Option Fault → TransceiverState → TransceiverState
remembered fault h = record h { faults = with_newest fault h.faults }

-- the transceiver after the receiver's verdict
abbrev pub received : Hearing → Option Msu → TransceiverState → TransceiverState
received hearing msu h = remembered (fault_in hearing.verdict) (record h {
  receiver = hearing.known;
  messages = delivered hearing.verdict msu h.messages;
})

-- The result of passing a unit through the stores: the transceiver, how many messages it
-- acknowledges, and its fault. A unit with an abnormal backward number doesn't reach the receiver.
pub record Stored : Type 0 where
  pub transceiver : TransceiverState
  pub count : ℕ
  pub fault : Option Fault

-- a unit with an abnormal backward number
abbrev pub refused : TransceiverState → Stored
refused h = record {
  transceiver = remembered (Some AbnormalBsn) h;
  count = 0;
  fault = Some AbnormalBsn;
}

-- a unit whose backward number isn't abnormal
abbrev pub taken : TransceiverState → Head → Option Msu → Stored
taken h head msu =
    let learned = hearing (accepts h) h.receiver head (is_some msu) in
    record {
      transceiver = received learned msu
          (record h { sender = acknowledged h.sender head.bsn head.bib });
      count = count_by h.sender head.bsn;
      fault = fault_in learned.verdict;
    }

unfoldable pub stored : TransceiverState → Head → Option Msu → Stored
stored h head msu = if is_abnormal h.sender head.bsn then refused h else taken h head msu

-- ---- abnormal units, and the units after them

-- The backward number that counts: until a message is sent, a number that acknowledges only cleared
-- messages acknowledges nothing.
unfoldable pub bsn_heeded : TransceiverState → ℕ → ℕ
bsn_heeded h bsn =
    if nat_lt 0 h.spare && nat_le (count_by h.sender bsn) h.spare then last_acknowledged h.sender
    else bsn

abbrev pub head_heeded : TransceiverState → Head → Head
head_heeded h head =
    record { bsn = bsn_heeded h head.bsn; bib = head.bib; fsn = head.fsn; fib = head.fib }

-- the fault of a unit
unfoldable pub fault_of : TransceiverState → Head → Option Fault
fault_of h head =
    if is_abnormal h.sender head.bsn then Some AbnormalBsn
    else fault_in (sets_aside h.receiver head.fib).verdict

-- A unit after an abnormal one is remembered among the last three, and discarded.
abbrev pub discarded : TransceiverState → Head → Stored
discarded h head =
    record { transceiver = remembered (fault_of h head) h; count = 0; fault = fault_of h head }

-- the stores take the unit, unless it follows an abnormal one
abbrev pub led : TransceiverState → Head → Option Msu → Stored
led h head msu = if h.behind_odd then discarded h head else stored h head msu

-- The next unit is discarded if this one is abnormal and Odd reports that.
abbrev pub minding : Bool → Stored → Stored
minding odd s =
    record s { transceiver = record s.transceiver { behind_odd = odd && is_some s.fault } }

-- a fill-in or message signal unit while units are taken
unfoldable pub heard : TransceiverState → Head → Option Msu → Stored
heard h head msu = minding h.odd (led h (head_heeded h head) msu)

-- ---- the offers

-- The transceiver after a unit, and the offers in order.
pub record Judged : Type 0 where
  pub transceiver : TransceiverState
  pub offers : List Offer

-- the offer for acknowledged messages, if there are any
unfoldable pub acknowledgement_offers : TransceiverState → ℕ → List Offer
acknowledgement_offers h count =
    if nat_lt 0 count then acknowledgement_seen (nat_lt 0 h.sender.sent) ∷ [] else []

-- two of the last three units had one fault; if Odd reports faults, this unit has one too
unfoldable pub fault_offers : TransceiverState → Option Fault → List Offer
fault_offers h fault =
    if is_failing h.faults && (not h.odd || is_some fault) then two_bad ∷ [] else []

-- the offer for a unit by its fault; a unit without fault that follows an abnormal one is not
-- reported
abbrev pub odd_sign : Bool → Option Fault → List Offer
odd_sign behind (Some AbnormalBsn) = odd_seen 1 ∷ []
odd_sign behind (Some AbnormalFib) = odd_seen 2 ∷ []
odd_sign behind None = if behind then [] else unit_seen 8 ∷ []

-- the offer to reception control for a unit that went through the stores
abbrev pub sign_by : Bool → Bool → Option Fault → List Offer
sign_by odd behind fault = if odd then odd_sign behind fault else unit_seen 8 ∷ []

-- a unit that isn't taken: only its kind is offered, the status code or 8
abbrev pub left_aside : ℕ → TransceiverState → Judged
left_aside kind h = record { transceiver = h; offers = unit_seen kind ∷ [] }

abbrev pub through : TransceiverState → Stored → Judged
through h s =
    record {
      transceiver = s.transceiver;
      offers = acknowledgement_offers s.transceiver s.count
          ++ fault_offers s.transceiver s.fault ++ sign_by h.odd h.behind_odd s.fault;
    }

-- A fill-in or message signal unit goes through the stores if units are taken. Otherwise it is left
-- aside.
unfoldable pub by_stores : TransceiverState → Head → Option Msu → Judged
by_stores h head msu = if h.take then through h (heard h head msu) else left_aside 8 h

-- the monitors get their offers first
abbrev pub with_good : Judged → Judged
with_good j =
    record { transceiver = j.transceiver; offers = to_monitors notice.Good ++ j.offers }

unfoldable pub judged : TransceiverState → Unit → Judged
judged h (unit.Fisu head) = with_good (by_stores h head None)
judged h (unit.Msu head sio sif) =
    with_good (by_stores h head (Some (record { sio = sio; sif = sif })))
judged h (unit.Lssu head status second) = with_good (left_aside (status % 8) h)
