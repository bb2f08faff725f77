-- One direction of a link: a sender, a receiver, and a line each way. The lines may lose units and
-- delay them, but never change their order.
use Rattle.std.specs.Prelude.{◌≡◌, ℕ, ◌≤◌, ◌&&◌, not, Bool, true, false, if◌then◌else◌, Some, List}
use Rattle.std.specs.Prelude.{[], ◌∷◌, ◌++◌, is_some}
use Rattle.std.specs.Option.{option_to_list}
use Rattle.resend_store.specs.declared.messages.Msu.{Msu}
use Rattle.resend_store.specs.declared.messages.Mode.{Mode}
use Rattle.resend_store.specs.declared.messages.Outgoing.{Outgoing}
use Rattle.resend_store.specs.declared.messages.RoundLimits.{RoundLimits}
use Rattle.resend_store.specs.Window.{Window, start_within, next, count_by, retrieved}
use Rattle.resend_store.specs.Intake.{Intake, first_intake, hear}
use Rattle.resend_store.specs.Runs.{put, put_diverted, on_back, step, brought}
use Rattle.resend_store.specs.Hearings.{is_accept}

-- the backward part of a unit: the number of the message accepted last, and the bit
pub record Answer : Type 0 where
  pub bsn : ℕ
  pub bib : ℕ

pub record Exchange : Type 0 where
  pub sender : Window
  pub receiver : Intake
  -- under way to the receiver, and back; the next to arrive comes first
  pub forth : List Outgoing
  pub back : List Answer
  -- the messages that the sender took, and those that the receiver accepted, in order
  pub taken : List Msu
  pub delivered : List Msu

pub data Event : Type 0 where
  -- the sender takes a message, or one retrieved from another link
  gets : Msu → Event
  gets_diverted : Msu → Event
  -- the sender sends a unit; the receiver sends an answer
  sends : Event
  answers : Event
  -- the first unit under way arrives, or is lost
  arrives : Event
  is_lost : Event
  -- the first answer under way arrives, or is lost
  comes_back : Event
  is_lost_back : Event

-- both sides start over while these messages wait
abbrev pub exchange_anew : RoundLimits → Mode → List Msu → Exchange
exchange_anew limits mode messages =
    record {
      sender = record (start_within limits mode) { kept = messages };
      receiver = first_intake mode;
      forth = [];
      back = [];
      taken = messages;
      delivered = [];
    }

-- nothing was put yet
abbrev pub exchange_start : RoundLimits → Mode → Exchange
exchange_start limits mode = exchange_anew limits mode []

-- a unit arrives at the receiver
abbrev pub hears : Exchange → Outgoing → Exchange
hears x u =
    let heard = hear x.receiver u.fsn u.fib (is_some u.msu) in
    record x {
      receiver = heard.known;
      delivered = x.delivered ++ (if is_accept heard.verdict then option_to_list u.msu else []);
    }

abbrev pub first_arrives : Exchange → List Outgoing → Exchange
first_arrives x [] = x
first_arrives x (u ∷ us) = hears (record x { forth = us }) u

abbrev pub first_is_lost : Exchange → List Outgoing → Exchange
first_is_lost x [] = x
first_is_lost x (u ∷ us) = record x { forth = us }

abbrev pub first_comes_back : Exchange → List Answer → Exchange
first_comes_back x [] = x
first_comes_back x (b ∷ bs) = record x { back = bs; sender = step x.sender (on_back b.bsn b.bib) }

abbrev pub first_is_lost_back : Exchange → List Answer → Exchange
first_is_lost_back x [] = x
first_is_lost_back x (b ∷ bs) = record x { back = bs }

abbrev pub exchange_step : Exchange → Event → Exchange
exchange_step x (gets m) =
    record x { sender = step x.sender (put m); taken = x.taken ++ brought x.sender (put m) }
exchange_step x (gets_diverted m) =
    record x {
      sender = step x.sender (put_diverted m);
      taken = x.taken ++ brought x.sender (put_diverted m);
    }
exchange_step x sends =
    record x { sender = (next x.sender).left; forth = x.forth ++ (next x.sender).unit ∷ [] }
exchange_step x answers =
    record x { back = x.back ++ record { bsn = x.receiver.last; bib = x.receiver.bib } ∷ [] }
exchange_step x arrives = first_arrives x x.forth
exchange_step x is_lost = first_is_lost x x.forth
exchange_step x comes_back = first_comes_back x x.back
exchange_step x is_lost_back = first_is_lost_back x x.back

abbrev pub exchange_after : Exchange → List Event → Exchange
exchange_after x [] = x
exchange_after x (e ∷ es) = exchange_after (exchange_step x e) es

-- Whatever happens, the accepted messages are a prefix of those that the sender took: none in
-- between is lost, none is accepted twice, and the order stays.
abbrev pub DeliversInOrder : Type 0
DeliversInOrder = (limits : RoundLimits) (mode : Mode) (events : List Event) →
    let x = exchange_after (exchange_start limits mode) events in
    (missing : List Msu) × (x.taken ≡ x.delivered ++ missing)

-- whether a unit arrives at the receiver
abbrev pub is_arrival : Event → Bool
is_arrival arrives = true
is_arrival _ = false

-- No unit arrives, so nothing is accepted. A receiver on a link that level 3 holds discards units
-- as if they were lost.
abbrev pub none_arrives : List Event → Bool
none_arrives [] = true
none_arrives (e ∷ es) = not (is_arrival e) && none_arrives es

-- Both sides start over while some messages wait. Later the number that was accepted last is
-- reported, and nothing more is accepted, however long the report takes and whatever else happens.
-- The messages accepted, and then those retrieved with that number, are those that the sender took:
-- none is lost, none is doubled, and the order stays. That number is never refused as one that
-- acknowledges more than was sent.
pub record RetrievalCompletes : Type 0 where
  pub taken : (limits : RoundLimits) (mode : Mode) (waiting : List Msu) (events later : List Event)
      → none_arrives later ≡ true →
      let x = exchange_after (exchange_anew limits mode waiting) events in
      let y = exchange_after x later in
      y.taken ≡ y.delivered ++ retrieved y.sender (Some x.receiver.last)
  pub known : (limits : RoundLimits) (mode : Mode) (waiting : List Msu) (events later : List Event)
      → none_arrives later ≡ true →
      let x = exchange_after (exchange_anew limits mode waiting) events in
      let y = exchange_after x later in
      count_by y.sender x.receiver.last ≤ y.sender.sent
