-- What a signalling link terminal keeps besides its actors and its line.
use Rattle.std.specs.Prelude.{◌<◌, ℕ, Bool, true, false, not, Option, None, List, []}
use Rattle.resend_store.specs.Window.{Window, start_within}
use Rattle.resend_store.specs.Intake.{Intake, first_intake}
use Rattle.resend_store.specs.declared.messages.Mode.{Mode}
use Rattle.resend_store.specs.declared.messages.Msu.{Msu}
use Rattle.resend_store.specs.declared.messages.RoundLimits.{RoundLimits}
use Rattle.resend_store.specs.Messages.{usual_limits}
use Rattle.link_transceiver.specs.declared.faults.Fault.{Fault}
use Rattle.link_transceiver.specs.declared.signals.Hold.{Hold}
use Rattle.link_transceiver.specs.declared.signals.Hold.TheVariants as hold
use Rattle.link_transceiver.specs.declared.signals.LineKind.{LineKind}
use Rattle.link_transceiver.specs.declared.signals.LinkStatus.{LinkStatus}
use Rattle.link_transceiver.specs.declared.signals.Backward.{Backward}
use Rattle.link_transceiver.specs.Faults.{no_faults}

-- a backward number and bit within their ranges
pub record IsBackward (b : Backward) : Type 0 where
  pub number : b.bsn < 128
  pub indicator : b.bib < 2

-- whether a link is held, until both its directions restart or until level 3 says otherwise
unfoldable pub is_held : Hold → Bool
is_held hold.Free = false
is_held hold.UntilAnew = true
is_held hold.Kept = true

pub record TransceiverState : Type 0 where
  -- the messages to send, and their sequence numbers
  pub sender : Window
  -- which messages of the far side were accepted
  pub receiver : Intake
  -- whether fill-in and message signal units go through both stores
  pub take : Bool
  -- whether received messages are accepted, or judged and then discarded
  pub deliver : Bool
  -- the backward sequence number and indicator bit that go out in place of the receiver's
  pub withheld : Option Backward
  -- the kind of units sent; none until it is first set
  pub line : Option LineKind
  -- whether one unit that reports congestion is sent first
  pub busy : Bool
  -- whether level 3 holds the link: then it sends and accepts no message
  pub hold : Hold
  -- whether Odd reports abnormal units and the unit after one is discarded
  pub odd : Bool
  -- whether the last unit was abnormal, so that the next one is discarded
  pub behind_odd : Bool
  -- how many messages were unacknowledged when the buffers were cleared; 0 once a message is sent
  pub spare : ℕ
  -- whether the buffers are to be cleared
  pub clearing : Bool
  -- how many messages were cleared
  pub cleared : ℕ
  -- the faults of the last three units that went through the stores, the newest first
  pub faults : List (Option Fault)
  -- messages accepted and not yet handed out, the oldest first
  pub messages : List Msu
  -- statuses not yet handed out, the oldest first
  pub statuses : List LinkStatus
  -- whether the link is in service, as last reported
  pub in_service : Bool
  -- whether the far side has a processor outage, as last reported
  pub far_out : Bool
  -- whether the link came into service since that was last read
  pub came : Bool
  -- whether both directions restarted since that was last read
  pub began : Bool

-- the messages held for sending, the oldest first
abbrev pub kept_of : TransceiverState → List Msu
kept_of h = h.sender.kept

-- how many of them were sent and aren't acknowledged
abbrev pub sent_of : TransceiverState → ℕ
sent_of h = h.sender.sent

-- the forward sequence number of the last accepted message
abbrev pub last_accepted : TransceiverState → ℕ
last_accepted h = h.receiver.last

-- the state of a new terminal, with these limits of forced retransmission
abbrev pub first_within : RoundLimits → Mode → TransceiverState
first_within limits mode = record {
  sender = start_within limits mode;
  receiver = first_intake mode;
  take = false;
  deliver = true;
  withheld = None;
  line = None;
  busy = false;
  hold = hold.Free;
  odd = false;
  behind_odd = false;
  spare = 0;
  clearing = false;
  cleared = 0;
  faults = no_faults;
  messages = [];
  statuses = [];
  in_service = false;
  far_out = false;
  came = false;
  began = false;
}

-- the state of a new terminal, with the usual limits
unfoldable pub first_transceiver : Mode → TransceiverState
first_transceiver mode = first_within usual_limits mode
