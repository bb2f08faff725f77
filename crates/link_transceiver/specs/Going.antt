-- The next unit to send.
use Rattle.std.specs.Prelude.{ℕ, false, if◌then◌else◌, Option, Some, None, unwrap_or}
use Rattle.resend_store.specs.Window.{Window, Sending, next, fill_in}
use Rattle.resend_store.specs.declared.messages.Msu.{Msu}
use Rattle.su_octets.specs.declared.units.Head.{Head}
use Rattle.su_octets.specs.declared.units.Unit.{Unit}
use Rattle.su_octets.specs.declared.units.Unit.TheVariants as unit
use Rattle.link_transceiver.specs.declared.offers.UnitOut.{UnitOut}
use Rattle.link_transceiver.specs.declared.signals.Backward.{Backward}
use Rattle.link_transceiver.specs.declared.signals.LineKind.{LineKind}
use Rattle.link_transceiver.specs.declared.signals.LineKind.TheVariants as kind
use Rattle.link_transceiver.specs.Limits.{BUSY_CODE}
use Rattle.link_transceiver.specs.TransceiverState.{TransceiverState, is_held}
use Rattle.link_transceiver.specs.Effects.{backward_of}
use Rattle.link_transceiver.specs.Offers.{message_sent}

-- the next unit of a sender
unfoldable pub gives : Window → Sending
gives w = next w

-- the forward number of a unit without a message
unfoldable pub idle_fsn : Window → ℕ
idle_fsn w = (fill_in w).unit.fsn

-- The backward number and bit to send: the receiver's, or, while acknowledgement is withheld, the
-- receiver's when withholding began.
abbrev pub backward_out : TransceiverState → Backward
backward_out h = unwrap_or h.withheld (backward_of h.receiver)

-- the head of a unit with the sender's number and bit
abbrev pub head_with : TransceiverState → ℕ → ℕ → Head
head_with h fsn fib =
    record { bsn = (backward_out h).bsn; bib = (backward_out h).bib; fsn = fsn; fib = fib }

-- the head of a unit that doesn't come from the sender
unfoldable pub idle_head : TransceiverState → Head
idle_head h = head_with h (idle_fsn h.sender) h.sender.fib

-- a unit whose sending isn't reported to any actor
abbrev pub quiet : Unit → UnitOut
quiet u = record { unit = u; offer = None }

pub record Gone : Type 0 where
  pub transceiver : TransceiverState
  pub out : Option UnitOut

-- a link status signal unit with one octet of status
abbrev pub status_gone : TransceiverState → ℕ → Gone
status_gone h code =
    record { transceiver = h; out = Some (quiet (unit.Lssu (idle_head h) code None)) }

abbrev pub fill_in_gone : TransceiverState → Gone
fill_in_gone h = record { transceiver = h; out = Some (quiet (unit.Fisu (idle_head h))) }

-- each message sent is reported, a repeated one too
abbrev pub filled : Head → Option Msu → UnitOut
filled head (Some msu) = record { unit = unit.Msu head msu.sio msu.sif; offer = Some message_sent }
filled head None = quiet (unit.Fisu head)

-- Once a message is sent, no number acknowledges messages cleared before it.
abbrev pub spare_behind : Option Msu → ℕ → ℕ
spare_behind (Some msu) spare = 0
spare_behind None spare = spare

abbrev pub sender_gone : TransceiverState → Sending → Gone
sender_gone h s = record {
  transceiver = record h { sender = s.left; spare = spare_behind s.unit.msu h.spare };
  out = Some (filled (head_with h s.unit.fsn s.unit.fib) s.unit.msu);
}

-- If messages are to be sent, a message is sent, or a fill-in unit if there is none. While level 3
-- holds the link, a fill-in unit replaces it. The numbers don't change, and messages to send or to
-- retransmit wait.
abbrev pub message_gone : TransceiverState → Gone
message_gone h = if is_held h.hold then fill_in_gone h else sender_gone h (gives h.sender)

abbrev pub gone_by : TransceiverState → Option LineKind → Gone
gone_by h None = record { transceiver = h; out = None }
gone_by h (Some (kind.Status code)) = status_gone h code
gone_by h (Some kind.FillIn) = fill_in_gone h
gone_by h (Some kind.Messages) = message_gone h

unfoldable pub gone : TransceiverState → Gone
gone h = if h.busy then status_gone (record h { busy = false }) BUSY_CODE else gone_by h h.line
