-- What the actors' signals to the environment do.
use Rattle.std.specs.Prelude.{ℕ, ℤ, pos, negsuc, ◌+◌, ◌-◌, min, ◌==◌, nat_lt, Bool, true, false}
use Rattle.std.specs.Prelude.{if◌then◌else◌, Option, Some, None, List, [], ◌∷◌, ◌++◌, length, drop}
use Rattle.resend_store.specs.Window.{refreshed, emptied}
use Rattle.resend_store.specs.Intake.{Intake, first_intake}
use Rattle.link_transceiver.specs.declared.signals.Backward.{Backward}
use Rattle.link_transceiver.specs.declared.signals.EnvSignal.{EnvSignal}
use Rattle.link_transceiver.specs.declared.signals.EnvSignal.TheVariants as signal
use Rattle.link_transceiver.specs.declared.signals.Hold.{Hold}
use Rattle.link_transceiver.specs.declared.signals.Hold.TheVariants as hold
use Rattle.link_transceiver.specs.declared.signals.LineKind.{LineKind}
use Rattle.link_transceiver.specs.declared.signals.LineKind.TheVariants as kind
use Rattle.link_transceiver.specs.declared.signals.LinkStatus.{LinkStatus}
use Rattle.link_transceiver.specs.declared.signals.LinkStatus.TheVariants as status
use Rattle.link_transceiver.specs.Limits.{KEPT_STATUSES, MOST_COUNTED}
use Rattle.link_transceiver.specs.Faults.{no_faults}
use Rattle.link_transceiver.specs.TransceiverState.{TransceiverState}

-- the last accepted message's number, and the receiver's backward indicator bit
abbrev pub backward_of : Intake → Backward
backward_of r = record { bsn = r.last; bib = r.bib }

-- a withheld number and bit become those of a receiver that has accepted nothing
abbrev pub renewed_backward : Option Backward → Option Backward
renewed_backward (Some b) = Some (record { bsn = 127; bib = 1 })
renewed_backward None = None

-- a link held until both directions restart is released
abbrev pub renewed_hold : Hold → Hold
renewed_hold hold.Free = hold.Free
renewed_hold hold.UntilAnew = hold.Free
renewed_hold hold.Kept = hold.Kept

-- The link is aligned again: both stores restart, faults of earlier units are forgotten, and
-- messages are accepted.
unfoldable pub renewed : TransceiverState → TransceiverState
renewed h = record h {
  sender = refreshed h.sender;
  receiver = first_intake h.receiver.mode;
  withheld = renewed_backward h.withheld;
  hold = renewed_hold h.hold;
  deliver = true;
  behind_odd = false;
  spare = 0;
  faults = no_faults;
  began = true;
}

-- so many more messages were cleared
abbrev pub counted : ℕ → ℕ → ℕ
counted before more = min MOST_COUNTED (before + more)

-- The buffers are cleared (Q.703, figure 13): waiting and unacknowledged messages go, and the
-- numbers continue after the last acknowledged one.
unfoldable pub clears : TransceiverState → TransceiverState
clears h = record h {
  sender = emptied h.sender None;
  spare = if nat_lt 0 h.sender.sent then h.sender.sent else h.spare;
  clearing = false;
  cleared = counted h.cleared (length h.sender.kept);
}

-- the kind of unit to send that a number names; other numbers name none
abbrev pub kind_by : ℕ → Option LineKind
kind_by number =
    if nat_lt number 5 then Some (kind.Status number)
    else (if number == 8 then Some kind.FillIn
    else (if number == 9 then Some kind.Messages else None))

unfoldable pub kind_named : ℤ → Option LineKind
kind_named (pos number) = kind_by number
kind_named (negsuc number) = None

-- whether the number is that of the status 'busy'
unfoldable pub is_busy_named : ℤ → Bool
is_busy_named (pos number) = number == 5
is_busy_named (negsuc number) = false

-- This kind is sent from now on, and a busy status requested before isn't.
abbrev pub sends : Option LineKind → TransceiverState → TransceiverState
sends (Some k) h = record h { line = Some k; busy = false }
sends None h = h

-- The number 5 requests one busy status, sent first. Any other number sets what is sent.
unfoldable pub directed : ℤ → TransceiverState → TransceiverState
directed number h =
    if is_busy_named number then record h { busy = true } else sends (kind_named number) h

-- the latest statuses, as many as are kept; older ones are dropped
unfoldable pub latest : List LinkStatus → List LinkStatus
latest statuses = drop (length statuses - KEPT_STATUSES) statuses

-- one more status is queued
unfoldable pub told : LinkStatus → TransceiverState → TransceiverState
told s h = record h { statuses = latest (h.statuses ++ s ∷ []) }

-- While acknowledgement is withheld, number and bit stay as they were at the last such request,
-- whatever is received (Q.703, 9).
abbrev pub withheld_by : Bool → TransceiverState → TransceiverState
withheld_by true h = record h { withheld = Some (backward_of h.receiver) }
withheld_by false h = record h { withheld = None }

unfoldable pub effect : EnvSignal → TransceiverState → TransceiverState
effect signal.Fresh h = renewed h
effect (signal.Take on) h = record h { take = on }
effect (signal.Deliver on) h = record h { deliver = on }
effect (signal.Line number) h = directed number h
effect (signal.Withhold on) h = withheld_by on h
effect signal.InServiceNow h = told status.InService (record h { in_service = true; came = true })
effect (signal.Down reason) h =
    told (status.Down reason) (record h { in_service = false; far_out = false })
effect signal.RemoteOut h = told status.RemoteOut (record h { far_out = true })
effect signal.RemoteBack h = told status.RemoteBack (record h { far_out = false })
effect signal.Clear h = record h { clearing = true }
effect signal.Cleared h = told status.Cleared h
