-- What each step of a terminal adds to its measurements (ITU-T Q.752), by the transceiver before
-- and after it. Counts stop at the greatest one.
use Rattle.std.specs.Prelude.{
  ℕ,
  ℤ,
  pos,
  negsuc,
  ◌+◌,
  ◌%◌,
  ◌==◌,
  nat_lt,
  ◌&&◌,
  ◌||◌,
  Bool,
  true,
  false,
}
use Rattle.std.specs.Prelude.{not, if◌then◌else◌, Option, Some, None, is_some, length}
use Rattle.resend_store.specs.Window.{last_acknowledged, round_left, reaches_number}
use Rattle.resend_store.specs.declared.measures.Measure.{Measure}
use Rattle.resend_store.specs.declared.measures.Measure.TheVariants as name
use Rattle.su_octets.specs.declared.units.Unit.{Unit}
use Rattle.su_octets.specs.declared.units.Unit.TheVariants as unit
use Rattle.link_transceiver.specs.declared.glances.Glance.{Glance}
use Rattle.link_transceiver.specs.declared.glances.Seen.{Seen}
use Rattle.link_transceiver.specs.declared.glances.Seen.TheVariants as seen
use Rattle.link_transceiver.specs.declared.measures.Errors.{Errors}
use Rattle.link_transceiver.specs.declared.measures.Failures.{Failures}
use Rattle.link_transceiver.specs.declared.measures.Measures.{Measures}
use Rattle.link_transceiver.specs.declared.measures.Rounds.{Rounds}
use Rattle.link_transceiver.specs.declared.measures.Spells.{Spells}
use Rattle.link_transceiver.specs.declared.measures.Traffic.{Traffic}
use Rattle.link_transceiver.specs.declared.measuring.Cause.{Cause}
use Rattle.link_transceiver.specs.declared.measuring.Cause.TheVariants as cause
use Rattle.link_transceiver.specs.declared.signals.EnvSignal.{EnvSignal}
use Rattle.link_transceiver.specs.declared.signals.EnvSignal.TheVariants as signal
use Rattle.link_transceiver.specs.declared.signals.LineKind.{LineKind}
use Rattle.link_transceiver.specs.declared.signals.LineKind.TheVariants as kind
use Rattle.link_transceiver.specs.Effects.{counted, kind_named}
use Rattle.link_transceiver.specs.Limits.{BUSY_CODE}
use Rattle.link_transceiver.specs.TransceiverState.{TransceiverState}

-- ---- what measurements read

-- whether the status of a processor outage is sent (Q.703, 8 and 11.1.3)
abbrev pub is_outage : Option LineKind → Bool
is_outage (Some (kind.Status code)) = code == 4
is_outage (Some kind.FillIn) = false
is_outage (Some kind.Messages) = false
is_outage None = false

abbrev pub is_messages : Option LineKind → Bool
is_messages (Some (kind.Status code)) = false
is_messages (Some kind.FillIn) = false
is_messages (Some kind.Messages) = true
is_messages None = false

unfoldable pub glance : TransceiverState → Glance
glance h = record {
  in_service = h.in_service;
  far_out = h.far_out;
  outage = is_outage h.line;
  busy = is_some h.withheld;
  sending = is_messages h.line;
  waiting = length h.messages;
  bib = h.receiver.bib;
  fib = h.sender.fib;
  sent = h.sender.sent;
  acknowledged = last_acknowledged h.sender;
  round = round_left h.sender;
  many = reaches_number h.sender;
}

-- the kind of a unit: a message with so many octets of SIO and SIF, a fill-in unit, or a status
unfoldable pub seen_of : Unit → Seen
seen_of (unit.Fisu head) = seen.FillIn
seen_of (unit.Lssu head status second) = seen.Status (status % 8)
seen_of (unit.Msu head sio sif) = seen.Message (length sif.items + 1)

abbrev pub octets_seen : Seen → ℕ
octets_seen (seen.Message octets) = octets
octets_seen seen.FillIn = 0
octets_seen (seen.Status code) = 0

abbrev pub is_message : Seen → Bool
is_message (seen.Message octets) = true
is_message seen.FillIn = false
is_message (seen.Status code) = false

-- whether a unit is a busy status (Q.703, 9)
abbrev pub is_sib : Seen → Bool
is_sib (seen.Message octets) = false
is_sib seen.FillIn = false
is_sib (seen.Status code) = code == BUSY_CODE

-- ---- counts

-- so many more are counted, if the condition holds
abbrev pub more_if : Bool → ℕ → ℕ → ℕ
more_if so more before = if so then counted before more else before

-- one more beginning is counted, if the condition holds
abbrev pub begun_if : Bool → Spells → Spells
begun_if so s = record s { number = more_if so 1 s.number }

-- so many ticks are added to the duration, if the condition holds
abbrev pub lasted_if : Bool → ℕ → Spells → Spells
lasted_if so ticks s = record s { time = more_if so ticks s.time }

-- nothing counted
abbrev pub no_spells : Spells
no_spells = record { number = 0; time = 0 }

abbrev pub no_failures : Failures
no_failures = record {
  all = 0;
  stops = 0;
  alignment = 0;
  errors = 0;
  far_end = 0;
  t1 = 0;
  numbers = 0;
  t7 = 0;
  t6 = 0;
}

abbrev pub no_errors : Errors
no_errors = record { units = 0; octets = 0; nacks_received = 0; nacks_sent = 0 }

abbrev pub no_traffic : Traffic
no_traffic = record {
  octets_sent = 0;
  octets_repeated = 0;
  octets_received = 0;
  messages_sent = 0;
  messages_received = 0;
}

abbrev pub measured_from : Bool → Measures
measured_from far_busy = record {
  service_time = 0;
  failures = no_failures;
  errors = no_errors;
  traffic = no_traffic;
  far_outages = no_spells;
  outages = no_spells;
  busy = no_spells;
  far_busy = no_spells;
  rounds = record { by_number = 0; by_octets = 0 };
  is_far_busy = far_busy;
}

-- the measurements of a new terminal
abbrev pub no_measures : Measures
no_measures = measured_from false

-- All counts restart at 0. Whether the far side is congested isn't a count, and stays.
unfoldable pub reset : Measures → Measures
reset m = measured_from m.is_far_busy

-- ---- ticks

-- So many ticks pass, through which a terminal stays in the given state.
unfoldable pub passed : ℕ → Glance → Measures → Measures
passed ticks g m = record m {
  service_time = more_if g.in_service ticks m.service_time;
  far_outages = lasted_if g.far_out ticks m.far_outages;
  outages = lasted_if g.outage ticks m.outages;
  busy = lasted_if g.busy ticks m.busy;
  far_busy = lasted_if m.is_far_busy ticks m.far_busy;
}

-- ---- the actors' signals

-- why a link went down
abbrev pub cause_by : ℕ → Cause
cause_by number =
    if number == 0 then cause.Stopped
    else (if number == 1 then cause.Alignment
    else (if number == 2 then cause.Errors
    else (if number == 3 then cause.FarEnd
    else (if number == 4 then cause.T1
    else (if number == 5 then cause.Numbers
    else (if number == 6 then cause.T7
    else (if number == 7 then cause.T6 else cause.Other)))))))

unfoldable pub cause_of : ℤ → Cause
cause_of (pos number) = cause_by number
cause_of (negsuc number) = cause.Other

abbrev pub stopped : Failures → Failures
stopped f = record f { stops = counted f.stops 1 }

abbrev pub failed : Failures → Failures
failed f = record f { all = counted f.all 1 }

-- A stop isn't a failure. A reason without its own count is one.
unfoldable pub down_by : Cause → Failures → Failures
down_by cause.Stopped f = stopped f
down_by cause.Alignment f = record (failed f) { alignment = counted f.alignment 1 }
down_by cause.Errors f = record (failed f) { errors = counted f.errors 1 }
down_by cause.FarEnd f = record (failed f) { far_end = counted f.far_end 1 }
down_by cause.T1 f = record (failed f) { t1 = counted f.t1 1 }
down_by cause.Numbers f = record (failed f) { numbers = counted f.numbers 1 }
down_by cause.T7 f = record (failed f) { t7 = counted f.t7 1 }
down_by cause.T6 f = record (failed f) { t6 = counted f.t6 1 }
down_by cause.Other f = failed f

-- The far side's congestion is over: it acknowledged something, no message is unacknowledged, or
-- none may be sent (Q.703, 9.3).
abbrev pub calmed : Measures → Measures
calmed m = record m { is_far_busy = false }

-- The kind of units sent changes. An outage of this side begins if its status is sent and wasn't
-- before. If messages are no longer sent, the far side's congestion is over.
abbrev pub directed_to : Option LineKind → Glance → Measures → Measures
directed_to (Some (kind.Status code)) g m =
    record m { outages = begun_if (code == 4 && not g.outage) m.outages; is_far_busy = false }
directed_to (Some kind.FillIn) g m = calmed m
directed_to (Some kind.Messages) g m = m
directed_to None g m = m

-- this side becomes congested when it begins to withhold acknowledgement (Q.703, 9)
abbrev pub withheld_from : Bool → Glance → Measures → Measures
withheld_from on g m = record m { busy = begun_if (on && not g.busy) m.busy }

-- an outage of the far side begins, if none was reported before or the last one was over
abbrev pub far_out_from : Glance → Measures → Measures
far_out_from g m = record m { far_outages = begun_if (not g.far_out) m.far_outages }

abbrev pub down_from : ℤ → Measures → Measures
down_from reason m =
    record m { failures = down_by (cause_of reason) m.failures; is_far_busy = false }

-- what a signal to the environment adds; `Glance` is the transceiver before it
unfoldable pub signal_counted : EnvSignal → Glance → Measures → Measures
signal_counted signal.Fresh g m = calmed m
signal_counted (signal.Take on) g m = m
signal_counted (signal.Deliver on) g m = m
signal_counted (signal.Line number) g m = directed_to (kind_named number) g m
signal_counted (signal.Withhold on) g m = withheld_from on g m
signal_counted signal.InServiceNow g m = m
signal_counted (signal.Down reason) g m = down_from reason m
signal_counted signal.RemoteOut g m = far_out_from g m
signal_counted signal.RemoteBack g m = m
signal_counted signal.Clear g m = m
signal_counted signal.Cleared g m = m

-- ---- received units

-- a received unit with errors; sixteen octets without a unit
unfoldable pub error_counted : Measures → Measures
error_counted m = record m { errors = record m.errors { units = counted m.errors.units 1 } }

unfoldable pub octets_counted : Measures → Measures
octets_counted m = record m { errors = record m.errors { octets = counted m.errors.octets 1 } }

-- A unit requested retransmission if the forward indicator bit turned. A negative acknowledgement
-- is sent if the backward indicator bit did (Q.703, 5).
abbrev pub nacks_counted : Glance → Glance → Errors → Errors
nacks_counted before after e = record e {
  nacks_received = more_if (not (before.fib == after.fib)) 1 e.nacks_received;
  nacks_sent = more_if (not (before.bib == after.bib)) 1 e.nacks_sent;
}

-- the unit's message was accepted if one more waits to be handed out
abbrev pub received_counted : Glance → Seen → Glance → Traffic → Traffic
received_counted before x after t = record t {
  octets_received =
      more_if (nat_lt before.waiting after.waiting) (octets_seen x) t.octets_received;
  messages_received = more_if (nat_lt before.waiting after.waiting) 1 t.messages_received;
}

-- a busy status is received while messages are unacknowledged and may be sent (Q.703, 9.3)
abbrev pub is_congested : Glance → Seen → Bool
is_congested g x = is_sib x && (g.sending && nat_lt 0 g.sent)

-- whether a unit acknowledged a message
abbrev pub acknowledges : Glance → Glance → Bool
acknowledges before after = not (before.acknowledged == after.acknowledged)

-- a unit without errors, by the transceiver before and after it (before the actors react)
unfoldable pub came_counted : Glance → Seen → Glance → Measures → Measures
came_counted before x after m = record m {
  errors = nacks_counted before after m.errors;
  traffic = received_counted before x after m.traffic;
  far_busy = begun_if (is_congested before x && not m.is_far_busy) m.far_busy;
  is_far_busy = (is_congested before x || m.is_far_busy) && not (acknowledges before after);
}

-- ---- sent units

-- A message is sent for the first time if one more is unacknowledged after it, else again.
abbrev pub is_first : Glance → Glance → Bool
is_first before after = nat_lt before.sent after.sent

abbrev pub sent_traffic : Glance → Seen → Glance → Traffic → Traffic
sent_traffic before x after t = record t {
  octets_sent = more_if (is_first before after) (octets_seen x) t.octets_sent;
  octets_repeated = more_if (not (is_first before after)) (octets_seen x) t.octets_repeated;
  messages_sent = more_if (is_first before after) 1 t.messages_sent;
}

abbrev pub some_left : Option ℕ → Bool
some_left None = false
some_left (Some left) = nat_lt 0 left

-- A round of forced retransmission begins with a message if one is under way after it, and none
-- before, or one with nothing left (Q.703, 6.4).
abbrev pub begins_round : Glance → Seen → Glance → Bool
begins_round before x after =
    is_message x && (is_some after.round && not (some_left before.round))

-- counted by number if the messages reach that limit, else by their octets
abbrev pub rounds_counted : Glance → Seen → Glance → Rounds → Rounds
rounds_counted before x after r = record r {
  by_number = more_if (begins_round before x after && after.many) 1 r.by_number;
  by_octets = more_if (begins_round before x after && not after.many) 1 r.by_octets;
}

-- a sent unit, by the transceiver before and after it (before the actors react)
unfoldable pub went_counted : Glance → Seen → Glance → Measures → Measures
went_counted before x after m = record m {
  traffic = sent_traffic before x after m.traffic;
  rounds = rounds_counted before x after m.rounds;
}

-- ---- by name

-- the value of a measurement
abbrev pub count_of : Measure → Measures → ℕ
count_of name.ServiceTime m = m.service_time
count_of name.Failures m = m.failures.all
count_of name.Stops m = m.failures.stops
count_of name.AlignmentFailures m = m.failures.alignment
count_of name.ErrorFailures m = m.failures.errors
count_of name.FarFailures m = m.failures.far_end
count_of name.T1Failures m = m.failures.t1
count_of name.NumberFailures m = m.failures.numbers
count_of name.T7Failures m = m.failures.t7
count_of name.T6Failures m = m.failures.t6
count_of name.ErroredUnits m = m.errors.units
count_of name.ErroredOctets m = m.errors.octets
count_of name.NacksReceived m = m.errors.nacks_received
count_of name.NacksSent m = m.errors.nacks_sent
count_of name.OctetsSent m = m.traffic.octets_sent
count_of name.OctetsRepeated m = m.traffic.octets_repeated
count_of name.OctetsReceived m = m.traffic.octets_received
count_of name.MessagesSent m = m.traffic.messages_sent
count_of name.MessagesReceived m = m.traffic.messages_received
count_of name.FarOutages m = m.far_outages.number
count_of name.FarOutageTime m = m.far_outages.time
count_of name.Outages m = m.outages.number
count_of name.OutageTime m = m.outages.time
count_of name.Busy m = m.busy.number
count_of name.BusyTime m = m.busy.time
count_of name.FarBusy m = m.far_busy.number
count_of name.FarBusyTime m = m.far_busy.time
count_of name.RoundsByNumber m = m.rounds.by_number
count_of name.RoundsByOctets m = m.rounds.by_octets
