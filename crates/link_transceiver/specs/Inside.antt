-- The value and the invariant of a transceiver's fields.
use Rattle.std.specs.Prelude.{IfSome}
use Rattle.link_transceiver.specs.declared.transceiver.Transceiver.TheInside.{Inside}
use Rattle.link_transceiver.specs.TransceiverState.{TransceiverState, IsBackward}

abbrev pub transceiver_state_of : Inside → TransceiverState
transceiver_state_of s = record {
  sender = s.sender;
  receiver = s.receiver;
  take = s.take;
  deliver = s.deliver;
  withheld = s.withheld;
  line = s.line;
  busy = s.busy;
  hold = s.hold;
  odd = s.odd;
  behind_odd = s.behind_odd;
  spare = s.spare;
  clearing = s.clearing;
  cleared = s.cleared;
  faults = s.faults;
  messages = s.messages;
  statuses = s.statuses;
  in_service = s.in_service;
  far_out = s.far_out;
  came = s.came;
  began = s.began;
}

abbrev pub IsTransceiver : Inside → Type 0
IsTransceiver s = IfSome s.withheld IsBackward
