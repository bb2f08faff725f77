use Rattle.std.proofs.Common.{◌+◌, ◌≤◌, length, drop}
use Rattle.bit_line.specs.Events.{closings}
use Rattle.link_processes.specs.declared.processes.Processes.{Processes}
use Rattle.link_transceiver.specs.Limits.{KEPT_MESSAGES}
use Rattle.link_term.specs.Hearing.{AreTaken}
use Rattle.link_term.proofs.reading.take_events.Given as goal

abbrev pub invariant-loop-event : goal.invariant-loop-event
invariant-loop-event l = record {
  room : length l.processes.transceiver.messages + closings (drop l.event-index l.events) ≤ KEPT_MESSAGES;
  taken : (v : Processes) → AreTaken (drop l.event-index l.events) l.processes v → AreTaken l.events l.initial.processes v;
}
