use Rattle.std.proofs.Common.{◌-◌, ◌≤◌, Bool, List, ◌++◌, length, take}
use Rattle.su_octets.specs.Bits.{bits_of}
use Rattle.bit_line.specs.Deframing.{Stands}
use Rattle.bit_line.specs.Events.{AreEvents}
use Rattle.bit_line.specs.declared.events.LineEvent.{LineEvent}
use Rattle.bit_line.proofs.receiver.Receiver.feed_until.Given as goal

abbrev pub invariant-loop-taken : goal.invariant-loop-taken
invariant-loop-taken l = record {
  within : l.taken ≤ length l.octets;
  stands : (bits : List Bool) → Stands bits l.initial.self → Stands (bits ++ bits_of (take l.taken l.octets)) l.self;
  quiet : (bits : List Bool) (events : List LineEvent) → Stands bits l.initial.self → AreEvents bits events → AreEvents (bits ++ bits_of (take l.taken l.octets)) events;
}

abbrev pub decreases-loop-taken : goal.decreases-loop-taken
decreases-loop-taken l = length l.octets - l.taken
