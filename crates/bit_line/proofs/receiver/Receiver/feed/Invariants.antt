use Rattle.std.proofs.Common.{◌-◌, ◌≤◌, Bool, List, ◌++◌, length, reverse, take}
use Rattle.su_octets.specs.Bits.{bits_of}
use Rattle.bit_line.specs.Deframing.{StandsAt}
use Rattle.bit_line.specs.declared.events.LineEvent.{LineEvent}
use Rattle.bit_line.proofs.receiver.Receiver.feed.Given as goal

abbrev pub invariant-loop-taken : goal.invariant-loop-taken
invariant-loop-taken l = record {
  within : l.taken ≤ length l.octets;
  stands : (h : List Bool) (before : List LineEvent) → StandsAt h before l.initial.next
      → StandsAt (reverse (bits_of (take l.taken l.octets)) ++ h) (before ++ l.events.items) l.next;
}

abbrev pub decreases-loop-taken : goal.decreases-loop-taken
decreases-loop-taken l = length l.octets - l.taken
