use Rattle.std.proofs.Common.{◌-◌, ◌≤◌, Bool, List, ◌++◌, reverse}
use Rattle.su_octets.specs.Bits.{low_bits}
use Rattle.bit_line.specs.Deframing.{StandsAt}
use Rattle.bit_line.specs.declared.events.LineEvent.{LineEvent}
use Rattle.bit_line.proofs.receiver.Receiver.push_bits.Given as goal

abbrev pub invariant-loop-taken : goal.invariant-loop-taken
invariant-loop-taken l = record {
  stands : (h : List Bool) (before : List LineEvent) → StandsAt h (before ++ l.initial.events.items) l.initial.self
      → StandsAt (reverse (low_bits l.taken l.octet) ++ h) (before ++ l.events.items) l.self;
  most : l.taken ≤ 8;
}

abbrev pub decreases-loop-taken : goal.decreases-loop-taken
decreases-loop-taken l = 8 - l.taken
