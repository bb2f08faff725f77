use Rattle.std.proofs.Common.{◌+◌, ◌-◌, ◌*◌, ◌≤◌, Bool, List, ◌++◌, reverse}
use Rattle.std.specs.Prelude.{unwrap_or}
use Rattle.arrayvec.specs.ArrayVec.{array_vec_len}
use Rattle.su_octets.specs.Bits.{low_bits}
use Rattle.bit_line.specs.Deframing.{StandsAt}
use Rattle.bit_line.specs.declared.events.LineEvent.{LineEvent}
use Rattle.bit_line.proofs.receiver.Receiver.feed_byte.Given as goal

abbrev pub invariant-loop-taken : goal.invariant-loop-taken
invariant-loop-taken l = record {
  stands : (h : List Bool) (events : List LineEvent) → StandsAt h events l.initial.self → StandsAt (reverse (low_bits l.taken l.octet) ++ h) (events ++ l.events.items) l.self;
  room : 128 * array_vec_len l.events + unwrap_or l.self.counter.count 0 + 16 * l.initial.self.gate.wait
      ≤ 16 * l.self.gate.wait + 17 * l.taken + unwrap_or l.initial.self.counter.count 0;
  most : l.taken ≤ 8;
}

abbrev pub decreases-loop-taken : goal.decreases-loop-taken
decreases-loop-taken l = 8 - l.taken
