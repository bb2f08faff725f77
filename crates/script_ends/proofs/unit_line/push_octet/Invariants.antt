-- The bits appended so far.
use Rattle.std.proofs.Common.{◌<◌, Bool, List, ◌++◌, reverse}
use Rattle.su_octets.specs.Bits.{low_bits}
use Rattle.script_ends.specs.UnitLines.{IsSent}
use Rattle.script_ends.proofs.unit_line.push_octet.Given as goal

abbrev pub invariant-loop-i : goal.invariant-loop-i
invariant-loop-i l = record {
  sent : (before sent : List Bool) → IsSent before sent l.initial.line.items l.fn.ones → IsSent before (reverse (low_bits l.i l.octet) ++ sent) l.line.items l.count;
  few : l.count < 5;
}
