use Rattle.std.proofs.Common.{◌+◌, ◌*◌, ◌≤◌, ◌<◌, Bool, List, ◌++◌, reverse}
use Rattle.su_octets.specs.Bits.{low_bits}
use Rattle.mtp2_frame.specs.LineBits.{Counts}
use Rattle.mtp2_frame.proofs.line_bits.with_octet.Given as goal

abbrev pub invariant-loop-place : goal.invariant-loop-place
invariant-loop-place l = record {
  counts : (sent : List Bool) → Counts sent l.fn.line → Counts (reverse (low_bits l.place l.octet) ++ sent) l.counted;
  count : l.counted.count ≤ l.fn.line.count + 2 * l.place;
  ones : l.counted.ones < 5;
}
