use Rattle.std.proofs.Common.{◌*◌, ◌≤◌, ◌<◌, reverse, take}
use Rattle.su_octets.specs.Bits.{bits_of}
use Rattle.mtp2_frame.specs.LineBits.{Counts}
use Rattle.mtp2_frame.proofs.line_bits.line_bits.Given as goal

abbrev pub invariant-loop-octet : goal.invariant-loop-octet
invariant-loop-octet l = record {
  counts : Counts (reverse (bits_of (take l.octet-index l.octets))) l.line;
  count : l.line.count ≤ 16 * l.octet-index;
  ones : l.line.ones < 5;
}
