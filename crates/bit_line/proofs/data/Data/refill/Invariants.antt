use Rattle.std.proofs.Common.{◌≡◌, ◌+◌, ◌*◌, ◌^◌, ◌<◌, ◌++◌}
use Rattle.arrayvec.specs.ArrayVec.{array_vec_len}
use Rattle.su_octets.specs.Bits.{low_bits, bits_of}
use Rattle.bit_line.proofs.data.Data.refill.Given as goal

abbrev pub invariant-loop-left : goal.invariant-loop-left
invariant-loop-left l = record {
  bits : bits_of l.self.octets.items ++ low_bits l.left l.rest ≡ low_bits l.len l.bits;
  fits : l.rest < 2 ^ l.left;
  room : 8 * array_vec_len l.self.octets + l.left ≡ l.len;
}

abbrev pub decreases-loop-left : goal.decreases-loop-left
decreases-loop-left l = l.left
