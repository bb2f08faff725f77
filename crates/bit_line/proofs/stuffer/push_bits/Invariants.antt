use Rattle.std.proofs.Common.{◌≡◌, ℕ, ◌+◌, ◌*◌, ◌<◌, ◌≤◌, Bool, List, ◌++◌, reverse}
use Rattle.arrayvec.specs.ArrayVec.{array_vec_len}
use Rattle.su_octets.specs.Bits.{low_bits}
use Rattle.bit_line.specs.Parts.{Packed}
use Rattle.bit_line.specs.Stuffing.{trailing, stuffed}
use Rattle.bit_line.proofs.stuffer.push_bits.Given as goal

abbrev pub invariant-loop-i : goal.invariant-loop-i
invariant-loop-i l = record {
  packed : (before : List ℕ) (sent h : List Bool) → l.fn.ones ≡ trailing (stuffed sent)
      → Packed (before ++ l.initial.line.items) l.initial.part.bits l.initial.part.len (stuffed sent ++ h)
      → Packed (before ++ l.line.items) l.part.bits l.part.len (stuffed (reverse (low_bits l.i l.octet) ++ sent) ++ h);
  ones : (sent : List Bool) → l.fn.ones ≡ trailing (stuffed sent) → l.count ≡ trailing (stuffed (reverse (low_bits l.i l.octet) ++ sent));
  few : l.count < 5;
  len : 5 * (8 * array_vec_len l.line + l.part.len) + l.count
      ≤ 5 * (8 * array_vec_len l.initial.line + l.initial.part.len) + l.fn.ones + 6 * l.i;
}
