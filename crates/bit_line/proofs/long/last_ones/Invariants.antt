use Rattle.std.proofs.Common.{◌≡◌, ◌+◌, ◌-◌, reverse}
use Rattle.su_octets.specs.Bits.{low_bits}
use Rattle.bit_line.specs.Stuffing.{trailing}
use Rattle.bit_line.proofs.long.last_ones.Given as goal

abbrev pub invariant-loop-i : goal.invariant-loop-i
invariant-loop-i l = trailing (reverse (low_bits l.len l.bits)) ≡ l.i + trailing (reverse (low_bits (l.len - l.i) l.bits))
