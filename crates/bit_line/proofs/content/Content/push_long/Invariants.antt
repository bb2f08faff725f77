use Rattle.std.proofs.Common.{Bool, List, ◌++◌, reverse}
use Rattle.su_octets.specs.Bits.{low_bits}
use Rattle.bit_line.specs.Deframing.{Holds}
use Rattle.bit_line.proofs.content.Content.push_long.Given as goal

abbrev pub invariant-loop-i : goal.invariant-loop-i
invariant-loop-i l = (h : List Bool) → Holds h l.initial.self → Holds (reverse (low_bits l.i l.bits) ++ h) l.self
