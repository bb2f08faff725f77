use Rattle.std.proofs.Common.{Bool, List, ◌++◌, reverse}
use Rattle.su_octets.specs.Bits.{low_bits}
use Rattle.bit_line.specs.Deframing.{Gathers}
use Rattle.bit_line.proofs.data.Data.push_each.Given as goal

abbrev pub invariant-loop-i : goal.invariant-loop-i
invariant-loop-i l = (h : List Bool) → Gathers h l.initial.self → Gathers (reverse (low_bits l.i l.bits) ++ h) l.self
