-- The octets formed so far.
use Rattle.std.proofs.Common.{◌≡◌, ◌*◌, take}
use Rattle.su_octets.specs.Bits.{bits_of}
use Rattle.script_ends.proofs.unit_line.octets_of.Given as goal

abbrev pub invariant-loop-place : goal.invariant-loop-place
invariant-loop-place l = bits_of l.octets.items ≡ take (8 * l.place) l.bits
