use Rattle.std.proofs.Common.{◌≡◌, ℕ, ◌+◌, ◌*◌, ◌<◌, ◌≤◌, Bool, List, ◌++◌, reverse, take}
use Rattle.arrayvec.specs.ArrayVec.{array_vec_len}
use Rattle.su_octets.specs.Bits.{bits_of}
use Rattle.bit_line.specs.Parts.{Packed}
use Rattle.bit_line.specs.Stuffing.{trailing, stuffed}
use Rattle.bit_line.proofs.stuffer.push_unit.Given as goal

abbrev pub invariant-loop-octet : goal.invariant-loop-octet
invariant-loop-octet l = record {
  packed : (before : List ℕ) (h : List Bool) → Packed (before ++ l.initial.line.items) l.initial.part.bits l.initial.part.len h
      → Packed (before ++ l.line.items) l.part.bits l.part.len (stuffed (reverse (bits_of (take l.octet-index l.octets))) ++ h);
  ones : l.ones ≡ trailing (stuffed (reverse (bits_of (take l.octet-index l.octets))));
  few : l.ones < 5;
  len : 5 * (8 * array_vec_len l.line + l.part.len) + l.ones ≤ 75 + 48 * l.octet-index;
}
