-- The meaning of a count of line bits.
use Rattle.std.specs.Prelude.{◌≡◌, Bool, List, length}
use Rattle.bit_line.specs.Stuffing.{trailing, stuffed}
use Rattle.mtp2_frame.specs.declared.line_bits.LineBits.{LineBits}

-- the bits of a signal unit so far, the newest one first, take `count` bits on the line, and these
-- end in `ones` consecutive 1s
pub record Counts (sent : List Bool) (line : LineBits) : Type 0 where
  pub count : line.count ≡ length (stuffed sent)
  pub ones : line.ones ≡ trailing (stuffed sent)
