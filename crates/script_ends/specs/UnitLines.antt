-- The line octets of a received signal unit.
use Rattle.std.specs.Prelude.{◌≡◌, ℕ, ◌<◌, zero, suc, Bool, List, [], ◌++◌, drop, reverse}
use Rattle.su_octets.specs.Bits.{bits_of}
use Rattle.su_octets.specs.Check.{Check}
use Rattle.bit_line.specs.Stuffing.{trailing, stuffed, stuffing_of}
use Rattle.bit_line.specs.Sending.{flag}

-- k flags, each of which shares its first 0 with the flag before it.
unfoldable pub shared_flags : ℕ → List Bool
shared_flags zero = []
shared_flags (suc k) = shared_flags k ++ drop 1 flag

-- The bits of the line are a flag, then the octets and their check octets with a 0 after each five
-- consecutive 1s, then a flag (Q.703, 3.1, 3.2 and 4.2). Flags that share a 0 follow, fewer than
-- eight, until one ends an octet: each adds seven bits, so that their number is unique.
pub record IsLineOf (octets line : List ℕ) : Type 0 where
  pub check : List ℕ
  pub checked : Check octets check
  pub flags : ℕ
  pub few : flags < 8
  pub bits : bits_of line
      ≡ flag ++ stuffing_of (bits_of (octets ++ check)) ++ flag ++ shared_flags flags

-- The line has the earlier bits, then the stuffed bits of those sent, which end with `ones`
-- consecutive 1s. The sent bits are a history, the newest first.
pub record IsSent (before sent line : List Bool) (ones : ℕ) : Type 0 where
  pub bits : line ≡ before ++ reverse (stuffed sent)
  pub count : ones ≡ trailing (stuffed sent)
