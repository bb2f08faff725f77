-- The meaning of the shift register of the check bits.
use Rattle.std.specs.Prelude.{ℕ, Bool, List, reverse, length}
use Rattle.su_octets.specs.Bits.{low_bits}
use Rattle.su_octets.specs.Check.{raised_ones, raised}
use Rattle.su_octets.specs.Polynomial.{plus, IsRemainder}

-- The register after these bits, of which the list has the last one first. It is the remainder of
-- the sum of the two polynomials of the check bits. Its lowest bit is the coefficient of x^15.
unfoldable pub Register : ℕ → List Bool → Type 0
Register register sent =
    IsRemainder (reverse (low_bits 16 register)) (plus (raised sent) (raised_ones (length sent)))
