-- The check bits of a signal unit (Q.703, 4.2).
use Rattle.std.specs.Prelude.{◌≡◌, ℕ, Bool, true, false, not, List, ◌++◌, map, reverse, length}
use Rattle.std.specs.Prelude.{replicate}
use Rattle.su_octets.specs.Bits.{bits_of, AreOctets}
use Rattle.su_octets.specs.Polynomial.{plus, IsRemainder}

-- the content as a polynomial: the bit that is sent first has the highest power
abbrev pub content_polynomial : List ℕ → List Bool
content_polynomial content = reverse (bits_of content)

-- x^k times (x^15 + .. + 1)
abbrev pub raised_ones : ℕ → List Bool
raised_ones k = replicate k false ++ replicate 16 true

-- x^16 times the polynomial
abbrev pub raised : List Bool → List Bool
raised p = replicate 16 false ++ p

-- With k bits of content the check bits are the ones' complement of the sum modulo 2 of the
-- remainders of x^k times (x^15 + .. + 1) and of the content times x^16. They are sent with the
-- highest power first.
pub record Check (content check : List ℕ) : Type 0 where
  pub first : List Bool
  pub first_remains : IsRemainder first (raised_ones (length (bits_of content)))
  pub second : List Bool
  pub second_remains : IsRemainder second (raised (content_polynomial content))
  pub complement : bits_of check ≡ map not (reverse (plus first second))
  pub two : length check ≡ 2
  pub octets : AreOctets check
