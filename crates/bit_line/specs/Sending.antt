-- The line bits that a sender of signal units makes (Q.703, 3.1 and 3.2).
use Rattle.std.specs.Prelude.{ℕ, ◌+◌, ◌/◌, Bool, true, false, List, [], ◌∷◌, ◌++◌}
use Rattle.su_octets.specs.Bits.{bits_of}
use Rattle.bit_line.specs.Stuffing.{stuffing_of}
use Rattle.bit_line.specs.Flags.{MOST_BITS}

abbrev pub flag : List Bool
flag = false ∷ true ∷ true ∷ true ∷ true ∷ true ∷ true ∷ false ∷ []

-- for each unit its octets, stuffed, and then a flag
unfoldable pub framed : List (List ℕ) → List Bool
framed [] = []
framed (octets ∷ units) = stuffing_of (bits_of octets) ++ flag ++ framed units

-- empty before the first unit; otherwise a flag and then the framed units
unfoldable pub line_of : List (List ℕ) → List Bool
line_of [] = []
line_of (octets ∷ units) = flag ++ framed (octets ∷ units)

-- No unit fills more octets: 7 bits that stayed, a flag, a content of the most bits with a 0 for
-- each five of them, and a flag. (No unit fills as many: if a flag is sent before it, no bit
-- stayed.)
abbrev pub MOST_OCTETS : ℕ
MOST_OCTETS = (7 + 8 + (MOST_BITS + MOST_BITS / 5) + 8) / 8
