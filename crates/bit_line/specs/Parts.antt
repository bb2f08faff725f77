-- Whole octets and a partly filled one as a history of bits.
use Rattle.std.specs.Prelude.{◌≡◌, ℕ, Bool, true, false, List, [], ◌++◌, reverse}
use Rattle.su_octets.specs.Bits.{low_bits, bits_of}

-- whole octets, and then the first bits of another one, have the bits of the history
unfoldable pub Packed : List ℕ → ℕ → ℕ → List Bool → Type 0
Packed octets bits len h = bits_of octets ++ low_bits len bits ≡ reverse h

-- the history of the flag that opens a line, empty if the line was opened before
abbrev pub opening : Bool → List Bool
opening true = []
opening false = reverse (low_bits 8 126)
