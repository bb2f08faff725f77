-- Octets as bits on the line.
use Rattle.std.specs.Prelude.{ℕ, ◌/◌, ◌%◌, zero, suc, ◌==◌, ◌<◌, Bool, List, [], ◌∷◌, ◌++◌}

-- the low k bits of a number, the lowest first
unfoldable pub low_bits : ℕ → ℕ → List Bool
low_bits zero n = []
low_bits (suc k) n = (n % 2 == 1) ∷ low_bits k (n / 2)

-- the bits of octets in order of transmission: octet after octet, the low bit of each first
unfoldable pub bits_of : List ℕ → List Bool
bits_of [] = []
bits_of (octet ∷ octets) = low_bits 8 octet ++ bits_of octets

-- numbers that an octet can hold
abbrev pub AreOctets : List ℕ → Type 0
AreOctets [] = Unit {0}
AreOctets (octet ∷ octets) = (octet < 256) × AreOctets octets
