-- The meaning of a word of hexadecimal digits.
use Rattle.std.specs.Prelude.{◌≡◌, ℕ, List, length, Ok}
use Rattle.hex.specs.Hex.{decode_of}
use Rattle.bit_line.specs.Stuffing.{stuffing_of}
use Rattle.su_octets.specs.Bits.{bits_of}
use Rattle.su_octets.specs.Frame.{Frame, Refuses}
use Rattle.su_octets.specs.declared.units.Unit.{Unit}
use Rattle.mtp2_frame.specs.declared.command.FrameFault.{FrameFault}
use Rattle.mtp2_frame.specs.declared.command.FrameFault.TheVariants.{NotHex, Unit as NoUnit}

-- the digits spell the octets of a signal unit
pub record Spells (word : List ℕ) (unit : Unit) : Type 0 where
  pub octets : List ℕ
  pub digits : decode_of word ≡ Ok octets
  pub frame : Frame octets unit

-- a signal unit that the word spells, and the number of bits of its octets on the line, between the
-- flags, with zeros inserted
pub record IsReading (word : List ℕ) (unit : Unit) (line_bits : ℕ) : Type 0 where
  pub octets : List ℕ
  pub digits : decode_of word ≡ Ok octets
  pub frame : Frame octets unit
  pub bits : line_bits ≡ length (stuffing_of (bits_of octets))

-- why a word spells no signal unit: it isn't made of pairs of digits, or the octets are refused
abbrev pub IsRefused : List ℕ → FrameFault → Type 0
IsRefused word NotHex = (octets : List ℕ) → decode_of word ≡ Ok octets → ⊥
IsRefused word (NoUnit fault) =
    (octets : List ℕ) × (decode_of word ≡ Ok octets) × Refuses octets fault
