-- A stuffer after the octets that it returned for units.
use Rattle.std.specs.Prelude.{◌≡◌, ℕ, Bool, true, false, List, [], ◌∷◌, ◌++◌}
use Rattle.su_octets.specs.Bits.{low_bits, bits_of}
use Rattle.bit_line.specs.Sending.{line_of}
use Rattle.bit_line.specs.declared.part.Part.{Part}

-- whether a unit was sent, and the bits that stay for the next call
pub record PlainStuffer : Type 0 where
  pub started : Bool
  pub part : Part

abbrev pub is_some_unit : List (List ℕ) → Bool
is_some_unit [] = false
is_some_unit (octets ∷ units) = true

-- The octets returned so far and the bits that stay are the line of the units' octets.
pub record Gave (given : List ℕ) (units : List (List ℕ)) (stuffer : PlainStuffer) : Type 0 where
  pub bits : bits_of given ++ low_bits stuffer.part.len stuffer.part.bits ≡ line_of units
  pub started : stuffer.started ≡ is_some_unit units

-- some units led to this stuffer
abbrev pub HasStuffed : PlainStuffer → Type 0
HasStuffed stuffer = (given : List ℕ) × (units : List (List ℕ)) × Gave given units stuffer
