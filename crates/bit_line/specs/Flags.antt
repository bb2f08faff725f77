-- Flags on a line (Q.703, 3.1). A history is the list of the bits so far, the newest one first.
use Rattle.std.specs.Prelude.{ℕ, Bool, true, false, not, ◌&&◌, ◌||◌, if◌then◌else◌, nat_lt, Option}
use Rattle.std.specs.Prelude.{Some, None, unwrap_or, List, [], ◌∷◌, length, drop}
use Rattle.std.specs.Option.{option_map}
use Rattle.bit_line.specs.Stuffing.{taken_out}

-- the newest bits are a 0 and six 1s
unfoldable pub six_ones : List Bool → Bool
six_ones (true ∷ true ∷ true ∷ true ∷ true ∷ true ∷ false ∷ h) = true
six_ones _ = false

-- the newest eight bits are the flag 01111110
unfoldable pub ends_flag : List Bool → Bool
ends_flag [] = false
ends_flag (b ∷ h) = not b && six_ones h

-- the bits since the end of the last flag, if there was one
unfoldable pub since_flag : List Bool → Option (List Bool)
since_flag [] = None
since_flag (b ∷ h) = if ends_flag (b ∷ h) then Some [] else option_map (λ c. b ∷ c) (since_flag h)

-- The bits since the last flag except the newest seven: the content between two flags, if the next
-- bit ends the second one. It is empty before the first flag, and if two flags share a 0.
unfoldable pub inside : List Bool → List Bool
inside h = drop 7 (unwrap_or (since_flag h) [])

-- the greatest number of content bits, 278 octets
abbrev pub MOST_BITS : ℕ
MOST_BITS = 2224

-- Counting mode begins at this bit, unless it is on. The bit is the seventh 1 in a row, or it ends
-- no flag and the content since the last flag, without inserted 0s, has more bits than a unit.
unfoldable pub begins : List Bool → Bool
begins [] = false
begins (b ∷ h) =
    (b && six_ones h)
    || (not (ends_flag (b ∷ h)) && nat_lt MOST_BITS (length (taken_out (inside (b ∷ h)))))
