-- The counter in the code, and the mode.
use Rattle.std.specs.Prelude.{◌≡◌, ℕ, ◌%◌, Bool, true, false, Option, List, [], ◌∷◌}
use Rattle.std.specs.Option.{option_map}
use Rattle.bit_line.specs.declared.events.LineEvent.{LineEvent}
use Rattle.bit_line.specs.declared.events.LineEvent.TheVariants as events

-- the count is the number of bits in the mode, modulo 128
abbrev pub Counts : Option ℕ → Option ℕ → Type 0
Counts mode count = count ≡ option_map (λ n. n % 128) mode

-- the report of 128 complete bits
abbrev pub sixteen_of : Bool → List LineEvent
sixteen_of true = events.SixteenOctets ∷ []
sixteen_of false = []
