-- The fields of a deframer after the line bits so far.
use Rattle.std.specs.Prelude.{◌≡◌, ℕ, ◌-◌, zero, suc, min, nat_lt, nat_le, Bool, true, false, ◌||◌}
use Rattle.std.specs.Prelude.{Option, unwrap_or, is_some, List, [], ◌∷◌, ◌++◌, length, reverse}
use Rattle.su_octets.specs.Bits.{low_bits}
use Rattle.bit_line.specs.Parts.{Packed}
use Rattle.bit_line.specs.Counting.{Counts}
use Rattle.bit_line.specs.Stuffing.{trailing, taken_out}
use Rattle.bit_line.specs.Flags.{ends_flag, since_flag, inside, MOST_BITS}
use Rattle.bit_line.specs.Events.{Runs}
use Rattle.bit_line.specs.declared.data.Data.{Data}
use Rattle.bit_line.specs.declared.content.Content.{Content}
use Rattle.bit_line.specs.declared.gate.Gate.{Gate}
use Rattle.bit_line.specs.declared.receiver.Receiver.{Receiver}
use Rattle.bit_line.specs.declared.events.LineEvent.{LineEvent}

-- the data holds these bits, or only the fact that they are more than a unit has
pub record Gathers (h : List Bool) (data_bits : Data) : Type 0 where
  pub over : data_bits.over ≡ nat_lt MOST_BITS (length h)
  pub bits : data_bits.over ≡ false
      → Packed data_bits.octets.items data_bits.part.bits data_bits.part.len h

-- six 1s in a row are somewhere in the history
unfoldable pub has_six : List Bool → Bool
has_six [] = false
has_six (b ∷ h) = nat_le 6 (trailing (b ∷ h)) || has_six h

-- the content holds these line bits
pub record Holds (h : List Bool) (content : Content) : Type 0 where
  pub ones : content.ones ≡ min 6 (trailing h)
  pub six : content.six ≡ has_six h
  pub gathers : Gathers (taken_out h) content.data_bits

-- the bits since the last flag
abbrev pub latest : List Bool → List Bool
latest h = unwrap_or (since_flag h) []

-- The gate's content is what `inside` returns, if the last flag is seven bits or more ago.
pub record LetsIn (h : List Bool) (gate : Gate) : Type 0 where
  pub seen : gate.seen ≡ is_some (since_flag h)
  pub wait : gate.wait ≡ 7 - length (latest h)
  pub content : gate.seen ≡ true → gate.wait ≡ 0 → Holds (inside h) gate.content

-- the newest k bits, the newest one first; before the first bit they are taken to be 1s
unfoldable pub newest : ℕ → List Bool → List Bool
newest zero h = []
newest (suc k) [] = true ∷ newest k []
newest (suc k) (b ∷ h) = b ∷ newest k h

-- the fields of a deframer after this history, in this mode
pub record Fits (h : List Bool) (mode : Option ℕ) (deframer : Receiver) : Type 0 where
  pub recent : low_bits 7 deframer.recent ≡ reverse (newest 7 h)
  pub gate : LetsIn h deframer.gate
  pub counting : Counts mode deframer.counter.count

-- a deframer after a history with these events
unfoldable pub StandsAt : List Bool → List LineEvent → Receiver → Type 0
StandsAt h events deframer = (mode : Option ℕ) × Runs h mode events × Fits h mode deframer

-- the bit seven bits before the next one; before the first bit it is taken to be a 1
unfoldable pub seventh : List Bool → Bool
seventh (b0 ∷ b1 ∷ b2 ∷ b3 ∷ b4 ∷ b5 ∷ b6 ∷ h) = b6
seventh _ = true

-- none of the bits k, which follow the history h, ends a flag
abbrev pub EndsNone : List Bool → List Bool → Type 0
EndsNone [] h = Unit {0}
EndsNone (b ∷ k) h = EndsNone k h × (ends_flag (b ∷ (k ++ h)) ≡ false)

-- a deframer after these line bits, in order of arrival
unfoldable pub Stands : List Bool → Receiver → Type 0
Stands bits deframer = (events : List LineEvent) × StandsAt (reverse bits) events deframer

-- some line bits led to this deframer
abbrev pub HasTaken : Receiver → Type 0
HasTaken deframer = (bits : List Bool) × Stands bits deframer
