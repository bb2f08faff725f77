-- What a receiver of line bits reports (Q.703, 4.1): signal units, errored ones, and sixteen octets
-- at a time while it counts octets.
use Rattle.std.specs.Prelude.{◌≡◌, ◌≢◌, ℕ, ◌+◌, ◌%◌, ◌==◌, Bool, if◌then◌else◌, Option, Some, None}
use Rattle.std.specs.Prelude.{is_some, List, [], ◌∷◌, ◌++◌, reverse}
use Rattle.std.specs.List.{All}
use Rattle.std.specs.Bool.{MatchBool}
use Rattle.su_octets.specs.Bits.{bits_of, AreOctets}
use Rattle.su_octets.specs.Frame.{Frame}
use Rattle.su_octets.specs.declared.units.Unit as units
use Rattle.bit_line.specs.Stuffing.{stuffed}
use Rattle.bit_line.specs.Flags.{ends_flag, inside, begins}
use Rattle.bit_line.specs.declared.events.LineEvent.{LineEvent}
use Rattle.bit_line.specs.declared.events.LineEvent.TheVariants as events

-- octets of a signal unit
abbrev pub AreUnit : List ℕ → Type 0
AreUnit octets = (unit : units.Unit) × Frame octets unit

-- the content between two flags, as a history, is the stuffing of the bits of a signal unit's
-- octets
pub record IsCorrect (content : List Bool) (octets : List ℕ) : Type 0 where
  pub unit : AreUnit octets
  pub octets_fit : AreOctets octets
  pub stuffing : content ≡ stuffed (reverse (bits_of octets))

-- how the content between two flags is judged
pub data Verdict : Type 0 where
  Correct : List ℕ → Verdict
  Wrong : Verdict
  Nothing : Verdict

abbrev pub IsJudged : List Bool → Verdict → Type 0
IsJudged content (Correct octets) = IsCorrect content octets
IsJudged content Wrong = (content ≢ []) × ((octets : List ℕ) → IsCorrect content octets → ⊥)
IsJudged content Nothing = content ≡ []

-- If the bit after the history ends a flag, the verdict is that on the content before the flag. If
-- it ends none, there is nothing to judge.
abbrev pub Closes : Bool → List Bool → Verdict → Type 0
Closes b h verdict = MatchBool (ends_flag (b ∷ h)) (IsJudged (inside h) verdict) (verdict ≡ Nothing)

-- The mode: None is the normal one, and Some n is counting mode, n bits after its beginning.
unfoldable pub mode_after : Verdict → Bool → Option ℕ → Option ℕ
mode_after (Correct octets) begin mode = None
mode_after Wrong begin (Some n) = Some (n + 1)
mode_after Wrong begin None = if begin then Some 0 else None
mode_after Nothing begin (Some n) = Some (n + 1)
mode_after Nothing begin None = if begin then Some 0 else None

-- a report for each 128 bits after counting mode's beginning
unfoldable pub sixteens : ℕ → List LineEvent
sixteens n = if n % 128 == 0 then events.SixteenOctets ∷ [] else []

-- the reports at a bit, from the verdict at this bit and the mode before it
unfoldable pub reports : Verdict → Option ℕ → List LineEvent
reports (Correct octets) (Some n) = sixteens (n + 1) ++ events.Unit (record { items = octets }) ∷ []
reports (Correct octets) None = events.Unit (record { items = octets }) ∷ []
reports Wrong (Some n) = sixteens (n + 1)
reports Wrong None = events.Errored ∷ []
reports Nothing (Some n) = sixteens (n + 1)
reports Nothing None = []

-- one more bit: from the mode before it and the reports before it to those after it
pub record Goes (b : Bool) (h : List Bool) (old : Option ℕ) (before : List LineEvent)
    (new : Option ℕ) (after : List LineEvent) : Type 0 where
  pub verdict : Verdict
  pub closes : Closes b h verdict
  pub mode : new ≡ mode_after verdict (begins (b ∷ h)) old
  pub all : after ≡ before ++ reports verdict old

-- The mode after a history, and all reports up to there. Counting mode is on before the first bit.
unfoldable pub Runs : List Bool → Option ℕ → List LineEvent → Type 0
Runs [] mode all = (mode ≡ Some 0) × (all ≡ [])
Runs (b ∷ h) mode all =
    (old : Option ℕ) × (before : List LineEvent) × Runs h old before × Goes b h old before mode all

-- all reports for these line bits, in order of arrival
abbrev pub AreEvents : List Bool → List LineEvent → Type 0
AreEvents bits events = (mode : Option ℕ) × Runs (reverse bits) mode events

-- whether octets are counted after these line bits
abbrev pub IsCounting : List Bool → Bool → Type 0
IsCounting bits on =
    (mode : Option ℕ) × (all : List LineEvent) × Runs (reverse bits) mode all
    × (is_some mode ≡ on)

-- a reported unit has the octets of a signal unit
abbrev pub IsSound : LineEvent → Type 0
IsSound (events.Unit octets) = AreUnit octets.items × AreOctets octets.items
IsSound events.Errored = Unit {0}
IsSound events.SixteenOctets = Unit {0}

-- the octets of each reported unit are those of a signal unit
abbrev pub UnitsDecode : List LineEvent → Type 0
UnitsDecode all = All IsSound all

-- the number of contents that the reports close, correct and wrong ones
abbrev pub closings : List LineEvent → ℕ
closings [] = 0
closings (events.Unit octets ∷ all) = 1 + closings all
closings (events.Errored ∷ all) = 1 + closings all
closings (events.SixteenOctets ∷ all) = closings all
