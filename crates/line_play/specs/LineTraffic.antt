-- The octets received from lines and given to them, and the states that lines report.
use Rattle.std.specs.Prelude.{◌≡◌, ℕ, nat_le, if◌then◌else◌, List, [], ◌∷◌, ◌++◌, length, take}
use Rattle.std.specs.Prelude.{Option, None, Some}
use Rattle.line_tending.specs.LinkLines.{SILENCE}
use Rattle.line_play.specs.declared.set.lines.LineNews.{LineNews}
use Rattle.line_play.specs.declared.set.lines.LineNews.TheVariants as line

-- An event of a line: octets came from it or were given to it, or it reported that it isn't open,
-- has ended, has failed or was opened again.
pub data Traffic : Type 0 where
  octets_come : (link : ℕ) (octets : List ℕ) → Traffic
  octets_go : (link : ℕ) (octets : List ℕ) → Traffic
  line_says : (link : ℕ) (said : LineNews) → Traffic

-- the traffic of lines, if it is known, grows by this
abbrev pub Grows : Option (List Traffic) → Option (List Traffic) → List Traffic → Type 0
Grows None new more = Unit {0}
Grows (Some old) None more = ⊥
Grows (Some old) (Some new) more = new ≡ old ++ more

-- the octets received, if there are any
abbrev pub coming : ℕ → List ℕ → List Traffic
coming link [] = []
coming link (octet ∷ octets) = octets_come link (octet ∷ octets) ∷ []

-- the octets given to a line, if there are any
abbrev pub given : ℕ → List ℕ → List Traffic
given link [] = []
given link (octet ∷ octets) = octets_go link (octet ∷ octets) ∷ []

-- the first `count` octets; none if there are fewer
abbrev pub front_of : ℕ → List ℕ → List ℕ
front_of count octets = if nat_le count (length octets) then take count octets else []

-- the traffic for an answer of a line; `part` holds the octets it delivered
abbrev pub arrived : ℕ → List ℕ → LineNews → List Traffic
arrived link part (line.Octets count) = coming link (front_of count part)
arrived link part line.Ended = line_says link line.Ended ∷ []
arrived link part line.Failed = line_says link line.Failed ∷ []
arrived link part line.Opened = line_says link line.Opened ∷ []
arrived link part line.Closed = line_says link line.Closed ∷ []

-- an octet of 1s is given to a line
abbrev pub silence_for : ℕ → Traffic
silence_for link = octets_go link (SILENCE ∷ [])
