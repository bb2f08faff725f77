-- Limits of a link set.
use Rattle.std.specs.Prelude.{ℕ}

-- a link's number has the 4 bits of a selection
abbrev pub MOST_LINKS : ℕ
MOST_LINKS = 16

-- a point code has 14 bits
abbrev pub POINT_CODES : ℕ
POINT_CODES = 16384
