-- Limits of a link set.
use Rattle.std.specs.Prelude.{ℕ}

-- a label's selection of a link has 4 bits (Q.704, 2.2)
abbrev pub SELECTIONS : ℕ
SELECTIONS = 16

-- after so many ticks a changeover proceeds without an answer (Q.704's timer T2; the value is a
-- choice of this profile)
abbrev pub T2 : ℕ
T2 = 1400

-- until so many ticks after a link came into service again, an order may be a late one of its last
-- changeover (the value is a choice of this profile)
abbrev pub LATE : ℕ
LATE = 1400
