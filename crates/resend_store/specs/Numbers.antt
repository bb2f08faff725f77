-- Sequence numbers run modulo 128 (Q.703, sequence numbering).
use Rattle.std.specs.Prelude.{ℕ, ◌+◌, ◌-◌, ◌%◌}

-- the number b steps after a
abbrev pub plus : ℕ → ℕ → ℕ
plus a b = (a + b) % 128

-- the number of steps from b up to a, for numbers below 128
abbrev pub minus : ℕ → ℕ → ℕ
minus a b = (a + 128 - b) % 128
