-- Limits on the tokens of a text and on its length. Each is this profile's own.
use Rattle.std.specs.Prelude.{ℕ}

-- the greatest number of bytes in a name
abbrev pub LONGEST_NAME : ℕ
LONGEST_NAME = 32

-- the greatest number that a text may contain: 2^31 - 1
abbrev pub GREATEST_NUMBER : ℕ
GREATEST_NUMBER = 2147483647

-- the greatest number of bytes in a text
abbrev pub LONGEST_TEXT : ℕ
LONGEST_TEXT = 262144
