-- The height limit of a syntax tree. It is this profile's own.
use Rattle.std.specs.Prelude.{ℕ}

-- The greatest height of a tree. Expressions, statements and the DECISIONs that contain them count.
abbrev pub GREATEST_HEIGHT : ℕ
GREATEST_HEIGHT = 32
