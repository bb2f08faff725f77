-- What is kept of a text that was read.
use Rattle.std.specs.Prelude.{◌≡◌, ℕ, ◌+◌, ◌↔◌, List, ◌++◌, take, Option, IfSome, IsTrue, IsUtf8}
use Rattle.simdutf8.specs.Tracks.{HasRead}
use Rattle.plain_text.specs.declared.check.TextCheck.{TextCheck}
use Rattle.plain_text.specs.declared.reading.TextRead.{TextRead}

-- the most bytes that a text or a script has (a choice of this profile)
abbrev pub LONGEST : ℕ
LONGEST = 262144

-- The check has taken these bytes: whole blocks of 64, and then the bytes that wait until a block
-- is full.
pub record HasTaken (check : TextCheck) (bytes : List ℕ) : Type 0 where
  pub blocks : List ℕ
  pub checked : HasRead check.checker blocks
  pub parts : bytes ≡ blocks ++ check.waiting.items

-- What is kept of these bytes: the first ones, up to one more than a text may have, and whether all
-- of them are UTF-8.
pub record Keeps (bytes : List ℕ) (read : TextRead) : Type 0 where
  pub first : read.kept.items ≡ take (LONGEST + 1) bytes
  pub utf8 : IsTrue read.is_text ↔ IsUtf8 bytes

-- what is kept of some bytes; if the rest of the reader is known, they are that rest
pub record IsReading (known : Option (List ℕ)) (read : TextRead) : Type 0 where
  pub bytes : List ℕ
  pub are_known : IfSome known (λ all. bytes ≡ all)
  pub keeps : Keeps bytes read
