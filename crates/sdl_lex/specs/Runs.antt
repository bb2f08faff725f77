-- The bytes that may follow the first byte of a name, and runs of bytes.
use Rattle.std.specs.Prelude.{◌≡◌, ℕ, ◌<◌, ◌≤◌, ◌==◌, Bool, true, false, ◌||◌, List, length}
use Rattle.std.specs.Prelude.{slice_index}
use Rattle.std.specs.Char.{is_ascii_alphanumeric}

-- a byte that may follow the first byte of a name: an ASCII letter, a digit or `_`
abbrev pub is_name_byte : ℕ → Bool
is_name_byte b = is_ascii_alphanumeric b || (b == 95)

-- Each byte from one place up to another passes a test, and the byte after them doesn't.
pub record IsRun (p : ℕ → Bool) (text : List ℕ) (at end : ℕ) : Type 0 where
  pub ordered : at ≤ end
  pub inside : end ≤ length text
  pub each : (k : ℕ) → at ≤ k → k < end → p (slice_index text k) ≡ true
  pub stops : p (slice_index text end) ≡ false
