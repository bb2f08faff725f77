-- How names are spelled and compared.
use Rattle.std.specs.Prelude.{◌≡◌, ℕ, Bool, false, IsTrue, ◌&&◌, List, [], ◌∷◌, length, map, nat_le}
use Rattle.std.specs.List.{list_all}
use Rattle.std.specs.Char.{is_ascii_alphabetic, to_ascii_lowercase}
use Rattle.sdl_lex.specs.Limits.{LONGEST_NAME}
pub use Rattle.sdl_lex.specs.Runs.{is_name_byte}

-- an ASCII letter, followed by any number of letters, digits and `_`
abbrev pub is_spelled_as_name : List ℕ → Bool
is_spelled_as_name [] = false
is_spelled_as_name (b ∷ bs) = is_ascii_alphabetic b && list_all is_name_byte bs

-- the spelling of a name: at most 32 bytes
abbrev pub IsName : List ℕ → Type 0
IsName bs = IsTrue (is_spelled_as_name bs && nat_le (length bs) LONGEST_NAME)

-- a spelling in lower case; names are compared in this form
abbrev pub folded : List ℕ → List ℕ
folded bs = map to_ascii_lowercase bs

-- two spellings of one name: they differ only in case
abbrev pub SameName : List ℕ → List ℕ → Type 0
SameName a b = folded a ≡ folded b
