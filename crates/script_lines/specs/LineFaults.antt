-- What a fault states about a line that doesn't belong to a script.
use Rattle.std.specs.Prelude.{
  ◌≡◌,
  ◌⊎◌,
  ◌<◌,
  ◌+◌,
  ℕ,
  Bool,
  List,
  length,
  Option,
  None,
  Some,
  is_none,
  IsTrue,
}
use Rattle.script_lines.specs.Commands.{verb_of}
use Rattle.script_lines.specs.Numbers.{count_of, value_of}
use Rattle.script_lines.specs.declared.line_faults.LineFault.{LineFault}
use Rattle.script_lines.specs.declared.line_faults.LineFault.TheVariants.{NoCommand, Late, Words}
use Rattle.script_lines.specs.declared.line_faults.LineFault.TheVariants.{NoNumber, NoValue}

-- A word that begins no command of a book script.
abbrev pub is_no_verb : List ℕ → Bool
is_no_verb word = is_none (verb_of word)

-- A word isn't a number (`None`), or its number lies outside `least` to `most`.
abbrev pub IsOutside : ℕ → ℕ → Option ℕ → Type 0
IsOutside least most None = Unit {0}
IsOutside least most (Some n) = (n < least) ⊎ (most < n)

-- The fault is true of the words of the line; `p` tells whether a word begins no command. `Late`
-- states nothing.
abbrev pub IsSo : (List ℕ → Bool) → List (List ℕ) → LineFault → Type 0
IsSo p words (NoCommand word script) = IsTrue (p word.now)
IsSo p words (Late word) = Unit {0}
IsSo p words (Words word least most there) =
    (length words ≡ there + 1) × ((there < least) ⊎ (most < there))
IsSo p words (NoNumber word least most) = IsOutside least most (count_of word.now)
IsSo p words (NoValue word) = value_of word.now ≡ None
