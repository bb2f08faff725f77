-- The lines of a script that are neither blank nor comments.
use Rattle.std.specs.Prelude.{ℕ, ◌+◌, ◌==◌, Bool, true, if◌then◌else◌, List, [], ◌∷◌, ◌++◌, map}
use Rattle.std.specs.Prelude.{take, count_by, slice_index}
use Rattle.std.specs.Borrow.{Bor}
use Rattle.std.specs.Str.Lines.{lines}
use Rattle.script_lines.specs.Words.{words_of}
use Rattle.script_lines.specs.declared.lines.Line.{Line}

-- A line with its number, from 1, and its words.
pub record PlainLine : Type 0 where
  pub number : ℕ
  pub words : List (List ℕ)

-- The texts to which these references point.
abbrev pub texts : List (Bor (List ℕ)) → List (List ℕ)
texts words = map (λ word. word.now) words

abbrev pub plain_line : Line → PlainLine
plain_line line = record { number = line.number; words = texts line.words.items }

-- a blank line, or one whose first word begins with `#`
abbrev pub is_silent : List (List ℕ) → Bool
is_silent [] = true
is_silent (word ∷ words) = slice_index word 0 == 35

-- The line, unless it is blank or a comment.
abbrev pub said : ℕ → List (List ℕ) → List PlainLine
said number words = if is_silent words then [] else record { number = number; words = words } ∷ []

-- The lines that are neither blank nor comments; the first of all lines has this number.
abbrev pub spoken : ℕ → List (List ℕ) → List PlainLine
spoken number [] = []
spoken number (line ∷ more) = said number (words_of line) ++ spoken (number + 1) more

-- The lines of a text that count. A line ends with a line feed; a carriage return before that
-- belongs to the end.
unfoldable pub lines_of : List ℕ → List PlainLine
lines_of text = spoken 1 (lines text)

-- The line in which a byte of a text lies, from 1: one more than the line feeds before it.
abbrev pub line_at : List ℕ → ℕ → ℕ
line_at text place = count_by (λ b. b == 10) (take place text) + 1
