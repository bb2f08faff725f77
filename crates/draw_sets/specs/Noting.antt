-- Lines with notes below each of them, and notes on connections after them all.
use Rattle.std.specs.Prelude.{◌≡◌, ℕ, ◌==◌, Bool, true, if◌then◌else◌, List, [], ◌∷◌, ◌++◌, codes}
use Rattle.std.specs.Prelude.{All}
use Rattle.std.specs.List.{flat_map}

-- a byte, with four spaces before it if it begins a line
abbrev pub spaced : Bool → ℕ → List ℕ
spaced begins b = if begins then codes "    " ++ b ∷ [] else b ∷ []

-- four spaces before each line; the last line gets an end too
abbrev pub indented : Bool → List ℕ → List ℕ
indented begins [] = if begins then [] else 10 ∷ []
indented begins (b ∷ bs) = spaced begins b ++ indented (b == 10) bs

-- a line without its end, and the notes below it
pub record Noted : Type 0 where
  pub line : List ℕ
  pub notes : List ℕ

-- the line without its notes
abbrev pub bare_line : Noted → List ℕ
bare_line n = n.line ++ 10 ∷ []

abbrev pub noted_lines : Noted → List ℕ
noted_lines n = n.line ++ 10 ∷ indented true n.notes

-- a line is appended to a text, with notes below it
pub record IsBelow (old line new : List ℕ) : Type 0 where
  pub notes : List ℕ
  pub written : new ≡ old ++ (line ++ 10 ∷ indented true notes)

-- the notes on a connection: a line that names it, and notes below that line
abbrev pub connection_lines : Noted → List ℕ
connection_lines n = codes "~ CONNECTION " ++ noted_lines n

-- a byte that ends no line
abbrev pub IsInLine : ℕ → Type 0
IsInLine b = b ≡ 10 → ⊥

-- the name is written on one line
abbrev pub IsOneLine : Noted → Type 0
IsOneLine n = All IsInLine n.line

-- lines of connections are appended to a text, each with notes below it
pub record AreAdded (old new : List ℕ) : Type 0 where
  pub connections : List Noted
  pub named : All IsOneLine connections
  pub written : new ≡ old ++ flat_map connection_lines connections

-- Some of these lines were written, with notes below each of them; then a line was begun, and the
-- rest is still to come.
pub record IsBegun (all rest line text : List ℕ) : Type 0 where
  pub noted : List Noted
  pub given : all ≡ flat_map bare_line noted ++ (line ++ rest)
  pub written : text ≡ flat_map noted_lines noted

-- these are the lines, each word for word and in order, with notes below each of them
pub record AreWritten (lines text : List ℕ) : Type 0 where
  pub noted : List Noted
  pub rest : List ℕ
  pub given : lines ≡ flat_map bare_line noted ++ rest
  pub written : text ≡ flat_map noted_lines noted ++ rest

-- These are the lines, each word for word and in order, with notes below each of them, and notes on
-- connections after them all. Every line of notes begins with four spaces.
pub record AreNoted (lines text : List ℕ) : Type 0 where
  pub behind : List ℕ
  pub written : AreWritten lines behind
  pub added : AreAdded behind text
