-- Lines in the form in which commands write them.
use Rattle.std.specs.Prelude.{ℕ, List, [], ◌∷◌, ◌++◌}

-- a text and the end of its line
abbrev pub line_of : List ℕ → List ℕ
line_of text = text ++ 10 ∷ []
