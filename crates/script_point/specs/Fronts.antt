-- Lines with a name before each.
use Rattle.std.specs.Prelude.{ℕ, ◌==◌, Bool, if◌then◌else◌, List, [], ◌∷◌, ◌++◌, codes}

-- A byte, with the name and a colon before it if a line begins there.
abbrev pub fronted : List ℕ → Bool → ℕ → List ℕ
fronted name begins b = if begins then name ++ codes ": " ++ b ∷ [] else b ∷ []

-- The lines with a name and a colon before each; `begins` tells whether a line begins here.
abbrev pub in_front : List ℕ → Bool → List ℕ → List ℕ
in_front name begins [] = []
in_front name begins (b ∷ bs) = fronted name begins b ++ in_front name (b == 10) bs
