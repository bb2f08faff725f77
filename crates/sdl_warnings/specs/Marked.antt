-- Marks by number.
use Rattle.std.specs.Prelude.{ℕ, Bool, true, false, List, [], ◌∷◌, slice_get}
use Rattle.std.specs.Option.{option_map_or}

-- whether a number has a mark; one past the end has none
abbrev pub is_marked : List Bool → ℕ → Bool
is_marked marks n = option_map_or (λ b. b) (slice_get marks n) false

-- the elements that have a mark
abbrev pub marked_only : {X : Type 0} → List Bool → List X → List X
marked_only [] xs = []
marked_only (b ∷ marks) [] = []
marked_only (true ∷ marks) (x ∷ xs) = x ∷ marked_only marks xs
marked_only (false ∷ marks) (x ∷ xs) = marked_only marks xs
