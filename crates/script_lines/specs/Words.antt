-- The words of a line.
use Rattle.std.specs.Prelude.{ℕ, ◌==◌, nat_lt, List, length, filter}
use Rattle.std.specs.List.{slice_split}

-- The parts of a line between spaces that aren't empty.
unfoldable pub words_of : List ℕ → List (List ℕ)
words_of line = filter (λ (word : List ℕ). nat_lt 0 (length word)) (slice_split (λ b. b == 32) line)
