-- The order of paths in the text, which decides which path that reads a variable unset is named.
use Rattle.std.specs.Prelude.{◌≡◌, ◌⊎◌, ℕ, ◌<◌, ⊤, List, [], ◌∷◌, length, Some, slice_get}
use Rattle.sdl_unset.specs.declared.paths.Passage.{Passage}
use Rattle.sdl_unset.specs.declared.paths.Summary.{Summary}
use Rattle.sdl_unset.specs.declared.paths.Graph.{Graph}
use Rattle.sdl_unset.specs.declared.paths.Step.{Step}
use Rattle.sdl_unset.specs.declared.paths.Step.TheVariants.{Start, Input}
use Rattle.sdl_unset.specs.Graph.{input_at, ReadsUnset}

-- The transition of START comes first. Then come those of the states by their numbers, and for each
-- state by the numbers of its inputs.
abbrev pub Precedes : Step → Step → Type 0
Precedes Start Start = ⊥
Precedes Start (Input q j) = ⊤
Precedes (Input s i) Start = ⊥
Precedes (Input s i) (Input q j) = (s < q) ⊎ ((s ≡ q) × (i < j))

-- At the first step where two paths differ, the first path comes first.
abbrev pub Earlier : List Step → List Step → Type 0
Earlier [] other = ⊥
Earlier (a ∷ path) [] = ⊥
Earlier (a ∷ path) (b ∷ other) = Precedes a b ⊎ ((a ≡ b) × Earlier path other)

-- A path has fewer steps than another one, or the same number and comes first in the text.
abbrev pub Before : List Step → List Step → Type 0
Before path other =
    (length path < length other) ⊎ ((length path ≡ length other) × Earlier path other)

abbrev pub NotAfter : List Step → List Step → Type 0
NotAfter path other = (path ≡ other) ⊎ Before path other

-- No other path that reads x unset has fewer steps, or the same number and comes first in the text.
abbrev pub IsFirst : Graph → ℕ → List Step → Type 0
IsFirst g x path = (other : List Step) → ReadsUnset g x other → NotAfter path other

-- Passages are in the order of the states, at most one for each state.
abbrev pub AreSorted : List Passage → Type 0
AreSorted ps =
    (i j : ℕ) (p q : Passage) → i < j → slice_get ps i ≡ Some p → slice_get ps j ≡ Some q
    → p.state < q.state

-- The passages of each transition are sorted.
pub record IsSorted (g : Graph) : Type 0 where
  pub start : AreSorted g.start.passages.items
  pub states : (s i : ℕ) (t : Summary) → input_at g s i ≡ Some t → AreSorted t.passages.items
