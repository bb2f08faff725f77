-- Numbers that are kept only once, with a mark for each possible number.
use Rattle.std.specs.Prelude.{◌≡◌, ◌<◌, ℕ, Bool, nat_eq, List, length, Some, slice_get}
use Rattle.std.specs.List.{list_any}

-- whether a number is among these
abbrev pub has : List ℕ → ℕ → Bool
has ns n = list_any (λ m. nat_eq m n) ns

-- Each number below `size` has a mark that says whether it is among these.
pub record HaveMarks (size : ℕ) (ns : List ℕ) (marks : List Bool) : Type 0 where
  pub count : length marks ≡ size
  pub each : (n : ℕ) → n < length marks → slice_get marks n ≡ Some (has ns n)
