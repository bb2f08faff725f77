-- Lists of numbers, one for each slot.
use Rattle.std.specs.Prelude.{ℕ, not, nat_eq, List, filter}

-- a list without an item
abbrev pub without : ℕ → List ℕ → List ℕ
without item items = filter (λ x. not (nat_eq item x)) items
