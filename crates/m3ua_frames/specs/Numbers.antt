-- Numbers as octets, the highest octet first (RFC 4666, 3).
use Rattle.std.specs.Prelude.{ℕ, ◌+◌, ◌*◌, ◌/◌, ◌%◌, ◌^◌, List, [], ◌∷◌, slice_index}
use Rattle.std.specs.Prelude.{Option, Some, None}

-- the number in two octets from an index on, and in four
abbrev pub number_2 : List ℕ → ℕ → ℕ
number_2 octets at = 2 ^ 8 * slice_index octets at + slice_index octets (at + 1)

abbrev pub number_4 : List ℕ → ℕ → ℕ
number_4 octets at =
    2 ^ 24 * slice_index octets at + 2 ^ 16 * slice_index octets (at + 1)
    + 2 ^ 8 * slice_index octets (at + 2) + slice_index octets (at + 3)

-- a number as two octets, and as four
abbrev pub octets_2 : ℕ → List ℕ
octets_2 n = n / 2 ^ 8 ∷ n % 2 ^ 8 ∷ []

abbrev pub octets_4 : ℕ → List ℕ
octets_4 n = n / 2 ^ 24 ∷ n / 2 ^ 16 % 2 ^ 8 ∷ n / 2 ^ 8 % 2 ^ 8 ∷ n % 2 ^ 8 ∷ []

-- the numbers in octets, of four octets each
abbrev pub numbers_in : List ℕ → List ℕ
numbers_in [] = []
numbers_in (a ∷ []) = []
numbers_in (a ∷ b ∷ []) = []
numbers_in (a ∷ b ∷ c ∷ []) = []
numbers_in (a ∷ b ∷ c ∷ d ∷ more) =
    (2 ^ 24 * a + 2 ^ 16 * b + 2 ^ 8 * c + d) ∷ numbers_in more

-- the first number, and the numbers in the octets after it
abbrev pub numbers_from : Option (ℕ × List ℕ) → List ℕ
numbers_from None = []
numbers_from (Some x) = x.0 ∷ numbers_in x.1
