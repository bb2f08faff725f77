-- The label of a message: 32 bits, the lowest of which is sent first.
use Rattle.std.specs.Prelude.{ℕ, ◌+◌, ◌*◌, ◌/◌, ◌%◌, ◌^◌, ◌<◌, Option, Some, None, List, [], ◌∷◌}
use Rattle.group_changeover.specs.declared.labels.Label.{Label}

-- a point code has 14 bits, and the selection of a link 4
pub record IsLabel (l : Label) : Type 0 where
  pub dpc : l.dpc < 2 ^ 14
  pub opc : l.opc < 2 ^ 14
  pub sls : l.sls < 2 ^ 4

-- four octets as one number: the low bit of the first is sent first, and is the lowest
abbrev pub number_of : ℕ → ℕ → ℕ → ℕ → ℕ
number_of a b c d = a + 2 ^ 8 * b + 2 ^ 16 * c + 2 ^ 24 * d

-- from the low bit on: 14 bits of the destination, 14 of the origin, 4 of the selection
abbrev pub label_by : ℕ → Label
label_by n = record { dpc = n % 2 ^ 14; opc = n / 2 ^ 14 % 2 ^ 14; sls = n / 2 ^ 28 }

-- the label at the start of octets
abbrev pub label_in : List ℕ → Option Label
label_in [] = None
label_in (a ∷ []) = None
label_in (a ∷ b ∷ []) = None
label_in (a ∷ b ∷ c ∷ []) = None
label_in (a ∷ b ∷ c ∷ d ∷ others) = Some (label_by (number_of a b c d))
