-- Sets of variables.
use Rattle.std.specs.Prelude.{◌≡◌, ℕ, ◌+◌, ◌*◌, ◌^◌, bit_or, List, [], ◌∷◌, is_some, if◌then◌else◌}
use Rattle.std.specs.Int.{bit_at}
use Rattle.turn_code.specs.declared.variable_set.VariableSet.{VariableSet}
use Rattle.turn_code.specs.declared.draft.DraftVariable.{DraftVariable}

abbrev pub Has : VariableSet → ℕ → Type 0
Has s v = bit_at s.0 v ≡ 1

abbrev pub IsWithin : VariableSet → VariableSet → Type 0
IsWithin a b = (v : ℕ) → Has a v → Has b v

-- the set with variable v in it too
abbrev pub with_variable : VariableSet → ℕ → VariableSet
with_variable s v = record { 0 = bit_or s.0 (2 ^ v) }

-- bit v says whether variable v has an initial value
abbrev pub initial_bits : List DraftVariable → ℕ
initial_bits [] = 0
initial_bits (x ∷ xs) = (if is_some x.initial then 1 else 0) + 2 * initial_bits xs

-- the variables with an initial value
abbrev pub initial_set : List DraftVariable → VariableSet
initial_set xs = record { 0 = initial_bits xs }
