-- Why one or two values of a sort can't be taken from the top of the operands.
use Rattle.std.specs.Prelude.{◌≡◌, List, [], ◌∷◌}
use Rattle.turn_code.specs.declared.value.Value.{Value}
use Rattle.turn_code.specs.declared.value.Value.TheVariants.{Int, Bool}
use Rattle.turn_code.specs.declared.trouble.Trouble.{Trouble}
use Rattle.turn_code.specs.declared.trouble.Trouble.TheVariants.{WrongSort, Underflow}

abbrev pub TroubleAtOne : List Value → Trouble → Type 0
TroubleAtOne [] e = e ≡ Underflow
TroubleAtOne (Int x ∷ os) e = ⊥
TroubleAtOne (Bool x ∷ os) e = e ≡ WrongSort

abbrev pub TroubleAtTwo : List Value → Trouble → Type 0
TroubleAtTwo [] e = e ≡ Underflow
TroubleAtTwo (y ∷ []) e = e ≡ Underflow
TroubleAtTwo (Int y ∷ Int x ∷ os) e = ⊥
TroubleAtTwo (Int y ∷ Bool x ∷ os) e = e ≡ WrongSort
TroubleAtTwo (Bool y ∷ x ∷ os) e = e ≡ WrongSort

abbrev pub TroubleAtBoolean : List Value → Trouble → Type 0
TroubleAtBoolean [] e = e ≡ Underflow
TroubleAtBoolean (Bool x ∷ os) e = ⊥
TroubleAtBoolean (Int x ∷ os) e = e ≡ WrongSort

abbrev pub TroubleAtBooleans : List Value → Trouble → Type 0
TroubleAtBooleans [] e = e ≡ Underflow
TroubleAtBooleans (y ∷ []) e = e ≡ Underflow
TroubleAtBooleans (Bool y ∷ Bool x ∷ os) e = ⊥
TroubleAtBooleans (Bool y ∷ Int x ∷ os) e = e ≡ WrongSort
TroubleAtBooleans (Int y ∷ x ∷ os) e = e ≡ WrongSort
