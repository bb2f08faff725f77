-- The operations on Integers and on Booleans.
use Rattle.std.specs.Prelude.{ℤ, ◌+ℤ◌, ◌-ℤ◌, ◌*ℤ◌, Bool, not, ◌&&◌, ◌||◌}
use Rattle.turn_code.specs.Values.{differ}
use Rattle.turn_code.specs.declared.operation.Operation.{Operation}
use Rattle.turn_code.specs.declared.operation.Operation.TheVariants.{Add, Subtract, Multiply}
use Rattle.turn_code.specs.declared.operation.Connective.{Connective}
use Rattle.turn_code.specs.declared.operation.Connective.TheVariants.{And, Or, Xor, Same}

-- the result before it wraps to 32 bits
abbrev pub meaning_of : Operation → ℤ → ℤ → ℤ
meaning_of Add x y = x +ℤ y
meaning_of Subtract x y = x -ℤ y
meaning_of Multiply x y = x *ℤ y

abbrev pub truth_of : Connective → Bool → Bool → Bool
truth_of And x y = x && y
truth_of Or x y = x || y
truth_of Xor x y = differ x y
truth_of Same x y = not (differ x y)
