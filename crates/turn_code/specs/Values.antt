-- Values, their sorts, the arithmetic of Integers, and how two values are compared.
use Rattle.std.specs.Prelude.{◌≡◌, ℤ, pos, neg_ℤ, ◌+ℤ◌, ◌*ℤ◌, ◌≤ℤ◌, Bool as Truth, true, false, not}
use Rattle.std.specs.Prelude.{◌&&◌, int_lt, int_le}
use Rattle.std.specs.Ordering.{int_eq}
use Rattle.std.specs.Int.{int_wrap, w32}
use Rattle.turn_code.specs.declared.value.Sort.{Sort}
use Rattle.turn_code.specs.declared.value.Sort.TheVariants.{Integer, Boolean}
use Rattle.turn_code.specs.declared.value.Value.{Value}
use Rattle.turn_code.specs.declared.value.Value.TheVariants.{Int, Bool}
use Rattle.turn_code.specs.declared.instruction.Relation.{Relation}
use Rattle.turn_code.specs.declared.instruction.Relation.TheVariants.{Equal, NotEqual, Less}
use Rattle.turn_code.specs.declared.instruction.Relation.TheVariants.{LessEqual, Greater}
use Rattle.turn_code.specs.declared.instruction.Relation.TheVariants.{GreaterEqual}

abbrev pub sort_of : Value → Sort
sort_of (Int z) = Integer
sort_of (Bool b) = Boolean

-- a number wrapped to an Integer: the number from -2^31 to 2^31 - 1 that differs from it by a
-- multiple of 2^32
abbrev pub wrap : ℤ → ℤ
wrap z = int_wrap w32 z

-- w is from -2^31 to 2^31 - 1, and z is w plus `turns` times 2^32
pub record IsWrapped (z w : ℤ) : Type 0 where
  pub least : neg_ℤ (pos 2147483648) ≤ℤ w
  pub most : w ≤ℤ pos 2147483647
  pub turns : ℤ
  pub apart : z ≡ w +ℤ turns *ℤ pos 4294967296

-- wrap returns such a number for every z, and there is only one
pub record WrapLaw : Type 0 where
  pub gives : (z : ℤ) → IsWrapped z (wrap z)
  pub one : (z w : ℤ) → IsWrapped z w → w ≡ wrap z

-- whether x and y are in this relation
abbrev pub holds : Relation → ℤ → ℤ → Truth
holds Equal x y = int_eq x y
holds NotEqual x y = not (int_eq x y)
holds Less x y = int_lt x y
holds LessEqual x y = int_le x y
holds Greater x y = int_lt y x
holds GreaterEqual x y = int_le y x

-- whether z is from a to b, both included
abbrev pub is_between : ℤ → ℤ → ℤ → Truth
is_between a b z = int_le a z && int_le z b

-- whether just one of two truth values is true
abbrev pub differ : Truth → Truth → Truth
differ true y = not y
differ false y = y
