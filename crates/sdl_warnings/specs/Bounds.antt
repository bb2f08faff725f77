-- The bounds of ranges.
use Rattle.std.specs.Prelude.{◌≡◌, ℤ, pos, ◌+ℤ◌, ◌≤ℤ◌, int_lt, Bool, true, not, ◌&&◌, ◌||◌, List}
use Rattle.sdl_ast.specs.declared.tree.Literal.{Literal}
use Rattle.sdl_ast.specs.declared.tree.Literal.TheVariants.{Integer, Boolean}
use Rattle.sdl_ast.specs.declared.tree.Range.{Range}
use Rattle.sdl_ast.specs.declared.tree.Range.TheVariants.{Value, Compared, Between}
use Rattle.sdl_warnings.specs.Values.{LEAST, is_left}

-- the greatest Integer of 32 bits
abbrev pub GREATEST : ℤ
GREATEST = pos 2147483647

-- a constant doesn't pass a test, nor does the next Integer, if there is one
abbrev pub none_at : (Literal → Bool) → Literal → Bool
none_at test (Boolean b) = true
none_at test (Integer k) =
    not (test (Integer k)) && (not (int_lt k GREATEST) || not (test (Integer (k +ℤ pos 1))))

abbrev pub none_at_range : (Literal → Bool) → Range → Bool
none_at_range test (Value k) = none_at test k.value
none_at_range test (Compared at r k) = none_at test k.value
none_at_range test (Between low high) = none_at test low.value && none_at test high.value

-- an Integer of 32 bits that is left
pub record IsLeft (earlier own : List Range) (x : ℤ) : Type 0 where
  pub least : LEAST ≤ℤ x
  pub greatest : x ≤ℤ GREATEST
  pub left : is_left earlier own (Integer x) ≡ true
