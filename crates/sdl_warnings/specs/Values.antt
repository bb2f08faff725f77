-- The values that the answers of a DECISION match, and answers whose values earlier ones match.
-- (Z.100: decisions, range conditions.)
use Rattle.std.specs.Prelude.{ℕ, zero, suc, ◌^◌, ℤ, pos, negsuc, ◌+ℤ◌, int_lt, int_le, Bool, true}
use Rattle.std.specs.Prelude.{false, not, ◌&&◌, List}
use Rattle.std.specs.Ordering.{int_eq}
use Rattle.std.specs.List.{list_any}
use Rattle.sdl_ast.specs.declared.tree.Literal.{Literal}
use Rattle.sdl_ast.specs.declared.tree.Literal.TheVariants.{Integer, Boolean}
use Rattle.sdl_ast.specs.declared.tree.Relation.{Relation}
use Rattle.sdl_ast.specs.declared.tree.Relation.TheVariants.{Equal, NotEqual, Less}
use Rattle.sdl_ast.specs.declared.tree.Relation.TheVariants.{LessEqual, Greater}
use Rattle.sdl_ast.specs.declared.tree.Relation.TheVariants.{GreaterEqual}
use Rattle.sdl_ast.specs.declared.tree.Range.{Range}
use Rattle.sdl_ast.specs.declared.tree.Range.TheVariants.{Value, Compared, Between}

-- whether two Integers have a relation
abbrev pub compares : Relation → ℤ → ℤ → Bool
compares Equal x k = int_eq x k
compares NotEqual x k = not (int_eq x k)
compares Less x k = int_lt x k
compares LessEqual x k = int_le x k
compares Greater x k = int_lt k x
compares GreaterEqual x k = int_le k x

-- whether an Integer has a relation to a constant; never to a truth value
abbrev pub stands : Relation → ℤ → Literal → Bool
stands r x (Integer k) = compares r x k
stands r x (Boolean b) = false

abbrev pub is_truth_value : Bool → Literal → Bool
is_truth_value b (Integer k) = false
is_truth_value true (Boolean k) = k
is_truth_value false (Boolean k) = not k

-- whether a range matches an Integer
abbrev pub has_integer : Range → ℤ → Bool
has_integer (Value k) x = stands Equal x k.value
has_integer (Compared at r k) x = stands r x k.value
has_integer (Between low high) x =
    stands GreaterEqual x low.value && stands LessEqual x high.value

-- whether a range matches a truth value
abbrev pub has_truth : Range → Bool → Bool
has_truth (Value k) b = is_truth_value b k.value
has_truth (Compared at r k) b = false
has_truth (Between low high) b = false

-- whether a range matches a value
abbrev pub has_value : Literal → Range → Bool
has_value (Integer x) r = has_integer r x
has_value (Boolean b) r = has_truth r b

-- whether an answer matches a value that no earlier one matches
abbrev pub is_left : List Range → List Range → Literal → Bool
is_left earlier own v = list_any (has_value v) own && not (list_any (has_value v) earlier)

-- none of so many Integers from x on passes a test
abbrev pub none_from : (ℤ → Bool) → ℤ → ℕ → Bool
none_from test x zero = true
none_from test x (suc n) = not (test x) && none_from test (x +ℤ pos 1) n

-- the least Integer of 32 bits, and how many there are
abbrev pub LEAST : ℤ
LEAST = negsuc 2147483647

unfoldable pub INTEGERS : ℕ
INTEGERS = 2 ^ 32

-- whether earlier answers match each value of an answer
abbrev pub is_spent : List Range → List Range → Bool
is_spent earlier own =
    none_from (λ x. is_left earlier own (Integer x)) LEAST INTEGERS
    && (not (is_left earlier own (Boolean true)) && not (is_left earlier own (Boolean false)))
