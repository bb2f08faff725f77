-- Names, constants and expressions as they are written in pictures.
use Rattle.std.specs.Prelude.{ℕ, ◌+◌, ℤ, pos, Bool, true, false, ◌&&◌, List, [], ◌∷◌, ◌++◌}
use Rattle.std.specs.Prelude.{Option, None, Some, codes, nat_lt, int_lt, slice_get, ◌==◌}
use Rattle.std.specs.Prelude.{if◌then◌else◌}
use Rattle.std.specs.List.{flat_map}
use Rattle.std.specs.Fmt.{signed_decimal}
use Rattle.std.specs.Int.{cast_signed, w32}
use Rattle.sdl_tables.specs.Names.{number_of}
use Rattle.sdl_ast.specs.Plain.{Tree, number, truth, variable, unary, binary}
use Rattle.sdl_ast.specs.declared.expression.Identifier.{Identifier}
use Rattle.sdl_ast.specs.declared.expression.UnaryOperator.{UnaryOperator}
use Rattle.sdl_ast.specs.declared.expression.UnaryOperator.TheVariants.{Negate, Not}
use Rattle.sdl_ast.specs.declared.expression.BinaryOperator.{BinaryOperator}
use Rattle.sdl_ast.specs.declared.expression.BinaryOperator.TheVariants.{Or, Xor, And, Equal}
use Rattle.sdl_ast.specs.declared.expression.BinaryOperator.TheVariants.{NotEqual, Less, LessEqual}
use Rattle.sdl_ast.specs.declared.expression.BinaryOperator.TheVariants.{Greater, GreaterEqual, Add}
use Rattle.sdl_ast.specs.declared.expression.BinaryOperator.TheVariants.{Subtract, Multiply, Divide}
use Rattle.sdl_ast.specs.declared.expression.BinaryOperator.TheVariants.{Modulo, Remainder}

-- ---- names

-- the name of an identifier; the default name if there is none
abbrev pub name_or : List ℕ → Option Identifier → List ℕ
name_or name None = name
name_or name (Some declared) = declared.name

-- the name with a number; the default name if the number is not in the list
abbrev pub name_at : List Identifier → List ℕ → Option ℕ → List ℕ
name_at names name None = name
name_at names name (Some n) = name_or name (slice_get names n)

-- a name spelled as it is declared, looked up among the declared names of its class
unfoldable pub spelled : List Identifier → List ℕ → List ℕ
spelled names name = name_at names name (number_of names name)

-- items in a row, with a mark between them
abbrev pub row_text : {A : Type 0} → (A → List ℕ) → List ℕ → List A → List ℕ
row_text f mark [] = []
row_text f mark (x ∷ xs) = f x ++ flat_map (λ y. mark ++ f y) xs

abbrev pub names_text : List Identifier → List ℕ → List Identifier → List ℕ
names_text names mark ids = row_text (λ id. spelled names id.name) mark ids

-- ---- expressions

abbrev pub truth_text : Bool → List ℕ
truth_text true = codes "TRUE"
truth_text false = codes "FALSE"

-- how tightly a sign binds
abbrev pub SIGNED : ℕ
SIGNED = 5

-- and how tightly its operand has to
abbrev pub OPERAND : ℕ
OPERAND = 6

abbrev pub sign_text : UnaryOperator → List ℕ
sign_text Negate = codes "-"
sign_text Not = codes "NOT "

-- how tightly an operator binds: 0 is the loosest
abbrev pub level_of : BinaryOperator → ℕ
level_of Or = 0
level_of Xor = 0
level_of And = 1
level_of Equal = 2
level_of NotEqual = 2
level_of Less = 2
level_of LessEqual = 2
level_of Greater = 2
level_of GreaterEqual = 2
level_of Add = 3
level_of Subtract = 3
level_of Multiply = 4
level_of Divide = 4
level_of Modulo = 4
level_of Remainder = 4

-- the level that its left operand needs: its own, but a relation is no operand of a relation
abbrev pub left_level : ℕ → ℕ
left_level level = if level == 2 then 3 else level

abbrev pub operator_text : BinaryOperator → List ℕ
operator_text Or = codes " OR "
operator_text Xor = codes " XOR "
operator_text And = codes " AND "
operator_text Equal = codes " = "
operator_text NotEqual = codes " /= "
operator_text Less = codes " < "
operator_text LessEqual = codes " <= "
operator_text Greater = codes " > "
operator_text GreaterEqual = codes " >= "
operator_text Add = codes " + "
operator_text Subtract = codes " - "
operator_text Multiply = codes " * "
operator_text Divide = codes " / "
operator_text Modulo = codes " MOD "
operator_text Remainder = codes " REM "

abbrev pub opening : Bool → List ℕ
opening true = codes "("
opening false = []

abbrev pub closing : Bool → List ℕ
closing true = codes ")"
closing false = []

-- a number below 0 is an operand with a sign
abbrev pub is_loose_number : ℕ → ℤ → Bool
is_loose_number level x = nat_lt SIGNED level && int_lt x (pos 0)

abbrev pub signed_text : ℕ → ℤ → List ℕ
signed_text level x =
    opening (is_loose_number level x) ++ signed_decimal x ++ closing (is_loose_number level x)

-- an expression, in parentheses if its operator binds less tightly than `level`. A number of 32
-- bits stands for its value: one that replaces a synonym may be below 0
abbrev pub tree_text : List Identifier → ℕ → Tree → List ℕ
tree_text names level (number at n) = signed_text level (cast_signed w32 n)
tree_text names level (truth at b) = truth_text b
tree_text names level (variable at x) = spelled names x.name
tree_text names level (unary at o x) =
    opening (nat_lt SIGNED level) ++ sign_text o ++ tree_text names OPERAND x
    ++ closing (nat_lt SIGNED level)
tree_text names level (binary at o x y) =
    opening (nat_lt (level_of o) level) ++ tree_text names (left_level (level_of o)) x
    ++ operator_text o ++ tree_text names (level_of o + 1) y
    ++ closing (nat_lt (level_of o) level)
