-- The right operand of a division. (Z.100: Integer operators; that it must be a literal is this
-- profile's own.)
use Rattle.std.specs.Prelude.{ℕ, Bool, true, false, not, ◌&&◌, List, [], ◌∷◌, ◌++◌, if◌then◌else◌}
use Rattle.std.specs.Prelude.{nat_lt, nat_le}
use Rattle.std.specs.List.{flat_map}
use Rattle.sdl_lex.specs.Limits.{GREATEST_NUMBER}
use Rattle.sdl_tables.specs.sdl_ast_types.expression.BinaryOperator.{BinaryOperator}
use Rattle.sdl_tables.specs.sdl_ast_types.expression.BinaryOperator.TheVariants.{Or, Xor, And}
use Rattle.sdl_tables.specs.sdl_ast_types.expression.BinaryOperator.TheVariants.{Equal, NotEqual}
use Rattle.sdl_tables.specs.sdl_ast_types.expression.BinaryOperator.TheVariants.{Less, LessEqual}
use Rattle.sdl_tables.specs.sdl_ast_types.expression.BinaryOperator.TheVariants.{Greater}
use Rattle.sdl_tables.specs.sdl_ast_types.expression.BinaryOperator.TheVariants.{GreaterEqual, Add}
use Rattle.sdl_tables.specs.sdl_ast_types.expression.BinaryOperator.TheVariants.{Subtract, Multiply}
use Rattle.sdl_tables.specs.sdl_ast_types.expression.BinaryOperator.TheVariants.{Divide, Modulo}
use Rattle.sdl_tables.specs.sdl_ast_types.expression.BinaryOperator.TheVariants.{Remainder}
use Rattle.sdl_tables.specs.Plain.{Tree, number, truth, variable, unary, binary, PlainAssignment}
use Rattle.sdl_tables.specs.Plain.{PlainSending, PlainAction, task, output, set_timer, reset_timer}
use Rattle.sdl_tables.specs.Plain.{PlainBlock}
use Rattle.sdl_tables.specs.Places.{place_of}
use Rattle.sdl_tables.specs.Names.{processes_of}
use Rattle.sdl_sound.specs.Statements.{Statement, acts, asks, covers, finishes}
use Rattle.sdl_sound.specs.Actions.{in_statements}

-- ---- S9: the right operand of `/`, MOD or REM must be a number of 1 or more

abbrev pub divides : BinaryOperator → Bool
divides Or = false
divides Xor = false
divides And = false
divides Equal = false
divides NotEqual = false
divides Less = false
divides LessEqual = false
divides Greater = false
divides GreaterEqual = false
divides Add = false
divides Subtract = false
divides Multiply = false
divides Divide = true
divides Modulo = true
divides Remainder = true

-- a number from 1 to the greatest number, with or without parentheses
abbrev pub is_divisor : Tree → Bool
is_divisor (number at value) = nat_lt 0 value && nat_le value GREATEST_NUMBER
is_divisor (truth at value) = false
is_divisor (variable at id) = false
is_divisor (unary at operator operand) = false
is_divisor (binary at operator left right) = false

abbrev pub bad_divisor : BinaryOperator → Tree → List ℕ
bad_divisor operator right =
    if divides operator && not (is_divisor right) then place_of right ∷ [] else []

abbrev pub bad_divisors_in : Tree → List ℕ
bad_divisors_in (number at value) = []
bad_divisors_in (truth at value) = []
bad_divisors_in (variable at id) = []
bad_divisors_in (unary at operator operand) = bad_divisors_in operand
bad_divisors_in (binary at operator left right) =
    bad_divisors_in left ++ (bad_divisors_in right ++ bad_divisor operator right)

abbrev pub assignment_divisors : PlainAssignment → List ℕ
assignment_divisors a = bad_divisors_in a.value

abbrev pub sending_divisors : PlainSending → List ℕ
sending_divisors s = flat_map bad_divisors_in s.parameters

abbrev pub action_divisors : PlainAction → List ℕ
action_divisors (task at assignments) = flat_map assignment_divisors assignments
action_divisors (output at sendings to) = flat_map sending_divisors sendings
action_divisors (set_timer at delay timer) = bad_divisors_in delay
action_divisors (reset_timer at timer) = []

abbrev pub statement_divisors : Statement → List ℕ
statement_divisors (acts a) = action_divisors a
statement_divisors (asks at q c) = bad_divisors_in q
statement_divisors (covers q ranges) = []
statement_divisors (finishes e) = []

abbrev pub bad_divisors : PlainBlock → List ℕ
bad_divisors b = flat_map (in_statements (λ from. statement_divisors)) (processes_of b)
