-- The values of expressions, if variables have these values: their meaning, without the effects so
-- far.
use Rattle.std.specs.Prelude.{◌≡◌, ℕ, pos, Bool, true, false, List, [], Option, None, Some}
use Rattle.std.specs.Prelude.{if◌then◌else◌, slice_get, unwrap_or, option_and_then}
use Rattle.sdl_ast.specs.declared.expression.Identifier.{Identifier}
use Rattle.sdl_ast.specs.declared.expression.UnaryOperator.{UnaryOperator}
use Rattle.sdl_ast.specs.declared.expression.BinaryOperator.{BinaryOperator}
use Rattle.sdl_ast.specs.Plain.{Tree, number, truth, variable, unary, binary}
use Rattle.sdl_tables.specs.Names.{number_of, variable_names}
use Rattle.sdl_sound.specs.Longest.{is_division}
use Rattle.turn_code.specs.Run.{Progress}
use Rattle.turn_code.specs.Values.{wrap}
use Rattle.turn_code.specs.declared.value.Value.{Value}
use Rattle.turn_code.specs.declared.value.Value.TheVariants.{Int, Bool as Truth}
use Rattle.sdl_meaning.specs.Act.{apply_one, apply_two, working, divide, divisor_of, value_of}
use Rattle.sdl_meaning.specs.Outcomes.{Scope, at_end, in_trouble, Outcome, goes_on, over}

-- nothing was done
abbrev pub fresh : Progress
fresh = record { variables = []; effects = []; count = 0 }

abbrev pub found : Outcome Value → Option Value
found (goes_on x s) = Some x
found (over e s) = None

-- the value of a variable, if it is set
abbrev pub held : Option ℕ → List (Option Value) → Option Value
held None vs = None
held (Some n) vs = unwrap_or (slice_get vs n) None

abbrev pub is_truth : Value → Bool
is_truth (Int x) = false
is_truth (Truth b) = true

-- the result of an operator on a value, on two values, and on a value and a divisor; none if these
-- have another sort than it requires
abbrev pub made_of_one : UnaryOperator → Value → Option Value
made_of_one op x = found (apply_one op x fresh)

abbrev pub made_of_two : BinaryOperator → Value → Value → Option Value
made_of_two op x y = found (apply_two (working (is_truth x) op) x y fresh)

abbrev pub quotient_of : BinaryOperator → Tree → Value → Option Value
quotient_of op t x = found (divide op (divisor_of t) x fresh)

-- the value of an expression, if variables with these names have these values
abbrev pub valued : List Identifier → Tree → List (Option Value) → Option Value
valued ids (number k n) vs = Some (Int (wrap (pos n)))
valued ids (truth k b) vs = Some (Truth b)
valued ids (variable k n) vs = held (number_of ids n.name) vs
valued ids (unary k op t) vs = option_and_then (made_of_one op) (valued ids t vs)
valued ids (binary k op t u) vs =
    option_and_then (λ x. if is_division op then quotient_of op u x
    else option_and_then (made_of_two op x) (valued ids u vs)) (valued ids t vs)

-- A part of a transition computes a value and leaves the variables; or it is stuck.
abbrev pub Reads : {A : Type 0} → Outcome A → Option A → List (Option Value) → Type 0
Reads (goes_on x s) o vs = (o ≡ Some x) × (s.variables ≡ vs)
Reads (over (at_end e) s) o vs = ⊥
Reads (over (in_trouble t) s) o vs = Unit {0}

-- In each turn an expression has the value that it has by the values of the variables, and leaves
-- them; or the turn is stuck.
abbrev pub ValuesLaw : Type 0
ValuesLaw =
    (c : Scope) (t : Tree) (s : Progress)
    → Reads (value_of c t s) (valued (variable_names c.process) t s.variables) s.variables
