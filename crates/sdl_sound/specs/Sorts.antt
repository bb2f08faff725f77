-- Sorts: the sort that each operand, assigned value, initial value, parameter, answer and place of
-- an INPUT must have, and the places of those with another sort. (Z.100: expressions, sorts of
-- data.)
use Rattle.std.specs.Prelude.{ℕ, Bool, true, false, ◌&&◌, List, [], ◌∷◌, ◌++◌, Option, None, Some}
use Rattle.std.specs.Prelude.{if◌then◌else◌, length, nat_eq, nat_lt, find, zip}
use Rattle.std.specs.List.{flat_map}
use Rattle.std.specs.Option.{option_map, option_map_or}
use Rattle.sdl_tables.specs.sdl_ast_types.expression.Identifier.{Identifier}
use Rattle.sdl_tables.specs.sdl_ast_types.expression.UnaryOperator.{UnaryOperator}
use Rattle.sdl_tables.specs.sdl_ast_types.expression.UnaryOperator.TheVariants.{Negate, Not}
use Rattle.sdl_tables.specs.sdl_ast_types.expression.BinaryOperator.{BinaryOperator}
use Rattle.sdl_tables.specs.sdl_ast_types.expression.BinaryOperator.TheVariants.{Or, Xor, And}
use Rattle.sdl_tables.specs.sdl_ast_types.expression.BinaryOperator.TheVariants.{Equal, NotEqual}
use Rattle.sdl_tables.specs.sdl_ast_types.expression.BinaryOperator.TheVariants.{Less, LessEqual}
use Rattle.sdl_tables.specs.sdl_ast_types.expression.BinaryOperator.TheVariants.{Greater}
use Rattle.sdl_tables.specs.sdl_ast_types.expression.BinaryOperator.TheVariants.{GreaterEqual, Add}
use Rattle.sdl_tables.specs.sdl_ast_types.expression.BinaryOperator.TheVariants.{Subtract, Multiply}
use Rattle.sdl_tables.specs.sdl_ast_types.expression.BinaryOperator.TheVariants.{Divide, Modulo}
use Rattle.sdl_tables.specs.sdl_ast_types.expression.BinaryOperator.TheVariants.{Remainder}
use Rattle.sdl_tables.specs.sdl_ast_types.tree.Sort.{Sort}
use Rattle.sdl_tables.specs.sdl_ast_types.tree.Sort.TheVariants.{Integer, Boolean}
use Rattle.sdl_tables.specs.sdl_ast_types.tree.Constant.{Constant}
use Rattle.sdl_tables.specs.sdl_ast_types.tree.Range.{Range}
use Rattle.sdl_tables.specs.sdl_ast_types.tree.Range.TheVariants.{Value, Compared, Between}
use Rattle.sdl_tables.specs.sdl_ast_types.tree.Literal.{Literal}
use Rattle.sdl_tables.specs.sdl_ast_types.tree.Literal.TheVariants as literal
use Rattle.sdl_tables.specs.Plain.{Tree, number, truth, variable, unary, binary, PlainAssignment}
use Rattle.sdl_tables.specs.Plain.{PlainSending, PlainAction, task, output, set_timer, reset_timer}
use Rattle.sdl_tables.specs.Plain.{PlainStimulus, PlainInput, PlainProcess, PlainBlock}
use Rattle.sdl_tables.specs.Places.{place_of}
use Rattle.sdl_tables.specs.Names.{same_name, processes_of, signal_named, Variable, variables_of}
use Rattle.sdl_tables.specs.Names.{input_parts}
use Rattle.sdl_sound.specs.Statements.{Statement, acts, asks, covers, finishes}
use Rattle.sdl_sound.specs.Actions.{in_statements}

abbrev pub same_sort : Sort → Sort → Bool
same_sort Integer Integer = true
same_sort Integer Boolean = false
same_sort Boolean Integer = false
same_sort Boolean Boolean = true

-- a part has a sort, and it is the expected one
abbrev pub has_sort : Sort → Option Sort → Bool
has_sort want found = option_map_or (same_sort want) found false

-- two parts have sorts, and they are the same
abbrev pub have_one_sort : Option Sort → Option Sort → Bool
have_one_sort one other = option_map_or (λ want. has_sort want other) one false

-- ---- the sort of an expression, determined by its operator, independent of its operands

-- the sort of a variable; none if the variable isn't declared
abbrev pub variable_sort : List Variable → List ℕ → Option Sort
variable_sort vs x = option_map (λ v. v.sort) (find (λ v. same_name x v.name.name) vs)

-- the sort of the operand and of the result
abbrev pub unary_sort : UnaryOperator → Sort
unary_sort Negate = Integer
unary_sort Not = Boolean

-- the sort of the result
abbrev pub binary_sort : BinaryOperator → Sort
binary_sort Or = Boolean
binary_sort Xor = Boolean
binary_sort And = Boolean
binary_sort Equal = Boolean
binary_sort NotEqual = Boolean
binary_sort Less = Boolean
binary_sort LessEqual = Boolean
binary_sort Greater = Boolean
binary_sort GreaterEqual = Boolean
binary_sort Add = Integer
binary_sort Subtract = Integer
binary_sort Multiply = Integer
binary_sort Divide = Integer
binary_sort Modulo = Integer
binary_sort Remainder = Integer

-- the expected sort of both operands, given the sort of the left one; `=` and `/=` accept two
-- operands of the same sort
abbrev pub operand_sort : BinaryOperator → Option Sort → Option Sort
operand_sort Or left = Some Boolean
operand_sort Xor left = Some Boolean
operand_sort And left = Some Boolean
operand_sort Equal left = left
operand_sort NotEqual left = left
operand_sort Less left = Some Integer
operand_sort LessEqual left = Some Integer
operand_sort Greater left = Some Integer
operand_sort GreaterEqual left = Some Integer
operand_sort Add left = Some Integer
operand_sort Subtract left = Some Integer
operand_sort Multiply left = Some Integer
operand_sort Divide left = Some Integer
operand_sort Modulo left = Some Integer
operand_sort Remainder left = Some Integer

-- the sort of an expression over these variables
abbrev pub sort_in : List Variable → Tree → Option Sort
sort_in vs (number at value) = Some Integer
sort_in vs (truth at value) = Some Boolean
sort_in vs (variable at id) = variable_sort vs id.name
sort_in vs (unary at operator operand) = Some (unary_sort operator)
sort_in vs (binary at operator left right) = Some (binary_sort operator)

-- the question is Boolean
abbrev pub is_truth : List Variable → Tree → Bool
is_truth vs q = has_sort Boolean (sort_in vs q)

-- ---- S3: a wrong sort

-- the place of an expression that doesn't have the expected sort
abbrev pub misfit : List Variable → Option Sort → Tree → List ℕ
misfit vs want t = if have_one_sort want (sort_in vs t) then [] else place_of t ∷ []

-- the operands with a wrong sort; if `=` or `/=` has operands of different sorts, the right one is
-- wrong
abbrev pub wrong_operands : List Variable → BinaryOperator → Tree → Tree → List ℕ
wrong_operands vs operator left right =
    misfit vs (operand_sort operator (sort_in vs left)) left
    ++ misfit vs (operand_sort operator (sort_in vs left)) right

-- all wrong operands in an expression, nested ones included
abbrev pub wrong_in : List Variable → Tree → List ℕ
wrong_in vs (number at value) = []
wrong_in vs (truth at value) = []
wrong_in vs (variable at id) = []
wrong_in vs (unary at operator operand) =
    wrong_in vs operand ++ misfit vs (Some (unary_sort operator)) operand
wrong_in vs (binary at operator left right) =
    wrong_in vs left ++ (wrong_in vs right ++ wrong_operands vs operator left right)

-- an expression that must have this sort
abbrev pub wrong_for : List Variable → Sort → Tree → List ℕ
wrong_for vs want t = wrong_in vs t ++ misfit vs (Some want) t

-- if the assigned value has another sort, the fault is at the variable
abbrev pub wrong_variable : List Variable → PlainAssignment → List ℕ
wrong_variable vs a =
    if have_one_sort (variable_sort vs a.variable.name) (sort_in vs a.value) then []
    else a.variable.at ∷ []

abbrev pub wrong_assignment : List Variable → PlainAssignment → List ℕ
wrong_assignment vs a = wrong_in vs a.value ++ wrong_variable vs a

-- the sorts of the parameters of a signal. A timer has none.
abbrev pub parameter_sorts : PlainBlock → List ℕ → List Sort
parameter_sorts b x = option_map_or (λ s. s.parameters) (signal_named b x) []

-- a parameter of an OUTPUT, with the sort that it must have
abbrev pub wrong_parameter : List Variable → Sort × Tree → List ℕ
wrong_parameter vs x = misfit vs (Some x.0) x.1

-- there are as many parameters as the signal has, or the fault is at the signal's name
abbrev pub wrong_number : List Sort → PlainSending → List ℕ
wrong_number sorts s = if nat_eq (length sorts) (length s.parameters) then [] else s.signal.at ∷ []

abbrev pub wrong_sending : PlainBlock → List Variable → PlainSending → List ℕ
wrong_sending b vs s =
    wrong_number (parameter_sorts b s.signal.name) s
    ++ (flat_map (wrong_in vs) s.parameters
    ++ flat_map (wrong_parameter vs) (zip (parameter_sorts b s.signal.name) s.parameters))

-- an action; the delay of a SET is an Integer
abbrev pub wrong_action : PlainBlock → List Variable → PlainAction → List ℕ
wrong_action b vs (task at assignments) = flat_map (wrong_assignment vs) assignments
wrong_action b vs (output at sendings to) = flat_map (wrong_sending b vs) sendings
wrong_action b vs (set_timer at delay timer) = wrong_for vs Integer delay
wrong_action b vs (reset_timer at timer) = []

-- a place of an INPUT, with the sort of the parameter that its variable receives
abbrev pub wrong_place : List Variable → Sort × Option Identifier → List ℕ
wrong_place vs (want, None) = []
wrong_place vs (want, Some id) = if has_sort want (variable_sort vs id.name) then [] else id.at ∷ []

-- there are no more places than parameters, or the fault is at the name of the signal or timer
abbrev pub too_many_places : List Sort → PlainStimulus → List ℕ
too_many_places sorts s = if nat_lt (length sorts) (length s.places) then s.name.at ∷ [] else []

abbrev pub wrong_stimulus : PlainBlock → List Variable → PlainStimulus → List ℕ
wrong_stimulus b vs s =
    too_many_places (parameter_sorts b s.name.name) s
    ++ flat_map (wrong_place vs) (zip (parameter_sorts b s.name.name) s.places)

abbrev pub literal_sort : Literal → Sort
literal_sort (literal.Integer k) = Integer
literal_sort (literal.Boolean b) = Boolean

abbrev pub is_constant : Sort → Constant → Bool
is_constant want c = same_sort want (literal_sort c.value)

-- an initial value
abbrev pub wrong_constant : Sort → Option Constant → List ℕ
wrong_constant want None = []
wrong_constant want (Some c) = if is_constant want c then [] else c.at ∷ []

abbrev pub wrong_initial : Variable → List ℕ
wrong_initial v = wrong_constant v.sort v.initial

-- the answers to a Boolean question are single values, TRUE or FALSE
abbrev pub answers_truth : Range → Bool
answers_truth (Value c) = is_constant Boolean c
answers_truth (Compared at relation c) = false
answers_truth (Between low high) = false

-- the answers to an Integer question are numbers: single, with a relation, or in a range
abbrev pub answers_number : Range → Bool
answers_number (Value c) = is_constant Integer c
answers_number (Compared at relation c) = is_constant Integer c
answers_number (Between low high) = is_constant Integer low && is_constant Integer high

-- the place of the first token of a range
abbrev pub range_place : Range → ℕ
range_place (Value c) = c.at
range_place (Compared at relation c) = at
range_place (Between low high) = low.at

-- an answer fits its question
abbrev pub answers_question : List Variable → Tree → Range → Bool
answers_question vs q r = if is_truth vs q then answers_truth r else answers_number r

abbrev pub wrong_answer : List Variable → Tree → Range → List ℕ
wrong_answer vs q r = if answers_question vs q r then [] else range_place r ∷ []

-- the wrong sorts in a statement; a question may have either sort
abbrev pub wrong_statement : PlainBlock → List Variable → Statement → List ℕ
wrong_statement b vs (acts a) = wrong_action b vs a
wrong_statement b vs (asks at q c) = wrong_in vs q
wrong_statement b vs (covers q ranges) = flat_map (wrong_answer vs q) ranges
wrong_statement b vs (finishes e) = []

-- the wrong sorts in the places of an INPUT
abbrev pub wrong_input : PlainBlock → List Variable → PlainInput → List ℕ
wrong_input b vs i = flat_map (wrong_stimulus b vs) i.stimuli

-- the wrong sorts in the declarations of a process and the places of its INPUTs
abbrev pub wrong_declarations : PlainBlock → PlainProcess → List ℕ
wrong_declarations b p =
    flat_map wrong_initial (variables_of p)
    ++ flat_map (wrong_input b (variables_of p)) (input_parts p)

abbrev pub wrong_sorts : PlainBlock → List ℕ
wrong_sorts b =
    flat_map (wrong_declarations b) (processes_of b)
    ++ flat_map (λ p. in_statements (λ from. wrong_statement b (variables_of p)) p) (processes_of b)
