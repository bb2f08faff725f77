-- The longest path of a transition: its instructions, its operands at a time, and its effects. Each
-- instruction counts 1. (The counts are this profile's own.)
use Rattle.std.specs.Prelude.{ℕ, zero, suc, ◌+◌, Bool, true, false, List, [], ◌∷◌, Option, None}
use Rattle.std.specs.Prelude.{Some, if◌then◌else◌, length, max, map, sum_by}
use Rattle.std.specs.List.{flat_map}
use Rattle.std.specs.Option.{option_map_or}
use Rattle.sdl_tables.specs.sdl_ast_types.expression.Identifier.{Identifier}
use Rattle.sdl_tables.specs.sdl_ast_types.expression.BinaryOperator.{BinaryOperator}
use Rattle.sdl_tables.specs.sdl_ast_types.expression.BinaryOperator.TheVariants.{Or, Xor, And}
use Rattle.sdl_tables.specs.sdl_ast_types.expression.BinaryOperator.TheVariants.{Equal, NotEqual}
use Rattle.sdl_tables.specs.sdl_ast_types.expression.BinaryOperator.TheVariants.{Less, LessEqual}
use Rattle.sdl_tables.specs.sdl_ast_types.expression.BinaryOperator.TheVariants.{Greater}
use Rattle.sdl_tables.specs.sdl_ast_types.expression.BinaryOperator.TheVariants.{GreaterEqual, Add}
use Rattle.sdl_tables.specs.sdl_ast_types.expression.BinaryOperator.TheVariants.{Subtract, Multiply}
use Rattle.sdl_tables.specs.sdl_ast_types.expression.BinaryOperator.TheVariants.{Divide, Modulo}
use Rattle.sdl_tables.specs.sdl_ast_types.expression.BinaryOperator.TheVariants.{Remainder}
use Rattle.sdl_tables.specs.sdl_ast_types.tree.Range.{Range}
use Rattle.sdl_tables.specs.sdl_ast_types.tree.End.{End}
use Rattle.sdl_tables.specs.sdl_ast_types.tree.End.TheVariants.{NextState, Stop, Join}
use Rattle.sdl_tables.specs.Plain.{Tree, number, truth, variable, unary, binary, PlainAssignment}
use Rattle.sdl_tables.specs.Plain.{PlainSending, PlainAction, task, output, set_timer, reset_timer}
use Rattle.sdl_tables.specs.Plain.{Text, falls, ends, does, decides, Choice, nothing_else}
use Rattle.sdl_tables.specs.Plain.{otherwise, answer, PlainProcess}
use Rattle.sdl_tables.specs.Names.{Variable, variables_of, connection_named, Input, inputs_by_state}
use Rattle.sdl_sound.specs.Going.{goes_on}
use Rattle.sdl_sound.specs.Joins.{reached}
use Rattle.sdl_sound.specs.Sorts.{is_truth}

-- the divisor of `/`, MOD and REM is part of the instruction and isn't an operand
abbrev pub is_division : BinaryOperator → Bool
is_division Or = false
is_division Xor = false
is_division And = false
is_division Equal = false
is_division NotEqual = false
is_division Less = false
is_division LessEqual = false
is_division Greater = false
is_division GreaterEqual = false
is_division Add = false
is_division Subtract = false
is_division Multiply = false
is_division Divide = true
is_division Modulo = true
is_division Remainder = true

-- the instructions of an expression: one for each number, truth value, variable and operator
abbrev pub cost_of : Tree → ℕ
cost_of (number at value) = 1
cost_of (truth at value) = 1
cost_of (variable at name) = 1
cost_of (unary at operator operand) = cost_of operand + 1
cost_of (binary at operator left right) =
    cost_of left + (if is_division operator then 0 else cost_of right) + 1

-- the most operands at a time: the left one waits while the right one is computed
abbrev pub depth_of : Tree → ℕ
depth_of (number at value) = 1
depth_of (truth at value) = 1
depth_of (variable at name) = 1
depth_of (unary at operator operand) = depth_of operand
depth_of (binary at operator left right) =
    max (depth_of left) (if is_division operator then 0 else 1 + depth_of right)

-- an assignment: the instructions of its value, and a store
abbrev pub assignment_cost : PlainAssignment → ℕ
assignment_cost a = cost_of a.value + 1

abbrev pub assignments_cost : List PlainAssignment → ℕ
assignments_cost list = sum_by assignment_cost list

abbrev pub assignments_depth : List PlainAssignment → ℕ
assignments_depth [] = 0
assignments_depth (a ∷ list) = max (depth_of a.value) (assignments_depth list)

-- a signal sent: the instructions of its parameters, and the sending
abbrev pub sending_cost : PlainSending → ℕ
sending_cost s = sum_by cost_of s.parameters + 1

abbrev pub sendings_cost : List PlainSending → ℕ
sendings_cost list = sum_by sending_cost list

-- the first `waiting` parameters wait while the others are computed
abbrev pub parameters_depth : ℕ → List Tree → ℕ
parameters_depth waiting [] = 0
parameters_depth waiting (t ∷ ts) = max (waiting + depth_of t) (parameters_depth (waiting + 1) ts)

abbrev pub sendings_depth : List PlainSending → ℕ
sendings_depth [] = 0
sendings_depth (s ∷ list) = max (parameters_depth 0 s.parameters) (sendings_depth list)

-- an action: its values, and an instruction for each assignment, signal sent, SET and RESET
abbrev pub action_cost : PlainAction → ℕ
action_cost (task at list) = assignments_cost list
action_cost (output at list to) = sendings_cost list
action_cost (set_timer at delay timer) = cost_of delay + 1
action_cost (reset_timer at timer) = 1

abbrev pub action_depth : PlainAction → ℕ
action_depth (task at list) = assignments_depth list
action_depth (output at list to) = sendings_depth list
action_depth (set_timer at delay timer) = depth_of delay
action_depth (reset_timer at timer) = 0

-- the effects: each signal of an OUTPUT, each SET and each RESET
abbrev pub action_effects : PlainAction → ℕ
action_effects (task at list) = 0
action_effects (output at list to) = length list
action_effects (set_timer at delay timer) = 1
action_effects (reset_timer at timer) = 1

-- the end of a transition costs one instruction; a JOIN is a jump
abbrev pub end_cost : End → ℕ
end_cost (NextState n) = 1
end_cost (Stop at) = 1
end_cost (Join j) = 1

-- the count of the connection that a JOIN leads to
abbrev pub end_count : (List ℕ → ℕ) → End → ℕ
end_count join (NextState n) = 0
end_count join (Stop at) = 0
end_count join (Join j) = join j.connector.name

-- ---- with bodies and JOINs: `vs` are the variables, which determine the sort of a question, and
-- `join` returns the count of a connection

-- An Integer DECISION tests the ranges of an answer in turn, and continues with its body if one
-- matches. A body counts one test for each range up to that one. If no range matches, the rest
-- counts all tests.
abbrev pub tests_budget : List Range → ℕ → ℕ → ℕ
tests_budget [] body others = others
tests_budget (r ∷ ranges) body others = 1 + max body (tests_budget ranges body others)

abbrev mutual
  -- the greatest cost of a walk through a text that is followed by a part of cost k; each statement
  -- counts with the statements after it
  pub budget : List Variable → (List ℕ → ℕ) → Text → ℕ → ℕ
  budget vs join falls k = k
  budget vs join (ends e) k = end_cost e + end_count join e
  budget vs join (does a rest) k = action_cost a + budget vs join rest k
  budget vs join (decides at q c rest) k =
      cost_of q + (if is_truth vs q then 1 + pick_budget vs join c (budget vs join rest k)
      else case_budget vs join c (budget vs join rest k))

  -- an Integer DECISION after its question: the tests up to a range, the body, and 1 if it
  -- continues past the DECISION; for ELSE all tests, and 1 to drop the value of the question
  pub case_budget : List Variable → (List ℕ → ℕ) → Choice → ℕ → ℕ
  case_budget vs join nothing_else k = 0
  case_budget vs join (otherwise body) k = 1 + budget vs join body (1 + k)
  case_budget vs join (answer at ranges body others) k =
      tests_budget ranges (budget vs join body (1 + k)) (case_budget vs join others k)

  -- a Boolean DECISION after the choice: the body, and 1 if it continues past the DECISION
  pub pick_budget : List Variable → (List ℕ → ℕ) → Choice → ℕ → ℕ
  pick_budget vs join nothing_else k = 0
  pick_budget vs join (otherwise body) k = budget vs join body (1 + k)
  pick_budget vs join (answer at ranges body others) k =
      max (budget vs join body (1 + k)) (pick_budget vs join others k)

abbrev mutual
  -- the greatest depth on a walk through a text
  pub depth : (List ℕ → ℕ) → Text → ℕ
  depth join falls = 0
  depth join (ends e) = end_count join e
  depth join (does a rest) = max (action_depth a) (depth join rest)
  depth join (decides at q c rest) = max (depth_of q) (max (choice_depth join c) (depth join rest))

  pub choice_depth : (List ℕ → ℕ) → Choice → ℕ
  choice_depth join nothing_else = 0
  choice_depth join (otherwise body) = depth join body
  choice_depth join (answer at ranges body others) =
      max (depth join body) (choice_depth join others)

abbrev mutual
  -- the most effects on a walk through a text that is followed by a part with k effects
  pub effects : (List ℕ → ℕ) → Text → ℕ → ℕ
  effects join falls k = k
  effects join (ends e) k = end_count join e
  effects join (does a rest) k = action_effects a + effects join rest k
  effects join (decides at q c rest) k = choice_effects join c (effects join rest k)

  pub choice_effects : (List ℕ → ℕ) → Choice → ℕ → ℕ
  choice_effects join nothing_else k = 0
  choice_effects join (otherwise body) k = effects join body k
  choice_effects join (answer at ranges body others) k =
      max (effects join body k) (choice_effects join others k)

-- The count of the connection with a name, given the `measure` of a text. At most n JOINs are
-- followed, and JOINs after those count 0.
abbrev pub joined_by : (List Variable → (List ℕ → ℕ) → Text → ℕ) → PlainProcess → ℕ → List ℕ → ℕ
joined_by measure p zero x = 0
joined_by measure p (suc n) x =
    option_map_or (λ c. measure (variables_of p) (joined_by measure p n) c.text)
    (connection_named p x) 0

-- If no JOIN leads back to its connection, a walk meets no connection twice, so it follows at most
-- as many JOINs as there are connections.
abbrev pub joined : (List Variable → (List ℕ → ℕ) → Text → ℕ) → PlainProcess → List ℕ → ℕ
joined measure p x = joined_by measure p (length p.connections) x

-- a text that no statement follows
abbrev pub text_budget : PlainProcess → Text → ℕ
text_budget p t = budget (variables_of p) (joined (λ vs join text. budget vs join text 0) p) t 0

abbrev pub text_depth : PlainProcess → Text → ℕ
text_depth p t = depth (joined (λ vs. depth) p) t

abbrev pub text_effects : PlainProcess → Text → ℕ
text_effects p t = effects (joined (λ vs join text. effects join text 0) p) t 0

-- ---- the number of instructions in the code

-- a body that continues past its DECISION ends with a jump
abbrev pub jump_size : Text → ℕ
jump_size t = if goes_on t then 1 else 0

-- the tests of an Integer DECISION, and the drop before ELSE
abbrev pub tests_size : Choice → ℕ
tests_size nothing_else = 0
tests_size (otherwise body) = 1
tests_size (answer at ranges body others) = length ranges + tests_size others

abbrev mutual
  -- the code of a text without that of connections. A JOIN is a jump. An Integer DECISION has a
  -- test for each range and a drop before ELSE; a Boolean one has one instruction that chooses.
  pub size : List Variable → Text → ℕ
  size vs falls = 0
  size vs (ends e) = end_cost e
  size vs (does a rest) = action_cost a + size vs rest
  size vs (decides at q c rest) =
      cost_of q + (if is_truth vs q then 1 else tests_size c) + bodies_size vs c + size vs rest

  pub bodies_size : List Variable → Choice → ℕ
  bodies_size vs nothing_else = 0
  bodies_size vs (otherwise body) = size vs body + jump_size body
  bodies_size vs (answer at ranges body others) =
      size vs body + jump_size body + bodies_size vs others

-- the code of a text, and once that of each connection that it reaches
abbrev pub text_size : PlainProcess → Text → ℕ
text_size p t = size (variables_of p) t + sum_by (λ c. size (variables_of p) c.text) (reached p t)

-- A transition with the places of its input before the text. Each place has the variable that gets
-- the parameter, or none. START has no places.
pub record Piece : Type 0 where
  pub places : List (Option Identifier)
  pub text : Text

-- a parameter is fetched and stored, or discarded
abbrev pub place_cost : Option Identifier → ℕ
place_cost None = 0
place_cost (Some id) = 2

abbrev pub places_cost : List (Option Identifier) → ℕ
places_cost places = sum_by place_cost places

abbrev pub place_depth : Option Identifier → ℕ
place_depth None = 0
place_depth (Some id) = 1

abbrev pub places_depth : List (Option Identifier) → ℕ
places_depth [] = 0
places_depth (p ∷ ps) = max (place_depth p) (places_depth ps)

abbrev pub piece_budget : PlainProcess → Piece → ℕ
piece_budget p q = places_cost q.places + text_budget p q.text

abbrev pub piece_depth : PlainProcess → Piece → ℕ
piece_depth p q = max (places_depth q.places) (text_depth p q.text)

abbrev pub piece_effects : PlainProcess → Piece → ℕ
piece_effects p q = text_effects p q.text

abbrev pub piece_size : PlainProcess → Piece → ℕ
piece_size p q = places_cost q.places + text_size p q.text

abbrev pub start_piece : PlainProcess → Piece
start_piece p = record { places = []; text = p.start.text }

abbrev pub input_piece : Input → Piece
input_piece i = record { places = i.stimulus.places; text = i.text }

-- the transitions of a process: START, then the inputs of each state by number
abbrev pub pieces_of : PlainProcess → List Piece
pieces_of p = start_piece p ∷ flat_map (map input_piece) (inputs_by_state p)
