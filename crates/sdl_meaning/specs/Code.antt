-- The instructions of a transition.
use Rattle.std.specs.Prelude.{◌≡◌, ℕ, ◌+◌, ◌==◌, ℤ, pos, Bool, true, false, if◌then◌else◌, List, []}
use Rattle.std.specs.Prelude.{◌∷◌, ◌++◌, length, map, take, Option, Some, None, slice_get, Contains}
use Rattle.std.specs.Prelude.{fold}
use Rattle.std.specs.List.{list_any, flat_map}
use Rattle.std.specs.Option.{option_map_or}
use Rattle.sdl_ast.specs.declared.expression.Identifier.{Identifier}
use Rattle.sdl_ast.specs.declared.expression.UnaryOperator.{UnaryOperator}
use Rattle.sdl_ast.specs.declared.expression.UnaryOperator.TheVariants.{Negate, Not}
use Rattle.sdl_ast.specs.declared.expression.BinaryOperator.{BinaryOperator}
use Rattle.sdl_ast.specs.declared.expression.BinaryOperator.TheVariants.{Or, Xor, And, Equal}
use Rattle.sdl_ast.specs.declared.expression.BinaryOperator.TheVariants.{NotEqual, Less, LessEqual}
use Rattle.sdl_ast.specs.declared.expression.BinaryOperator.TheVariants.{Greater, GreaterEqual, Add}
use Rattle.sdl_ast.specs.declared.expression.BinaryOperator.TheVariants.{Subtract, Multiply, Divide}
use Rattle.sdl_ast.specs.declared.expression.BinaryOperator.TheVariants.{Modulo, Remainder}
use Rattle.sdl_ast.specs.declared.tree.Party.TheVariants as tree_parties
use Rattle.sdl_ast.specs.declared.tree.Destination.{Destination}
use Rattle.sdl_ast.specs.declared.tree.Destination.TheVariants as address
use Rattle.sdl_ast.specs.declared.tree.End.{End}
use Rattle.sdl_ast.specs.declared.tree.End.TheVariants.{NextState, Stop, Join}
use Rattle.sdl_ast.specs.declared.tree.Join as tree_join
use Rattle.sdl_ast.specs.declared.tree.Range.{Range}
use Rattle.sdl_ast.specs.declared.tree.Range.TheVariants as ranges
use Rattle.sdl_ast.specs.declared.tree.Literal.{Literal}
use Rattle.sdl_ast.specs.declared.tree.Literal.TheVariants as literals
use Rattle.sdl_ast.specs.Plain.{Tree, number, truth, variable, unary, binary, PlainAssignment}
use Rattle.sdl_ast.specs.Plain.{PlainSending, PlainAction, task, output, set_timer, reset_timer}
use Rattle.sdl_ast.specs.Plain.{Text, falls, ends, does, decides, Choice, nothing_else, otherwise}
use Rattle.sdl_ast.specs.Plain.{answer}
use Rattle.turn_code.specs.declared.input.Party.{Party}
use Rattle.turn_code.specs.declared.input.Party.TheVariants.{Environment}
use Rattle.turn_code.specs.declared.instruction.Receiver.{Receiver}
use Rattle.turn_code.specs.declared.instruction.Receiver.TheVariants as to_whom
use Rattle.turn_code.specs.declared.instruction.Relation.TheVariants as relations
use Rattle.turn_code.specs.declared.instruction.Instruction.{Instruction}
use Rattle.turn_code.specs.declared.instruction.Instruction.TheVariants as i
use Rattle.turn_code.specs.Values.{wrap}
use Rattle.sdl_tables.specs.Names.{variables_of}
use Rattle.sdl_sound.specs.Going.{goes_on}
use Rattle.sdl_sound.specs.Statements.{end_joins}
use Rattle.sdl_sound.specs.Longest.{Piece, is_division, cost_of, action_cost, jump_size, tests_size}
use Rattle.sdl_sound.specs.Longest.{size, bodies_size, places_cost}
use Rattle.sdl_sound.specs.Receivers.{party_of, receivers}
use Rattle.sdl_meaning.specs.Act.{is_truth, divisor_of, relation_of, integer_in, numbered, the_one}
use Rattle.sdl_meaning.specs.Outcomes.{Scope, variable_at, state_at, timer_at, connector_at}
use Rattle.sdl_meaning.specs.Outcomes.{signal_at}

-- The number of a name. An instruction uses it only if the name has a number.
abbrev pub number_or_zero : Option ℕ → ℕ
number_or_zero None = 0
number_or_zero (Some v) = v

-- The Integer of a constant. A test uses it only if the constant is an Integer.
abbrev pub constant_or_zero : Option ℤ → ℤ
constant_or_zero None = pos 0
constant_or_zero (Some z) = z

abbrev pub load : ℕ → Instruction
load v = i.Load (record { 0 = v })

abbrev pub store : ℕ → Instruction
store v = i.Store (record { 0 = v })

abbrev pub next : ℕ → Instruction
next s = i.Next (record { 0 = s })

abbrev pub set_to : ℕ → Instruction
set_to t = i.Set (record { 0 = t })

abbrev pub reset : ℕ → Instruction
reset t = i.Reset (record { 0 = t })

abbrev pub put : ℕ → Receiver → ℕ → Instruction
put n to count = i.Output (record { 0 = n }) to count

abbrev pub unary_code : UnaryOperator → Instruction
unary_code Negate = i.Neg
unary_code Not = i.Not

-- The code of an operator; the Boolean says whether its left operand is a Boolean.
abbrev pub binary_code : Bool → BinaryOperator → Instruction
binary_code b Or = i.Or
binary_code b Xor = i.Xor
binary_code b And = i.And
binary_code true Equal = i.Same
binary_code false Equal = i.Compare relations.Equal
binary_code true NotEqual = i.Xor
binary_code false NotEqual = i.Compare relations.NotEqual
binary_code b Less = i.Compare relations.Less
binary_code b LessEqual = i.Compare relations.LessEqual
binary_code b Greater = i.Compare relations.Greater
binary_code b GreaterEqual = i.Compare relations.GreaterEqual
binary_code b Add = i.Add
binary_code b Subtract = i.Sub
binary_code b Multiply = i.Mul
binary_code b Divide = i.Div (pos 0)
binary_code b Modulo = i.Mod (pos 0)
binary_code b Remainder = i.Rem (pos 0)

-- A division holds its divisor in the instruction.
abbrev pub division_code : BinaryOperator → ℤ → Instruction
division_code Divide k = i.Div k
division_code Modulo k = i.Mod k
division_code op k = i.Rem k

abbrev pub tree_code : Scope → Tree → List Instruction
tree_code c (number at k) = i.Int (wrap (pos k)) ∷ []
tree_code c (truth at b) = i.Bool b ∷ []
tree_code c (variable at n) = load (number_or_zero (variable_at c n)) ∷ []
tree_code c (unary at op t) = tree_code c t ++ unary_code op ∷ []
tree_code c (binary at op t u) =
    if is_division op then tree_code c t ++ division_code op (divisor_of u) ∷ []
    else tree_code c t ++ (tree_code c u ++ binary_code (is_truth c t) op ∷ [])

abbrev pub trees_code : Scope → List Tree → List Instruction
trees_code c [] = []
trees_code c (t ∷ ts) = tree_code c t ++ trees_code c ts

abbrev pub tasks_code : Scope → List PlainAssignment → List Instruction
tasks_code c [] = []
tasks_code c (a ∷ rest) =
    tree_code c a.value ++ store (number_or_zero (variable_at c a.variable)) ∷ tasks_code c rest

-- A receiver. An instruction uses it only if there is one.
abbrev pub party_or_environment : Option Party → Party
party_or_environment None = Environment
party_or_environment (Some p) = p

abbrev pub receiver_code : Scope → Option Destination → Identifier → Receiver
receiver_code c None n =
    to_whom.Party (party_or_environment (the_one c (receivers c.block (party_of c.process) n.name)))
receiver_code c (Some (address.Process id)) n =
    to_whom.Party (party_or_environment (numbered c (tree_parties.Process id)))
receiver_code c (Some (address.Sender at)) n = to_whom.Sender

-- For each signal its parameters, and the OUTPUT with their number.
abbrev pub sendings_code : Scope → Option Destination → List PlainSending → List Instruction
sendings_code c to [] = []
sendings_code c to (x ∷ rest) =
    trees_code c x.parameters
    ++ put (number_or_zero (signal_at c x.signal)) (receiver_code c to x.signal)
    (length x.parameters) ∷ sendings_code c to rest

abbrev pub action_code : Scope → PlainAction → List Instruction
action_code c (task at ts) = tasks_code c ts
action_code c (output at xs to) = sendings_code c to xs
action_code c (set_timer at t n) = tree_code c t ++ set_to (number_or_zero (timer_at c n)) ∷ []
action_code c (reset_timer at n) = reset (number_or_zero (timer_at c n)) ∷ []

-- ---- with answers and JOINs: each part has a place, and targets are places in the whole code.
-- `to` is the place of the code of the connection with a number.

abbrev pub jump : ℕ → Instruction
jump n = i.Jump (record { 0 = n })

abbrev pub end_code : Scope → (ℕ → ℕ) → End → List Instruction
end_code c to (NextState n) = next (number_or_zero (state_at c n.state)) ∷ []
end_code c to (Stop at) = i.Stop ∷ []
end_code c to (Join j) = jump (to (number_or_zero (connector_at c j.connector))) ∷ []

-- A body that goes on jumps to what follows its DECISION.
abbrev pub leave_code : ℕ → Text → List Instruction
leave_code after body = if goes_on body then jump after ∷ [] else []

-- How many instructions a body has, with its jump.
abbrev pub body_size : Scope → Text → ℕ
body_size c body = size (variables_of c.process) body + jump_size body

-- The test of a range, if the body of its answer starts at place n.
abbrev pub range_code : ℕ → Range → Instruction
range_code n (ranges.Value k) =
    i.Case relations.Equal (constant_or_zero (integer_in k.value)) (record { 0 = n })
range_code n (ranges.Compared at r k) =
    i.Case (relation_of r) (constant_or_zero (integer_in k.value)) (record { 0 = n })
range_code n (ranges.Between low high) =
    i.CaseWithin (record { 0 = n }) (constant_or_zero (integer_in low.value))
    (constant_or_zero (integer_in high.value))

abbrev pub ranges_code : ℕ → List Range → List Instruction
ranges_code n rs = map (range_code n) rs

-- The tests of an Integer DECISION whose bodies start at place n, and the drop before ELSE.
abbrev pub tests_code : Scope → ℕ → Choice → List Instruction
tests_code c n nothing_else = []
tests_code c n (otherwise body) = i.Drop ∷ []
tests_code c n (answer at rs body others) =
    ranges_code n rs ++ tests_code c (n + body_size c body) others

-- How many instructions the body of ELSE has.
abbrev pub else_size : Scope → Choice → ℕ
else_size c nothing_else = 0
else_size c (otherwise body) = body_size c body
else_size c (answer at rs body others) = else_size c others

-- How many instructions the bodies of the answers have.
abbrev pub answers_size : Scope → Choice → ℕ
answers_size c nothing_else = 0
answers_size c (otherwise body) = 0
answers_size c (answer at rs body others) = body_size c body + answers_size c others

abbrev pub is_literal : Bool → Literal → Bool
is_literal b (literals.Integer k) = false
is_literal true (literals.Boolean k) = k
is_literal false (literals.Boolean true) = false
is_literal false (literals.Boolean false) = true

abbrev pub names_truth : Bool → Range → Bool
names_truth b (ranges.Value k) = is_literal b k.value
names_truth b (ranges.Compared at r k) = false
names_truth b (ranges.Between low high) = false

-- The place of the body for a truth value, if the bodies start at place n in the order of the text.
abbrev pub picked : Scope → ℕ → Choice → Bool → ℕ
picked c n nothing_else b = n
picked c n (otherwise body) b = n
picked c n (answer at rs body others) b =
    if list_any (names_truth b) rs then n else picked c (n + body_size c body) others b

-- A Boolean DECISION goes on at one place if its question is FALSE, at another if it is TRUE.
abbrev pub pick_code : Scope → ℕ → Choice → Instruction
pick_code c n choice =
    i.Pick (record { 0 = picked c n choice false }) (record { 0 = picked c n choice true })

-- Places after the question of a DECISION, which ends at place n: the bodies of a Boolean one; ELSE
-- and the answers of an Integer one; and what follows the DECISION.
abbrev pub bodies_place : ℕ → ℕ
bodies_place n = n + 1

abbrev pub else_place : ℕ → Choice → ℕ
else_place n choice = n + tests_size choice

abbrev pub answers_place : Scope → ℕ → Choice → ℕ
answers_place c n choice = n + tests_size choice + else_size c choice

abbrev pub after_choice : Scope → Bool → ℕ → Choice → ℕ
after_choice c b n choice =
    n + (if b then 1 else tests_size choice) + bodies_size (variables_of c.process) choice

abbrev mutual
  -- An Integer DECISION: its question, a test for each range, the drop, the body of ELSE, and the
  -- bodies of the answers in order. A Boolean one: its question, the choice, and the bodies in
  -- order.
  pub text_code : Scope → (ℕ → ℕ) → ℕ → Text → List Instruction
  text_code c to n falls = []
  text_code c to n (ends e) = end_code c to e
  text_code c to n (does a rest) = action_code c a ++ text_code c to (n + action_cost a) rest
  text_code c to n (decides at q choice rest) =
      tree_code c q ++ (
      (if is_truth c q
      then pick_code c (bodies_place (n + cost_of q)) choice
      ∷ bodies_code c to (bodies_place (n + cost_of q)) (after_choice c true (n + cost_of q) choice)
      choice
      else tests_code c (answers_place c (n + cost_of q) choice) choice
      ++ (else_code c to (else_place (n + cost_of q) choice)
      (after_choice c false (n + cost_of q) choice) choice
      ++ answers_code c to (answers_place c (n + cost_of q) choice)
      (after_choice c false (n + cost_of q) choice) choice))
      ++ text_code c to (after_choice c (is_truth c q) (n + cost_of q) choice) rest)

  -- The body of ELSE at place n; `after` is the place of what follows the DECISION.
  pub else_code : Scope → (ℕ → ℕ) → ℕ → ℕ → Choice → List Instruction
  else_code c to n after nothing_else = []
  else_code c to n after (otherwise body) = text_code c to n body ++ leave_code after body
  else_code c to n after (answer at rs body others) = else_code c to n after others

  -- The bodies of the answers, one after another.
  pub answers_code : Scope → (ℕ → ℕ) → ℕ → ℕ → Choice → List Instruction
  answers_code c to n after nothing_else = []
  answers_code c to n after (otherwise body) = []
  answers_code c to n after (answer at rs body others) =
      text_code c to n body
      ++ (leave_code after body ++ answers_code c to (n + body_size c body) after others)

  -- The bodies of the answers, and then that of ELSE.
  pub bodies_code : Scope → (ℕ → ℕ) → ℕ → ℕ → Choice → List Instruction
  bodies_code c to n after nothing_else = []
  bodies_code c to n after (otherwise body) = text_code c to n body ++ leave_code after body
  bodies_code c to n after (answer at rs body others) =
      text_code c to n body
      ++ (leave_code after body ++ bodies_code c to (n + body_size c body) after others)

abbrev pub places_code : Scope → ℕ → List (Option Identifier) → List Instruction
places_code c j [] = []
places_code c j (None ∷ rest) = places_code c (j + 1) rest
places_code c j (Some n ∷ rest) =
    i.Param j ∷ store (number_or_zero (variable_at c n)) ∷ places_code c (j + 1) rest

-- A DECISION after its question, which ends at place n: a Boolean one, and an Integer one.
abbrev pub truth_code : Scope → (ℕ → ℕ) → ℕ → Choice → List Instruction
truth_code c to n choice =
    pick_code c (bodies_place n) choice
    ∷ bodies_code c to (bodies_place n) (after_choice c true n choice) choice

abbrev pub integer_code : Scope → (ℕ → ℕ) → ℕ → Choice → List Instruction
integer_code c to n choice =
    tests_code c (answers_place c n choice) choice
    ++ (else_code c to (else_place n choice) (after_choice c false n choice) choice
    ++ answers_code c to (answers_place c n choice) (after_choice c false n choice) choice)

-- ---- the connections of a piece

-- The text of the connection with a number.
abbrev pub text_at : Scope → ℕ → Text
text_at c n = option_map_or (λ k. k.text) (slice_get c.process.connections n) falls

-- How many instructions this text has.
abbrev pub size_at : Scope → ℕ → ℕ
size_at c n = size (variables_of c.process) (text_at c n)

abbrev mutual
  -- the JOINs of a text in the order of its code
  pub code_joins : Scope → Text → List tree_join.Join
  code_joins c falls = []
  code_joins c (ends e) = end_joins e
  code_joins c (does a rest) = code_joins c rest
  code_joins c (decides at q choice rest) =
      (if is_truth c q then bodies_joins c choice
      else else_joins c choice ++ answers_joins c choice) ++ code_joins c rest

  pub else_joins : Scope → Choice → List tree_join.Join
  else_joins c nothing_else = []
  else_joins c (otherwise body) = code_joins c body
  else_joins c (answer at rs body others) = else_joins c others

  pub answers_joins : Scope → Choice → List tree_join.Join
  answers_joins c nothing_else = []
  answers_joins c (otherwise body) = []
  answers_joins c (answer at rs body others) = code_joins c body ++ answers_joins c others

  pub bodies_joins : Scope → Choice → List tree_join.Join
  bodies_joins c nothing_else = []
  bodies_joins c (otherwise body) = code_joins c body
  bodies_joins c (answer at rs body others) = code_joins c body ++ bodies_joins c others

-- the numbers of the connections that a text joins, in the order of its code
abbrev pub joined : Scope → Text → List ℕ
joined c t = map (λ j. number_or_zero (connector_at c j.connector)) (code_joins c t)

-- Adds a number, unless it is there.
abbrev pub add_number : List ℕ → ℕ → List ℕ
add_number ns n = if list_any (λ m. m == n) ns then ns else ns ++ n ∷ []

-- Each number only once, at its first place.
abbrev pub numbers_once : List ℕ → List ℕ
numbers_once ns = fold add_number [] ns

-- The connections whose code follows that of a text: those that the text or one of them joins. Each
-- is there only once, in the order in which the code first joins them.
pub record ArePlaced (c : Scope) (t : Text) (ns : List ℕ) : Type 0 where
  pub once : ns ≡ numbers_once (joined c t ++ flat_map (λ n. joined c (text_at c n)) ns)
  pub before :
      (k n : ℕ) → slice_get ns k ≡ Some n
      → Contains (joined c t ++ flat_map (λ m. joined c (text_at c m)) (take k ns)) n

-- The place of the connection with a number, if these connections follow one another from place p
-- on.
abbrev pub place_in : Scope → ℕ → List ℕ → ℕ → ℕ
place_in c p [] n = 0
place_in c p (m ∷ ms) n = if m == n then p else place_in c (p + size_at c m) ms n

abbrev pub connections_code : Scope → (ℕ → ℕ) → ℕ → List ℕ → List Instruction
connections_code c to p [] = []
connections_code c to p (n ∷ ns) =
    text_code c to p (text_at c n) ++ connections_code c to (p + size_at c n) ns

-- The places where the text of a piece and its connections begin.
abbrev pub text_place : Piece → ℕ
text_place q = places_cost q.places

abbrev pub connections_place : Scope → Piece → ℕ
connections_place c q = places_cost q.places + size (variables_of c.process) q.text

-- The code of a piece with these connections.
abbrev pub piece_code : Scope → Piece → List ℕ → List Instruction
piece_code c q ns =
    places_code c 0 q.places
    ++ (text_code c (place_in c (connections_place c q) ns) (text_place q) q.text
    ++ connections_code c (place_in c (connections_place c q) ns) (connections_place c q) ns)
