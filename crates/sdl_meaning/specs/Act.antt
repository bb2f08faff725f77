-- What a transition does, defined on its tree (Z.100, transitions, with 32-bit arithmetic that
-- wraps around).
use Rattle.std.specs.Prelude.{ℕ, zero, suc, ◌+◌, ℤ, pos, ◌+ℤ◌, ◌-ℤ◌, ◌*ℤ◌, neg_ℤ, int_lt, int_div}
use Rattle.std.specs.Prelude.{int_rem, Bool, true, false, not, ◌||◌, ◌&&◌, if◌then◌else◌, List, []}
use Rattle.std.specs.Prelude.{◌∷◌, length, Option, Some, None, slice_get, slice_set}
use Rattle.std.specs.Int.{int_rem_euclid}
use Rattle.std.specs.Option.{option_map}
use Rattle.sdl_ast.specs.declared.expression.Identifier.{Identifier}
use Rattle.sdl_ast.specs.declared.expression.UnaryOperator.{UnaryOperator}
use Rattle.sdl_ast.specs.declared.expression.UnaryOperator.TheVariants.{Negate, Not}
use Rattle.sdl_ast.specs.declared.expression.BinaryOperator.{BinaryOperator}
use Rattle.sdl_ast.specs.declared.expression.BinaryOperator.TheVariants.{Or, Xor, And, Equal}
use Rattle.sdl_ast.specs.declared.expression.BinaryOperator.TheVariants.{NotEqual, Less, LessEqual}
use Rattle.sdl_ast.specs.declared.expression.BinaryOperator.TheVariants.{Greater, GreaterEqual, Add}
use Rattle.sdl_ast.specs.declared.expression.BinaryOperator.TheVariants.{Subtract, Multiply, Divide}
use Rattle.sdl_ast.specs.declared.expression.BinaryOperator.TheVariants.{Modulo, Remainder}
use Rattle.sdl_ast.specs.declared.tree.Sort.TheVariants.{Boolean}
use Rattle.sdl_ast.specs.declared.tree.Party as tree_party
use Rattle.sdl_ast.specs.declared.tree.Party.TheVariants as tree_parties
use Rattle.sdl_ast.specs.declared.tree.Destination.{Destination}
use Rattle.sdl_ast.specs.declared.tree.Destination.TheVariants as address
use Rattle.sdl_ast.specs.declared.tree.End.{End}
use Rattle.sdl_ast.specs.declared.tree.End.TheVariants.{NextState, Stop, Join}
use Rattle.sdl_ast.specs.declared.tree.Literal as literal
use Rattle.sdl_ast.specs.declared.tree.Literal.TheVariants as literals
use Rattle.sdl_ast.specs.declared.tree.Relation as tree_relation
use Rattle.sdl_ast.specs.declared.tree.Relation.TheVariants as signs
use Rattle.sdl_ast.specs.declared.tree.Range.{Range}
use Rattle.sdl_ast.specs.declared.tree.Range.TheVariants as ranges
use Rattle.sdl_ast.specs.Plain.{Tree, number, truth, variable, unary, binary, PlainAssignment}
use Rattle.sdl_ast.specs.Plain.{PlainSending, PlainAction, task, output, set_timer, reset_timer}
use Rattle.sdl_ast.specs.Plain.{Text, falls, ends, does, decides, Choice, nothing_else, otherwise}
use Rattle.sdl_ast.specs.Plain.{answer, PlainConnection, PlainProcess, PlainBlock}
use Rattle.turn_code.specs.declared.value.Value.{Value}
use Rattle.turn_code.specs.declared.value.Value.TheVariants.{Int, Bool as Truth}
use Rattle.turn_code.specs.declared.input.Input.{Input}
use Rattle.turn_code.specs.declared.input.Party.{Party}
use Rattle.turn_code.specs.declared.input.Address.{Address}
use Rattle.turn_code.specs.declared.input.Party.TheVariants.{Environment, Process}
use Rattle.turn_code.specs.declared.machine.End.TheVariants as code_ends
use Rattle.turn_code.specs.declared.instruction.Relation.{Relation}
use Rattle.turn_code.specs.declared.instruction.Relation.TheVariants as relations
use Rattle.turn_code.specs.declared.effect.Effect.TheVariants as effects
use Rattle.turn_code.specs.declared.trouble.Trouble.TheVariants.{Unset, WrongSort, Underflow}
use Rattle.turn_code.specs.declared.trouble.Trouble.TheVariants.{NoState, NoReceiver, NoAnswer}
use Rattle.turn_code.specs.declared.trouble.Trouble.TheVariants.{Outside}
use Rattle.turn_code.specs.Values.{wrap, holds, is_between, differ}
use Rattle.turn_code.specs.Run.{Progress, tick, with_variables, with_effect, of_party, sending}
use Rattle.turn_code.specs.Run.{begun, Ran, ended, got_stuck}
use Rattle.sdl_tables.specs.Names.{number_of, variables_of, connection_named, process_names}
use Rattle.sdl_sound.specs.Longest.{Piece, is_division}
use Rattle.sdl_sound.specs.Sorts.{has_sort, sort_in}
use Rattle.sdl_sound.specs.Receivers.{party_of, receivers, carries}
use Rattle.sdl_meaning.specs.Outcomes.{Scope, at_end, in_trouble, Outcome, goes_on, over, then_do}
use Rattle.sdl_meaning.specs.Outcomes.{variable_at, state_at, timer_at, signal_at}

-- ---- variables

-- Variable v: `None` if there is no such variable, `Some None` if it isn't set.
abbrev pub slot : Option ℕ → Progress → Option (Option Value)
slot None s = None
slot (Some v) s = slice_get s.variables v

-- the value of a variable
abbrev pub read : Option (Option Value) → Progress → Outcome Value
read None s = over (in_trouble Unset) s
read (Some None) s = over (in_trouble Unset) s
read (Some (Some x)) s = goes_on x s

-- Sets variable v to x.
abbrev pub written : Option (Option Value) → ℕ → Value → Progress → Outcome (Unit {0})
written None v x s = over (in_trouble Unset) s
written (Some old) v x s = goes_on (tt {0}) (with_variables s (slice_set s.variables v (Some x)))

abbrev pub write : Option ℕ → Value → Progress → Outcome (Unit {0})
write None x s = over (in_trouble Unset) (tick s)
write (Some v) x s = written (slice_get s.variables v) v x (tick s)

-- ---- expressions

-- Whether an expression is a Boolean by its text.
abbrev pub is_truth : Scope → Tree → Bool
is_truth c t = has_sort Boolean (sort_in (variables_of c.process) t)

-- What an operator does with two operands: it computes an Integer, cut to 32 bits, from two
-- Integers; it compares two Integers; or it combines two Booleans.
pub data Working : Type 0 where
  reckons : (ℤ → ℤ → ℤ) → Working
  compares : Relation → Working
  joins : (Bool → Bool → Bool) → Working

-- `=` and `/=` are two operators each, one of Integers and one of Booleans. The sort of the left
-- operand decides which one the text means.
abbrev pub working : Bool → BinaryOperator → Working
working b Or = joins (λ x y. x || y)
working b Xor = joins differ
working b And = joins (λ x y. x && y)
working true Equal = joins (λ x y. not (differ x y))
working false Equal = compares relations.Equal
working true NotEqual = joins differ
working false NotEqual = compares relations.NotEqual
working b Less = compares relations.Less
working b LessEqual = compares relations.LessEqual
working b Greater = compares relations.Greater
working b GreaterEqual = compares relations.GreaterEqual
working b Add = reckons (λ x y. x +ℤ y)
working b Subtract = reckons (λ x y. x -ℤ y)
working b Multiply = reckons (λ x y. x *ℤ y)
working b Divide = reckons int_div
working b Modulo = reckons int_rem_euclid
working b Remainder = reckons int_rem

-- An operand of the wrong sort has no meaning.
abbrev pub apply_one : UnaryOperator → Value → Progress → Outcome Value
apply_one Negate (Int x) s = goes_on (Int (wrap (neg_ℤ x))) s
apply_one Negate (Truth b) s = over (in_trouble WrongSort) s
apply_one Not (Int x) s = over (in_trouble WrongSort) s
apply_one Not (Truth b) s = goes_on (Truth (not b)) s

abbrev pub apply_two : Working → Value → Value → Progress → Outcome Value
apply_two (reckons f) (Int x) (Int y) s = goes_on (Int (wrap (f x y))) s
apply_two (reckons f) (Int x) (Truth y) s = over (in_trouble WrongSort) s
apply_two (reckons f) (Truth x) y s = over (in_trouble WrongSort) s
apply_two (compares r) (Int x) (Int y) s = goes_on (Truth (holds r x y)) s
apply_two (compares r) (Int x) (Truth y) s = over (in_trouble WrongSort) s
apply_two (compares r) (Truth x) y s = over (in_trouble WrongSort) s
apply_two (joins f) (Truth x) (Truth y) s = goes_on (Truth (f x y)) s
apply_two (joins f) (Truth x) (Int y) s = over (in_trouble WrongSort) s
apply_two (joins f) (Int x) y s = over (in_trouble WrongSort) s

-- The divisor that an expression is: its value for a number, else 0.
abbrev pub divisor_of : Tree → ℤ
divisor_of (number at k) = wrap (pos k)
divisor_of (truth at b) = pos 0
divisor_of (variable at n) = pos 0
divisor_of (unary at op t) = pos 0
divisor_of (binary at op t u) = pos 0

-- `/` cuts towards zero, MOD returns 0 to one less than the divisor, and the result of REM has the
-- sign of the dividend.
abbrev pub quotient : BinaryOperator → ℤ → ℤ → ℤ
quotient Divide x k = int_div x k
quotient Modulo x k = int_rem_euclid x k
quotient op x k = int_rem x k

-- A divisor is 1 or more; else the division has no meaning.
abbrev pub divide : BinaryOperator → ℤ → Value → Progress → Outcome Value
divide op k (Int x) s =
    if int_lt (pos 0) k then goes_on (Int (quotient op x k)) s else over (in_trouble WrongSort) s
divide op k (Truth b) s = over (in_trouble WrongSort) s

-- The value of an expression, operands from left to right. AND, OR and XOR read both operands.
abbrev pub value_of : Scope → Tree → Progress → Outcome Value
value_of c (number at k) s = goes_on (Int (wrap (pos k))) (tick s)
value_of c (truth at b) s = goes_on (Truth b) (tick s)
value_of c (variable at n) s = read (slot (variable_at c n) s) (tick s)
value_of c (unary at op t) s = then_do (value_of c t s) (λ x s. apply_one op x (tick s))
value_of c (binary at op t u) s =
    then_do (value_of c t s) (λ x s.
    if is_division op then divide op (divisor_of u) x (tick s)
    else then_do (value_of c u s) (λ y s. apply_two (working (is_truth c t) op) x y (tick s)))

-- The values of expressions, from left to right.
abbrev pub values_of : Scope → List Tree → Progress → Outcome (List Value)
values_of c [] s = goes_on [] s
values_of c (t ∷ ts) s =
    then_do (value_of c t s) (λ x s. then_do (values_of c ts s) (λ xs s. goes_on (x ∷ xs) s))

-- ---- receivers

-- The number of a party that the text names.
abbrev pub numbered : Scope → tree_party.Party → Option Party
numbered c tree_parties.Environment = Some Environment
numbered c (tree_parties.Process id) =
    option_map (λ k. Process (record { 0 = k })) (number_of (process_names c.block) id.name)

-- The party with a number, as the text names it.
abbrev pub named : Scope → Party → Option tree_party.Party
named c Environment = Some tree_parties.Environment
named c (Process k) =
    option_map (λ id. tree_parties.Process id) (slice_get (process_names c.block) k.0)

-- Whether a route carries the signal from this process to the party.
abbrev pub is_carried : Scope → Identifier → tree_party.Party → Bool
is_carried c n to = carries c.block (party_of c.process) to n.name

-- The only party to which routes carry the signal; `None` if there is no such party.
abbrev pub the_one : Scope → List tree_party.Party → Option Party
the_one c [] = None
the_one c (q ∷ []) = numbered c q
the_one c (q ∷ r ∷ qs) = None

abbrev pub if_named : Scope → Identifier → Option tree_party.Party → Address → Option Address
if_named c n None p = None
if_named c n (Some q) p = if is_carried c n q then Some p else None

-- The sender, if there is one and a route carries the signal to it.
abbrev pub to_sender : Scope → Identifier → Option Address → Option Address
to_sender c n None = None
to_sender c n (Some p) = if_named c n (named c p.party) p

-- A party, without the number of an instance.
abbrev pub addressed : Option Party → Option Address
addressed None = None
addressed (Some p) = Some (of_party p)

-- The receiver of a signal: the party that TO names, if a route carries the signal there; without
-- TO the only party to which routes carry it.
abbrev pub receiver_of : Scope → Option Address → Option Destination → Identifier → Option Address
receiver_of c sender None n = addressed (the_one c (receivers c.block (party_of c.process) n.name))
receiver_of c sender (Some (address.Process id)) n =
    addressed (if is_carried c n (tree_parties.Process id) then numbered c (tree_parties.Process id)
    else None)
receiver_of c sender (Some (address.Sender at)) n = to_sender c n sender

-- ---- actions

-- The assignments of a TASK, one after another.
abbrev pub assign : Scope → List PlainAssignment → Progress → Outcome (Unit {0})
assign c [] s = goes_on (tt {0}) s
assign c (a ∷ rest) s =
    then_do (value_of c a.value s)
    (λ x s. then_do (write (variable_at c a.variable) x s) (λ _ s. assign c rest s))

-- Sends a signal with its parameters, if there is such a signal and it has a receiver.
abbrev pub put_out : Option ℕ → Option Address → List Value → Progress → Outcome (Unit {0})
put_out None to xs s = over (in_trouble NoReceiver) s
put_out (Some n) None xs s = over (in_trouble NoReceiver) s
put_out (Some n) (Some p) xs s = goes_on (tt {0}) (with_effect s (sending (record { 0 = n }) p xs))

abbrev pub send :
    Scope → Option Address → Option Destination → PlainSending → Progress → Outcome (Unit {0})
send c sender to x s =
    then_do (values_of c x.parameters s)
    (λ xs s. put_out (signal_at c x.signal) (receiver_of c sender to x.signal) xs (tick s))

-- The signals of an OUTPUT, one after another.
abbrev pub send_all :
    Scope → Option Address → Option Destination → List PlainSending → Progress → Outcome (Unit {0})
send_all c sender to [] s = goes_on (tt {0}) s
send_all c sender to (x ∷ rest) s =
    then_do (send c sender to x s) (λ _ s. send_all c sender to rest s)

-- Sets a timer to a delay from now.
abbrev pub start_timer : Option ℕ → Value → Progress → Outcome (Unit {0})
start_timer None x s = over (in_trouble Unset) s
start_timer (Some t) (Int z) s = goes_on (tt {0}) (with_effect s (effects.Set (record { 0 = t }) z))
start_timer (Some t) (Truth b) s = over (in_trouble WrongSort) s

-- Stops a timer.
abbrev pub stop_timer : Option ℕ → Progress → Outcome (Unit {0})
stop_timer None s = over (in_trouble Unset) s
stop_timer (Some t) s = goes_on (tt {0}) (with_effect s (effects.Reset (record { 0 = t })))

-- One action of a transition whose signal came from this sender.
abbrev pub perform : Scope → Option Address → PlainAction → Progress → Outcome (Unit {0})
perform c sender (task at ts) s = assign c ts s
perform c sender (output at xs to) s = send_all c sender to xs s
perform c sender (set_timer at t n) s =
    then_do (value_of c t s) (λ x s. start_timer (timer_at c n) x (tick s))
perform c sender (reset_timer at n) s = stop_timer (timer_at c n) (tick s)

-- The next state has to exist.
abbrev pub end_in : Option ℕ → Progress → Outcome (Unit {0})
end_in None s = over (in_trouble NoState) (tick s)
end_in (Some q) s = over (at_end (code_ends.State (record { 0 = q }))) (tick s)

-- `join` is what a JOIN to the connection with a name goes on with.
abbrev pub end_with :
    Scope → (List ℕ → Progress → Outcome (Unit {0})) → End → Progress → Outcome (Unit {0})
end_with c join (NextState n) s = end_in (state_at c n.state) s
end_with c join (Stop at) s = over (at_end code_ends.Stop) (tick s)
end_with c join (Join j) s = join j.connector.name (tick s)

-- ---- answers

abbrev pub relation_of : tree_relation.Relation → Relation
relation_of signs.Equal = relations.Equal
relation_of signs.NotEqual = relations.NotEqual
relation_of signs.Less = relations.Less
relation_of signs.LessEqual = relations.LessEqual
relation_of signs.Greater = relations.Greater
relation_of signs.GreaterEqual = relations.GreaterEqual

-- The Integer that a constant is, if it is one.
abbrev pub integer_in : literal.Literal → Option ℤ
integer_in (literals.Integer k) = Some k
integer_in (literals.Boolean b) = None

-- Whether a value has this relation to a constant.
abbrev pub compared : Relation → ℤ → Option ℤ → Option Bool
compared r x None = None
compared r x (Some k) = Some (holds r x k)

-- Whether a value is between two constants, both included.
abbrev pub between : ℤ → Option ℤ → Option ℤ → Option Bool
between x None high = None
between x (Some low) None = None
between x (Some low) (Some high) = Some (is_between low high x)

-- Whether a range holds an Integer; `None` if its constants have another sort.
abbrev pub covers_integer : Range → ℤ → Option Bool
covers_integer (ranges.Value k) x = compared relations.Equal x (integer_in k.value)
covers_integer (ranges.Compared at r k) x = compared (relation_of r) x (integer_in k.value)
covers_integer (ranges.Between low high) x =
    between x (integer_in low.value) (integer_in high.value)

abbrev pub is_literal : literal.Literal → Bool → Option Bool
is_literal (literals.Integer k) b = None
is_literal (literals.Boolean k) b = Some (not (differ k b))

-- Whether a range holds a truth value: only that value itself has the right sort.
abbrev pub covers_truth : Range → Bool → Option Bool
covers_truth (ranges.Value k) b = is_literal k.value b
covers_truth (ranges.Compared at r k) b = None
covers_truth (ranges.Between low high) b = None

-- The result of a test. A range of the wrong sort has no meaning.
abbrev pub told : Option Bool → Progress → Outcome Bool
told None s = over (in_trouble WrongSort) s
told (Some b) s = goes_on b s

-- Whether one of the ranges of an answer holds an Integer. They are tried one after another, up to
-- the first that does.
abbrev pub try_ranges : List Range → ℤ → Progress → Outcome Bool
try_ranges [] x s = goes_on false s
try_ranges (r ∷ rs) x s =
    then_do (told (covers_integer r x) (tick s)) (λ b s. if b then goes_on true s
    else try_ranges rs x s)

-- As `try_ranges`, for a truth value, which costs nothing.
abbrev pub find_truth : List Range → Bool → Progress → Outcome Bool
find_truth [] b s = goes_on false s
find_truth (r ∷ rs) b s =
    then_do (told (covers_truth r b) s) (λ found s. if found then goes_on true s
    else find_truth rs b s)

-- A body that goes on continues after its DECISION.
abbrev pub leave : Outcome (Unit {0}) → Outcome (Unit {0})
leave o = then_do o (λ _ s. goes_on (tt {0}) (tick s))

-- The choice for the value of a question, which has to have the question's sort. The choice by a
-- truth value costs 1.
abbrev pub decide :
    Bool → Value → Progress → (ℤ → Outcome (Unit {0})) → (Bool → Outcome (Unit {0}))
    → Outcome (Unit {0})
decide true (Truth b) s by_integer by_truth = by_truth b
decide true (Int x) s by_integer by_truth = over (in_trouble WrongSort) (tick s)
decide false (Int x) s by_integer by_truth = by_integer x
decide false (Truth b) s by_integer by_truth = over (in_trouble WrongSort) (tick s)

abbrev mutual
  -- A transition from some statement on.
  pub act : Scope → (List ℕ → Progress → Outcome (Unit {0})) → Option Address → Text → Progress
      → Outcome (Unit {0})
  act c join sender falls s = goes_on (tt {0}) s
  act c join sender (ends e) s = end_with c join e s
  act c join sender (does a rest) s =
      then_do (perform c sender a s) (λ _ s. act c join sender rest s)
  act c join sender (decides at q choice rest) s =
      then_do (value_of c q s) (λ x s.
      then_do (decide (is_truth c q) x s (λ x. choose c join sender choice x s)
      (λ b. pick c join sender choice b (tick s))) (λ _ s.
      act c join sender rest s))

  -- The answers to an Integer question from some answer on. The first range that holds decides the
  -- body; ELSE takes all other values.
  pub choose :
      Scope → (List ℕ → Progress → Outcome (Unit {0})) → Option Address → Choice → ℤ → Progress
      → Outcome (Unit {0})
  choose c join sender nothing_else x s = over (in_trouble NoAnswer) s
  choose c join sender (otherwise body) x s = leave (act c join sender body (tick s))
  choose c join sender (answer at rs body others) x s =
      then_do (try_ranges rs x s) (λ found s. if found then leave (act c join sender body s)
      else choose c join sender others x s)

  -- The answers to a Boolean question.
  pub pick : Scope → (List ℕ → Progress → Outcome (Unit {0})) → Option Address → Choice → Bool
      → Progress → Outcome (Unit {0})
  pick c join sender nothing_else b s = over (in_trouble NoAnswer) s
  pick c join sender (otherwise body) b s = leave (act c join sender body s)
  pick c join sender (answer at rs body others) b s =
      then_do (find_truth rs b s) (λ found s. if found then leave (act c join sender body s)
      else pick c join sender others b s)

-- ---- connections

-- A text that runs off its end is stuck.
abbrev pub closed : Outcome (Unit {0}) → Outcome (Unit {0})
closed (goes_on x s) = over (in_trouble Outside) s
closed (over e s) = over e s

-- The text of a connection, if there is one.
abbrev pub entered :
    Option PlainConnection → Progress → (Text → Outcome (Unit {0})) → Outcome (Unit {0})
entered None s go = over (in_trouble Outside) s
entered (Some k) s go = go k.text

-- What a JOIN to the connection with a name goes on with, if at most n JOINs are followed.
abbrev pub follow : Scope → Option Address → ℕ → List ℕ → Progress → Outcome (Unit {0})
follow c sender zero x s = over (in_trouble Outside) s
follow c sender (suc n) x s =
    entered (connection_named c.process x) s (λ t. closed (act c (follow c sender n) sender t s))

-- As many JOINs are followed as there are connections.
abbrev pub join_in : Scope → Option Address → List ℕ → Progress → Outcome (Unit {0})
join_in c sender = follow c sender (length c.process.connections)

-- ---- transitions

-- Stores a parameter in a variable.
abbrev pub pass : Option Value → Option ℕ → Progress → Outcome (Unit {0})
pass None v s = over (in_trouble Underflow) (tick s)
pass (Some x) v s = write v x (tick s)

-- The places of INPUT from place j on: each with a name stores the parameter at its place.
abbrev pub take_places :
    Scope → List Value → ℕ → List (Option Identifier) → Progress → Outcome (Unit {0})
take_places c ps j [] s = goes_on (tt {0}) s
take_places c ps j (None ∷ places) s = take_places c ps (j + 1) places s
take_places c ps j (Some n ∷ places) s =
    then_do (pass (slice_get ps j) (variable_at c n) s) (λ _ s. take_places c ps (j + 1) places s)

-- A text that runs off its end is stuck.
abbrev pub ran : Outcome (Unit {0}) → Ran
ran (goes_on x s) = got_stuck Outside
ran (over (at_end e) s) = ended e s
ran (over (in_trouble t) s) = got_stuck t

-- The meaning of a transition on an input: the places of INPUT (START has none), and then its text.
abbrev pub Act : Scope → Piece → Input → Ran
Act c q x =
    ran (then_do (take_places c x.parameters.items 0 q.places (begun x))
    (λ _ s. act c (join_in c x.sender) x.sender q.text s))

abbrev pub scope_of : PlainBlock → PlainProcess → Scope
scope_of b p = record { block = b; process = p }
