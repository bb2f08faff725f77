-- Reads expressions token by token with a stack. Each open parenthesis keeps the operands and
-- operators before it, in one slot per precedence level.
use Rattle.std.specs.Prelude.{ℕ, Bool, true, false, List, [], ◌∷◌, Option, Some, None, is_some}
use Rattle.std.specs.Prelude.{nat_lt, if◌then◌else◌}
use Rattle.sdl_lex.specs.declared.lexemes.Token.{Token}
use Rattle.sdl_ast.specs.declared.expression.UnaryOperator.{UnaryOperator}
use Rattle.sdl_ast.specs.declared.expression.UnaryOperator.TheVariants.{Negate, Not}
use Rattle.sdl_ast.specs.declared.expression.BinaryOperator.{BinaryOperator}
use Rattle.sdl_ast.specs.declared.expression.BinaryOperator.TheVariants.{Subtract}
use Rattle.sdl_productions.specs.declared.level.Level.{Level}
use Rattle.sdl_productions.specs.declared.level.Level.TheVariants.{Disjunctions, Conjunctions}
use Rattle.sdl_productions.specs.declared.level.Level.TheVariants.{Relations, Sums, Products}
use Rattle.sdl_ast.specs.Limits.{GREATEST_HEIGHT}
use Rattle.sdl_ast.specs.Plain.{Tree, number, truth, variable, unary, binary}
use Rattle.sdl_productions.specs.Expressions.{Sign, leaf, joins, minus, denies, opens, closes}
use Rattle.sdl_productions.specs.Expressions.{other, sign}
use Rattle.sdl_ast.specs.Places.{place_of, placed}
use Rattle.sdl_ast.specs.Heights.{tree_height}
use Rattle.sdl_productions.specs.Readings.{Reading, read, fails, At}

-- how an operator is applied to its operands
pub record Build : Type 0 where
  pub lead : ℕ → UnaryOperator → Tree → Tree
  pub join : BinaryOperator → Tree → Tree → Tree

abbrev pub whole_trees : Build
whole_trees = record { lead = λ at o x. unary at o x; join = λ o x y. binary (place_of x) o x y }

-- an operator on a tree that is too high is dropped, and the tree takes its place
abbrev pub low_unary : ℕ → UnaryOperator → Tree → Tree
low_unary at o x = if nat_lt GREATEST_HEIGHT (tree_height x) then placed at x else unary at o x

abbrev pub low_binary : ℕ → BinaryOperator → Tree → Tree → Tree
low_binary at o x y =
    if nat_lt GREATEST_HEIGHT (tree_height x) then placed at x
    else if nat_lt GREATEST_HEIGHT (tree_height y) then placed at y
    else binary at o x y

abbrev pub low_trees : Build
low_trees =
    record { lead = λ at o x. low_unary at o x; join = λ o x y. low_binary (place_of x) o x y }

-- the part of a tree that is built, if no tree above one that is too high is built
abbrev pub lowered : Tree → Tree
lowered (number at k) = number at k
lowered (truth at b) = truth at b
lowered (variable at n) = variable at n
lowered (unary at o x) = low_unary at o (lowered x)
lowered (binary at o x y) = low_binary at o (lowered x) (lowered y)

-- The slots before an operand inside a sum. Each level keeps its left operand with the operator
-- after it; `lead` keeps the unary operator and its place.
pub record Terms : Type 0 where
  pub sum : Option (Tree × BinaryOperator)
  pub product : Option (Tree × BinaryOperator)
  pub lead : Option (ℕ × UnaryOperator)

-- the slots before a sum, in the same form
pub record Tests : Type 0 where
  pub disjunction : Option (Tree × BinaryOperator)
  pub conjunction : Option (Tree × BinaryOperator)
  pub relation : Option (Tree × BinaryOperator)

-- both, inside one pair of parentheses
pub record Frame : Type 0 where
  pub opened : ℕ
  pub tests : Tests
  pub terms : Terms

abbrev pub no_terms : Terms
no_terms = record { sum = None; product = None; lead = None }

abbrev pub no_tests : Tests
no_tests = record { disjunction = None; conjunction = None; relation = None }

abbrev pub empty_frame : ℕ → Frame
empty_frame at = record { opened = at; tests = no_tests; terms = no_terms }

abbrev pub led_by : Build → Option (ℕ × UnaryOperator) → Tree → Tree
led_by b None x = x
led_by b (Some p) x = b.lead p.0 p.1 x

abbrev pub joined_to : Build → Option (Tree × BinaryOperator) → Tree → Tree
joined_to b None y = y
joined_to b (Some s) y = b.join s.1 s.0 y

-- the slots combined with the operand after them, up to each level and completely
abbrev pub closed_product : Build → Terms → Tree → Tree
closed_product b t x = joined_to b t.product (led_by b t.lead x)

abbrev pub closed_terms : Build → Terms → Tree → Tree
closed_terms b t x = joined_to b t.sum (closed_product b t x)

abbrev pub closed_relation : Build → Tests → Tree → Tree
closed_relation b k y = joined_to b k.relation y

abbrev pub closed_conjunction : Build → Tests → Tree → Tree
closed_conjunction b k y = joined_to b k.conjunction (closed_relation b k y)

abbrev pub closed_tests : Build → Tests → Tree → Tree
closed_tests b k y = joined_to b k.disjunction (closed_conjunction b k y)

abbrev pub closed : Build → Frame → Tree → Tree
closed b l x = closed_tests b l.tests (closed_terms b l.terms x)

-- adds a binary operator after an operand: tighter levels are combined, looser levels wait
abbrev pub with_product : Build → BinaryOperator → Terms → Tree → Terms
with_product b o t x = record { sum = t.sum; product = Some (closed_product b t x, o); lead = None }

abbrev pub with_sum : Build → BinaryOperator → Terms → Tree → Terms
with_sum b o t x = record { sum = Some (closed_terms b t x, o); product = None; lead = None }

abbrev pub with_relation : Build → BinaryOperator → Tests → Tree → Tests
with_relation b o k y =
    record {
      disjunction = k.disjunction;
      conjunction = k.conjunction;
      relation = Some (closed_relation b k y, o);
    }

abbrev pub with_conjunction : Build → BinaryOperator → Tests → Tree → Tests
with_conjunction b o k y =
    record {
      disjunction = k.disjunction;
      conjunction = Some (closed_conjunction b k y, o);
      relation = None;
    }

abbrev pub with_disjunction : Build → BinaryOperator → Tests → Tree → Tests
with_disjunction b o k y =
    record { disjunction = Some (closed_tests b k y, o); conjunction = None; relation = None }

abbrev pub with_operator : Build → Level → BinaryOperator → Frame → Tree → Frame
with_operator b Disjunctions o l x =
    record {
      opened = l.opened;
      tests = with_disjunction b o l.tests (closed_terms b l.terms x);
      terms = no_terms;
    }
with_operator b Conjunctions o l x =
    record {
      opened = l.opened;
      tests = with_conjunction b o l.tests (closed_terms b l.terms x);
      terms = no_terms;
    }
with_operator b Relations o l x =
    record {
      opened = l.opened;
      tests = with_relation b o l.tests (closed_terms b l.terms x);
      terms = no_terms;
    }
with_operator b Sums o l x =
    record { opened = l.opened; tests = l.tests; terms = with_sum b o l.terms x }
with_operator b Products o l x =
    record { opened = l.opened; tests = l.tests; terms = with_product b o l.terms x }

abbrev pub with_lead : ℕ → UnaryOperator → Frame → Frame
with_lead at o l =
    record {
      opened = l.opened;
      tests = l.tests;
      terms = record { sum = l.terms.sum; product = l.terms.product; lead = Some (at, o) };
    }

-- an operator of this level is illegal here: a relation can't be an operand of another relation
abbrev pub bars : Level → Frame → Bool
bars Relations l = is_some l.tests.relation
bars Disjunctions l = false
bars Conjunctions l = false
bars Sums l = false
bars Products l = false

pub data State : Type 0 where
  -- an operand must come next
  wants : List Frame → Frame → State
  -- an operand was read
  has : List Frame → Frame → Tree → State

pub data Turn : Type 0 where
  goes : State → Turn
  done : Tree → Turn
  stuck : Turn

abbrev pub unless : Bool → State → Turn
unless true s = stuck
unless false s = goes s

abbrev pub lead_turn : List Frame → Frame → ℕ → UnaryOperator → Turn
lead_turn ls l at o = unless (is_some l.terms.lead) (wants ls (with_lead at o l))

abbrev pub want_turn : List Frame → Frame → Sign → Turn
want_turn ls l (leaf x) = goes (has ls l x)
want_turn ls l (minus at) = lead_turn ls l at Negate
want_turn ls l (denies at) = lead_turn ls l at Not
want_turn ls l (opens at) = goes (wants (l ∷ ls) (empty_frame at))
want_turn ls l (joins level o) = stuck
want_turn ls l closes = stuck
want_turn ls l other = stuck

abbrev pub join_turn : Build → List Frame → Frame → Tree → Level → BinaryOperator → Turn
join_turn b ls l x level o = unless (bars level l) (wants ls (with_operator b level o l x))

abbrev pub close_turn : Build → List Frame → Frame → Tree → Turn
close_turn b [] l x = done (closed b l x)
close_turn b (o ∷ ls) l x = goes (has ls o (placed l.opened (closed b l x)))

abbrev pub end_turn : Build → List Frame → Frame → Tree → Turn
end_turn b [] l x = done (closed b l x)
end_turn b (o ∷ ls) l x = stuck

abbrev pub have_turn : Build → List Frame → Frame → Tree → Sign → Turn
have_turn b ls l x (joins level o) = join_turn b ls l x level o
have_turn b ls l x (minus at) = join_turn b ls l x Sums Subtract
have_turn b ls l x closes = close_turn b ls l x
have_turn b ls l x (leaf y) = end_turn b ls l x
have_turn b ls l x (denies at) = end_turn b ls l x
have_turn b ls l x (opens at) = end_turn b ls l x
have_turn b ls l x other = end_turn b ls l x

unfoldable pub turn : Build → State → Sign → Turn
turn b (wants ls l) s = want_turn ls l s
turn b (has ls l x) s = have_turn b ls l x s

abbrev pub after_turn : Turn → (State → Reading Tree) → List Token → Reading Tree
after_turn (goes s) go_on ts = go_on s
after_turn (done x) go_on ts = read x ts
after_turn stuck go_on ts = fails ts

unfoldable pub run : Build → State → List Token → Reading Tree
run b s [] = after_turn (turn b s other) (λ _. fails []) []
run b s (t ∷ ts) = after_turn (turn b s (sign t)) (λ s'. run b s' ts) (t ∷ ts)

unfoldable pub expression_at : Build → At Tree
expression_at b = λ ts. run b (wants [] (empty_frame 0)) ts
