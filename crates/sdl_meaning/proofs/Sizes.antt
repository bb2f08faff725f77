-- How many instructions each part of a text has.
use Rattle.std.proofs.Common.{◌≡◌, ℕ, ◌+◌, Bool, true, false, cond, List, [], ◌∷◌, ◌++◌, length, Option, Some, None, refl, arith, length-append}
use Rattle.std.specs.List.{sum_by}
use Rattle.std.proofs.lemmas.List.{length-map}
use Rattle.std.proofs.lemmas.List.Sums.{sum_by-cons}
use Rattle.sdl_ast.specs.declared.expression.Identifier.{Identifier}
use Rattle.sdl_ast.specs.declared.tree.Destination.{Destination}
use Rattle.sdl_ast.specs.declared.tree.End.{End}
use Rattle.sdl_ast.specs.declared.tree.End.TheVariants.{NextState, Stop, Join}
use Rattle.sdl_ast.specs.Plain.{Tree, number, truth, variable, unary, binary, PlainAssignment, PlainSending, PlainAction, task, output, set_timer, reset_timer, Text, falls, ends, does, decides, Choice, nothing_else, otherwise, answer}
use Rattle.turn_code.specs.declared.instruction.Instruction.{Instruction}
use Rattle.sdl_tables.specs.Names.{variables_of}
use Rattle.sdl_sound.specs.Going.{goes_on}
use Rattle.sdl_sound.specs.Longest.{is_division, cost_of, assignment_cost, assignments_cost, sending_cost, sendings_cost, action_cost, end_cost, jump_size, tests_size, size, bodies_size, place_cost, places_cost}
use Rattle.sdl_meaning.specs.Act.{is_truth, divisor_of}
use Rattle.sdl_meaning.specs.Outcomes.{Scope, variable_at, timer_at, signal_at}
use Rattle.sdl_meaning.specs.Code.{number_or_zero, store, set_to, put, jump, unary_code, binary_code, division_code, tree_code, trees_code, tasks_code, receiver_code, sendings_code, action_code, end_code, leave_code, body_size, range_code, ranges_code, tests_code, else_size, pick_code, bodies_place, else_place, answers_place, after_choice, text_code, else_code, answers_code, bodies_code, places_code, size_at, text_at, connections_code}

pub tree_size : (c : Scope) (t : Tree) → length (tree_code c t) ≡ cost_of t
tree_size c (number at k) = refl
tree_size c (truth at b) = refl
tree_size c (variable at n) = refl
tree_size c (unary at op t) = let h = tree_size c t in omega (arith, h, length-append (tree_code c t) (unary_code op ∷ []))
tree_size c (binary at op t u) = by_division (is_division op) (tree_size c t) (tree_size c u)
  where
    by_division : (d : Bool) → length (tree_code c t) ≡ cost_of t → length (tree_code c u) ≡ cost_of u
        → length (cond d (tree_code c t ++ division_code op (divisor_of u) ∷ []) (tree_code c t ++ (tree_code c u ++ binary_code (is_truth c t) op ∷ []))) ≡ cost_of t + cond d 0 (cost_of u) + 1
    by_division true h k = omega (arith, h, length-append (tree_code c t) (division_code op (divisor_of u) ∷ []))
    by_division false h k =
        omega (arith, h, k, length-append (tree_code c t) (tree_code c u ++ binary_code (is_truth c t) op ∷ []), length-append (tree_code c u) (binary_code (is_truth c t) op ∷ []))

pub trees_size : (c : Scope) (ts : List Tree) → length (trees_code c ts) ≡ sum_by cost_of ts
trees_size c [] = refl
trees_size c (t ∷ ts) =
    let h = tree_size c t in
    let k = trees_size c ts in
    omega (arith, h, k, length-append (tree_code c t) (trees_code c ts), sum_by-cons cost_of t ts)

pub tasks_size : (c : Scope) (ts : List PlainAssignment) → length (tasks_code c ts) ≡ assignments_cost ts
tasks_size c [] = refl
tasks_size c (t ∷ ts) =
    let h = tree_size c t.value in
    let k = tasks_size c ts in
    omega (arith, h, k, length-append (tree_code c t.value) (store (number_or_zero (variable_at c t.variable)) ∷ tasks_code c ts), sum_by-cons assignment_cost t ts)

pub sendings_size : (c : Scope) (to : Option Destination) (xs : List PlainSending) → length (sendings_code c to xs) ≡ sendings_cost xs
sendings_size c to [] = refl
sendings_size c to (x ∷ xs) =
    let h = trees_size c x.parameters in
    let k = sendings_size c to xs in
    let last = put (number_or_zero (signal_at c x.signal)) (receiver_code c to x.signal) (length x.parameters) in
    omega (arith, h, k, length-append (trees_code c x.parameters) (last ∷ sendings_code c to xs), sum_by-cons sending_cost x xs)

pub action_size : (c : Scope) (a : PlainAction) → length (action_code c a) ≡ action_cost a
action_size c (task at ts) = tasks_size c ts
action_size c (output at xs to) = sendings_size c to xs
action_size c (set_timer at t n) = let h = tree_size c t in omega (arith, h, length-append (tree_code c t) (set_to (number_or_zero (timer_at c n)) ∷ []))
action_size c (reset_timer at n) = refl

pub places_size : (c : Scope) (j : ℕ) (places : List (Option Identifier)) → length (places_code c j places) ≡ places_cost places
places_size c j [] = refl
places_size c j (None ∷ places) = let h = places_size c (j + 1) places in omega (arith, h, sum_by-cons place_cost None places)
places_size c j (Some n ∷ places) = let h = places_size c (j + 1) places in omega (arith, h, sum_by-cons place_cost (Some n) places)

pub end_size : (c : Scope) (to : ℕ → ℕ) (e : End) → length (end_code c to e) ≡ end_cost e
end_size c to (NextState n) = refl
end_size c to (Stop at) = refl
end_size c to (Join j) = refl

pub leave_size : (after : ℕ) (body : Text) → length (leave_code after body) ≡ jump_size body
leave_size after body = by_test (goes_on body)
  where
    by_test : (b : Bool) → length (cond b (jump after ∷ []) []) ≡ cond b 1 0
    by_test true = refl
    by_test false = refl

pub tests_are : (c : Scope) (n : ℕ) (choice : Choice) → length (tests_code c n choice) ≡ tests_size choice
tests_are c n nothing_else = refl
tests_are c n (otherwise body) = refl
tests_are c n (answer at rs body others) =
    let h = tests_are c (n + body_size c body) others in
    let k : length (ranges_code n rs) ≡ length rs = length-map rs (range_code n) in
    omega (arith, h, k, length-append (ranges_code n rs) (tests_code c (n + body_size c body) others))

body_is : (c : Scope) (to : ℕ → ℕ) (n after : ℕ) (body : Text) → length (text_code c to n body) ≡ size (variables_of c.process) body
    → length (text_code c to n body ++ leave_code after body) ≡ body_size c body
body_is c to n after body h = omega (arith, h, leave_size after body, length-append (text_code c to n body) (leave_code after body))

body_then : (c : Scope) (to : ℕ → ℕ) (n after : ℕ) (body : Text) (rest : List Instruction) → length (text_code c to n body) ≡ size (variables_of c.process) body
    → length (text_code c to n body ++ (leave_code after body ++ rest)) ≡ body_size c body + length rest
body_then c to n after body rest h =
    omega (arith, h, leave_size after body, length-append (text_code c to n body) (leave_code after body ++ rest), length-append (leave_code after body) rest)

-- A DECISION after its question.
pub decision_is : (c : Scope) (to : ℕ → ℕ) (b : Bool) (m a1 e a after1 after2 : ℕ) (choice : Choice)
    → length (bodies_code c to a1 after1 choice) ≡ bodies_size (variables_of c.process) choice
    → length (else_code c to e after2 choice) + length (answers_code c to a after2 choice) ≡ bodies_size (variables_of c.process) choice
    → length (cond b (pick_code c m choice ∷ bodies_code c to a1 after1 choice) (tests_code c a choice ++ (else_code c to e after2 choice ++ answers_code c to a after2 choice)))
    ≡ cond b 1 (tests_size choice) + bodies_size (variables_of c.process) choice
decision_is c to true m a1 e a after1 after2 choice h k = omega (arith, h)
decision_is c to false m a1 e a after1 after2 choice h k =
    omega (
      arith,
      k,
      tests_are c a choice,
      length-append (tests_code c a choice) (else_code c to e after2 choice ++ answers_code c to a after2 choice),
      length-append (else_code c to e after2 choice) (answers_code c to a after2 choice),
    )

mutual
  pub text_size_is : (c : Scope) (to : ℕ → ℕ) (n : ℕ) (t : Text) → length (text_code c to n t) ≡ size (variables_of c.process) t
  text_size_is c to n falls = refl
  text_size_is c to n (ends e) = end_size c to e
  text_size_is c to n (does a rest) =
      let h = text_size_is c to (n + action_cost a) rest in
      omega (arith, h, action_size c a, length-append (action_code c a) (text_code c to (n + action_cost a) rest))
  text_size_is c to n (decides at q choice rest) =
      let b = is_truth c q in
      let m = n + cost_of q in
      let x = cond b (pick_code c (bodies_place m) choice ∷ bodies_code c to (bodies_place m) (after_choice c true m choice) choice)
      (tests_code c (answers_place c m choice) choice ++ (else_code c to (else_place m choice) (after_choice c false m choice) choice ++ answers_code c to (answers_place c m choice) (after_choice c false m choice) choice)) in
      let y = text_code c to (after_choice c b m choice) rest in
      let h : length y ≡ size (variables_of c.process) rest = text_size_is c to (after_choice c b m choice) rest in
      let k : length x ≡ cond b 1 (tests_size choice) + bodies_size (variables_of c.process) choice =
      decision_is c to b (bodies_place m) (bodies_place m) (else_place m choice) (answers_place c m choice) (after_choice c true m choice) (after_choice c false m choice) choice
      (bodies_size_is c to (bodies_place m) (after_choice c true m choice) choice)
      (answers_size_is c to (else_place m choice) (answers_place c m choice) (after_choice c false m choice) choice) in
      omega (arith, h, k, tree_size c q, length-append (tree_code c q) (x ++ y), length-append x y)

  pub bodies_size_is : (c : Scope) (to : ℕ → ℕ) (n after : ℕ) (choice : Choice) → length (bodies_code c to n after choice) ≡ bodies_size (variables_of c.process) choice
  bodies_size_is c to n after nothing_else = refl
  bodies_size_is c to n after (otherwise body) = body_is c to n after body (text_size_is c to n body)
  bodies_size_is c to n after (answer at rs body others) =
      let h = body_then c to n after body (bodies_code c to (n + body_size c body) after others) (text_size_is c to n body) in
      let k = bodies_size_is c to (n + body_size c body) after others in
      omega (arith, h, k)

  pub answers_size_is : (c : Scope) (to : ℕ → ℕ) (e n after : ℕ) (choice : Choice) → length (else_code c to e after choice) + length (answers_code c to n after choice) ≡ bodies_size (variables_of c.process) choice
  answers_size_is c to e n after nothing_else = refl
  answers_size_is c to e n after (otherwise body) = let h = body_is c to e after body (text_size_is c to e body) in omega (arith, h)
  answers_size_is c to e n after (answer at rs body others) =
      let h = body_then c to n after body (answers_code c to (n + body_size c body) after others) (text_size_is c to n body) in
      let k = answers_size_is c to e (n + body_size c body) after others in
      omega (arith, h, k)

-- Only the body of ELSE.
pub else_size_is : (c : Scope) (to : ℕ → ℕ) (e after : ℕ) (choice : Choice) → length (else_code c to e after choice) ≡ else_size c choice
else_size_is c to e after nothing_else = refl
else_size_is c to e after (otherwise body) = body_is c to e after body (text_size_is c to e body)
else_size_is c to e after (answer at rs body others) = else_size_is c to e after others

pub connections_size : (c : Scope) (to : ℕ → ℕ) (p : ℕ) (ns : List ℕ) → length (connections_code c to p ns) ≡ sum_by (size_at c) ns
connections_size c to p [] = refl
connections_size c to p (n ∷ ns) =
    let h = connections_size c to (p + size_at c n) ns in
    let k = text_size_is c to p (text_at c n) in
    omega (arith, h, k, length-append (text_code c to p (text_at c n)) (connections_code c to (p + size_at c n) ns), sum_by-cons (size_at c) n ns)
