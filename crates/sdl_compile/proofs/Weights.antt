-- Counting instructions finds the longest path, counting effects the most effects.
use Rattle.std.proofs.Common.{◌≡◌, ℕ, ◌+◌, ◌≤◌, max, Bool, true, false, cond, List, [], ◌∷◌, ◌++◌, length, Option, Some, None, refl, ap, ◌∙◌, arith}
use Rattle.std.specs.Prelude.{nat_lt}
use Rattle.std.specs.List.{sum_by}
use Rattle.std.proofs.lemmas.List.Sums.{sum_by-cons, sum_by-append}
use Rattle.sdl_ast.specs.declared.expression.Identifier.{Identifier}
use Rattle.sdl_ast.specs.declared.expression.UnaryOperator.{UnaryOperator}
use Rattle.sdl_ast.specs.declared.expression.UnaryOperator.TheVariants.{Negate, Not}
use Rattle.sdl_ast.specs.declared.expression.BinaryOperator.{BinaryOperator}
use Rattle.sdl_ast.specs.declared.expression.BinaryOperator.TheVariants.{Or, Xor, And, Equal, NotEqual, Less, LessEqual, Greater, GreaterEqual, Add, Subtract, Multiply, Divide, Modulo, Remainder}
use Rattle.sdl_ast.specs.declared.tree.Destination.{Destination}
use Rattle.sdl_ast.specs.declared.tree.Range.{Range}
use Rattle.sdl_ast.specs.declared.tree.Range.TheVariants.{Value as IsValue, Compared, Between}
use Rattle.sdl_ast.specs.declared.tree.End.{End}
use Rattle.sdl_ast.specs.declared.tree.End.TheVariants.{NextState, Stop, Join}
use Rattle.sdl_ast.specs.Plain.{Tree, number, truth, variable, unary, binary, PlainAssignment, PlainSending, PlainAction, task, output, set_timer, reset_timer, Text, falls, ends, does, decides, Choice, nothing_else, otherwise, answer}
use Rattle.turn_code.specs.declared.instruction.Instruction.{Instruction}
use Rattle.turn_code.specs.declared.instruction.Instruction.TheVariants as i
use Rattle.turn_code.specs.Code.{effects_of}
use Rattle.sdl_tables.specs.Names.{variables_of}
use Rattle.sdl_sound.specs.Decisions.{has_values, has_else, answers_both}
use Rattle.sdl_sound.specs.Longest.{is_division, action_effects, places_cost, end_cost, tests_budget, budget, case_budget, pick_budget, effects, choice_effects}
use Rattle.sdl_meaning.specs.Act.{is_truth, divisor_of}
use Rattle.sdl_meaning.specs.Outcomes.{Scope, variable_at, timer_at, signal_at}
use Rattle.sdl_meaning.specs.Named.{NamedText, NamedChoice}
use Rattle.sdl_meaning.specs.Code.{number_or_zero, store, set_to, put, unary_code, binary_code, division_code, tree_code, trees_code, tasks_code, receiver_code, sendings_code, action_code, places_code, range_code}
use Rattle.sdl_meaning.proofs.Sizes.{tree_size, action_size, places_size}
use Rattle.sdl_compile.proofs.Counting.{IsWeight, tests_tally, tally, case_tally, pick_tally}
use Rattle.sdl_meaning.proofs.Measured.{some_values}
use Rattle.plain_laws.proofs.Truths.{and_second, and_first}

-- ---- instructions

abbrev pub one : Instruction → ℕ
one x = 1

sum_ones : (xs : List Instruction) → sum_by one xs ≡ length xs
sum_ones [] = refl
sum_ones (x ∷ xs) = let h = sum_ones xs in omega (arith, h, sum_by-cons one x xs)

module _ (c : Scope) (join : List ℕ → ℕ) where
  same_tests : (rs : List Range) (x y u z : ℕ) → x ≡ y → u ≡ z → tests_tally c one 1 join rs x u ≡ tests_budget rs y z
  same_tests [] x y u z e f = f
  same_tests (r ∷ rs) x y u z e f = let h = same_tests rs x y u z e f in omega (arith, e, h)

  same_sort : (b : Bool) (x y u z : ℕ) → x ≡ y → u ≡ z → cond b (1 + x) u ≡ cond b (1 + y) z
  same_sort true x y u z e f = ap (λ n. 1 + n) e
  same_sort false x y u z e f = f

  end_is : (e : End) → 1 ≡ end_cost e
  end_is (NextState n) = refl
  end_is (Stop at) = refl
  end_is (Join j) = refl

  mutual
    pub tally_budget : (t : Text) (k m : ℕ) → k ≡ m → tally c one 1 join t k ≡ budget (variables_of c.process) join t m
    tally_budget falls k m e = e
    tally_budget (ends t) k m e = let h = end_is t in omega (arith, h)
    tally_budget (does a rest) k m e =
        let h = tally_budget rest k m e in
        omega (arith, h, sum_ones (action_code c a), action_size c a)
    tally_budget (decides at q choice rest) k m e =
        let vs = variables_of c.process in
        let n = tally c one 1 join rest k in
        let o = budget vs join rest m in
        let h : n ≡ o = tally_budget rest k m e in
        let g = same_sort (is_truth c q) (pick_tally c one 1 join choice n) (pick_budget vs join choice o) (case_tally c one 1 join choice n) (case_budget vs join choice o) (pick_is choice n o h) (case_is choice n o h) in
        omega (arith, g, sum_ones (tree_code c q), tree_size c q)

    case_is : (choice : Choice) (k m : ℕ) → k ≡ m → case_tally c one 1 join choice k ≡ case_budget (variables_of c.process) join choice m
    case_is nothing_else k m e = refl
    case_is (otherwise body) k m e = ap (λ n. 1 + n) (tally_budget body (1 + k) (1 + m) (ap (λ n. 1 + n) e))
    case_is (answer at rs body others) k m e =
        same_tests rs (tally c one 1 join body (1 + k)) (budget (variables_of c.process) join body (1 + m)) (case_tally c one 1 join others k) (case_budget (variables_of c.process) join others m)
        (tally_budget body (1 + k) (1 + m) (ap (λ n. 1 + n) e)) (case_is others k m e)

    pick_is : (choice : Choice) (k m : ℕ) → k ≡ m → pick_tally c one 1 join choice k ≡ pick_budget (variables_of c.process) join choice m
    pick_is nothing_else k m e = refl
    pick_is (otherwise body) k m e = tally_budget body (1 + k) (1 + m) (ap (λ n. 1 + n) e)
    pick_is (answer at rs body others) k m e =
        let a = tally_budget body (1 + k) (1 + m) (ap (λ n. 1 + n) e) in
        let b = pick_is others k m e in
        omega (arith, a, b)

pub places_ones : (c : Scope) (places : List (Option Identifier)) → sum_by one (places_code c 0 places) ≡ places_cost places
places_ones c places = sum_ones (places_code c 0 places) ∙ places_size c 0 places

-- ---- effects

none_then : (a b : List Instruction) → sum_by effects_of a ≡ 0 → sum_by effects_of (a ++ b) ≡ sum_by effects_of b
none_then a b e = omega (arith, e, sum_by-append effects_of a b)

unary_none : (op : UnaryOperator) → effects_of (unary_code op) ≡ 0
unary_none Negate = refl
unary_none Not = refl

binary_none : (b : Bool) (op : BinaryOperator) → effects_of (binary_code b op) ≡ 0
binary_none b Or = refl
binary_none b Xor = refl
binary_none b And = refl
binary_none true Equal = refl
binary_none false Equal = refl
binary_none true NotEqual = refl
binary_none false NotEqual = refl
binary_none b Less = refl
binary_none b LessEqual = refl
binary_none b Greater = refl
binary_none b GreaterEqual = refl
binary_none b Add = refl
binary_none b Subtract = refl
binary_none b Multiply = refl
binary_none b Divide = refl
binary_none b Modulo = refl
binary_none b Remainder = refl

division_none : (op : BinaryOperator) (z : _) → effects_of (division_code op z) ≡ 0
division_none Or z = refl
division_none Xor z = refl
division_none And z = refl
division_none Equal z = refl
division_none NotEqual z = refl
division_none Less z = refl
division_none LessEqual z = refl
division_none Greater z = refl
division_none GreaterEqual z = refl
division_none Add z = refl
division_none Subtract z = refl
division_none Multiply z = refl
division_none Divide z = refl
division_none Modulo z = refl
division_none Remainder z = refl

last_none : (a : List Instruction) (x : Instruction) → sum_by effects_of a ≡ 0 → effects_of x ≡ 0 → sum_by effects_of (a ++ x ∷ []) ≡ 0
last_none a x e f = omega (arith, e, f, sum_by-append effects_of a (x ∷ []), sum_by-cons effects_of x [])

tree_none : (c : Scope) (t : Tree) → sum_by effects_of (tree_code c t) ≡ 0
tree_none c (number at k) = refl
tree_none c (truth at b) = refl
tree_none c (variable at n) = refl
tree_none c (unary at op t) = last_none (tree_code c t) (unary_code op) (tree_none c t) (unary_none op)
tree_none c (binary at op t u) = by_division (is_division op) (tree_none c t) (tree_none c u)
  where
    by_division : (d : Bool) → sum_by effects_of (tree_code c t) ≡ 0 → sum_by effects_of (tree_code c u) ≡ 0
        → sum_by effects_of (cond d (tree_code c t ++ division_code op (divisor_of u) ∷ []) (tree_code c t ++ (tree_code c u ++ binary_code (is_truth c t) op ∷ []))) ≡ 0
    by_division true h k = last_none (tree_code c t) (division_code op (divisor_of u)) h (division_none op (divisor_of u))
    by_division false h k =
        none_then (tree_code c t) (tree_code c u ++ binary_code (is_truth c t) op ∷ []) h
        ∙ last_none (tree_code c u) (binary_code (is_truth c t) op) k (binary_none (is_truth c t) op)

trees_none : (c : Scope) (ts : List Tree) → sum_by effects_of (trees_code c ts) ≡ 0
trees_none c [] = refl
trees_none c (t ∷ ts) = none_then (tree_code c t) (trees_code c ts) (tree_none c t) ∙ trees_none c ts

tasks_none : (c : Scope) (ts : List PlainAssignment) → sum_by effects_of (tasks_code c ts) ≡ 0
tasks_none c [] = refl
tasks_none c (t ∷ ts) =
    let x = store (number_or_zero (variable_at c t.variable)) in
    let h = tasks_none c ts in
    let z : effects_of x ≡ 0 = refl in
    none_then (tree_code c t.value) (x ∷ tasks_code c ts) (tree_none c t.value) ∙ omega (arith, h, z, sum_by-cons effects_of x (tasks_code c ts))

sendings_are : (c : Scope) (to : Option Destination) (xs : List PlainSending) → sum_by effects_of (sendings_code c to xs) ≡ length xs
sendings_are c to [] = refl
sendings_are c to (x ∷ xs) =
    let last = put (number_or_zero (signal_at c x.signal)) (receiver_code c to x.signal) (length x.parameters) in
    let h = sendings_are c to xs in
    let o : effects_of last ≡ 1 = refl in
    none_then (trees_code c x.parameters) (last ∷ sendings_code c to xs) (trees_none c x.parameters) ∙ omega (arith, h, o, sum_by-cons effects_of last (sendings_code c to xs))

action_are : (c : Scope) (a : PlainAction) → sum_by effects_of (action_code c a) ≡ action_effects a
action_are c (task at ts) = tasks_none c ts
action_are c (output at xs to) = sendings_are c to xs
action_are c (set_timer at t n) =
    let last = set_to (number_or_zero (timer_at c n)) in
    let o : effects_of last ≡ 1 = refl in
    none_then (tree_code c t) (last ∷ []) (tree_none c t) ∙ omega (arith, o, sum_by-cons effects_of last [])
action_are c (reset_timer at n) = refl

range_none : (c : Scope) (n : ℕ) (r : Range) → effects_of (range_code n r) ≡ 0
range_none c n (IsValue x) = refl
range_none c n (Compared at s x) = refl
range_none c n (Between low high) = refl

pub effects_weigh : (c : Scope) → IsWeight c effects_of 0
effects_weigh c = record { jumping = λ n. refl; state = λ n. refl; stopping = refl; dropping = refl; testing = range_none c; choosing = λ n choice. refl }

module _ (c : Scope) (join : List ℕ → ℕ) where
  tests_most : (rs : List Range) (x y : ℕ) → 1 ≤ length rs → tests_tally c effects_of 0 join rs x y ≡ max x y
  tests_most [] x y h = absurd (omega (arith, h))
  tests_most (r ∷ []) x y h = omega arith
  tests_most (r ∷ s ∷ rs) x y h = let e = tests_most (s ∷ rs) x y (omega arith) in omega (arith, e)

  either_sort : (b : Bool) (x y z : ℕ) → x ≡ z → y ≡ z → cond b (0 + x) y ≡ z
  either_sort true x y z e f = omega (arith, e)
  either_sort false x y z e f = f

  mutual
    pub tally_effects : (t : Text) (k m : ℕ) → NamedText c t → k ≡ m → tally c effects_of 0 join t k ≡ effects join t m
    tally_effects falls k m named e = e
    tally_effects (ends t) k m named e = omega arith
    tally_effects (does a rest) k m named e = let h = tally_effects rest k m named.1 e in omega (arith, h, action_are c a)
    tally_effects (decides at q choice rest) k m named e =
        let n = tally c effects_of 0 join rest k in
        let o = effects join rest m in
        let h : n ≡ o = tally_effects rest k m named.2 e in
        let values = and_first (has_values choice) (cond (is_truth c q) (answers_both choice) (has_else choice)) named.0.answered in
        let g = either_sort (is_truth c q) (pick_tally c effects_of 0 join choice n) (case_tally c effects_of 0 join choice n) (choice_effects join choice o) (pick_effects choice q n o named.1 h) (case_effects choice q n o named.1 values h) in
        omega (arith, g, tree_none c q)

    case_effects : (choice : Choice) (q : Tree) (k m : ℕ) → NamedChoice c q choice → has_values choice ≡ true → k ≡ m → case_tally c effects_of 0 join choice k ≡ choice_effects join choice m
    case_effects nothing_else q k m named v e = refl
    case_effects (otherwise body) q k m named v e = let h = tally_effects body (0 + k) m named (omega (arith, e)) in omega (arith, h)
    case_effects (answer at rs body others) q k m named v e =
        let a = tally_effects body (0 + k) m named.1 (omega (arith, e)) in
        let b = case_effects others q k m named.2 (and_second (nat_lt 0 (length rs)) (has_values others) v) e in
        let t = tests_most rs (tally c effects_of 0 join body (0 + k)) (case_tally c effects_of 0 join others k) (some_values (length rs) (and_first (nat_lt 0 (length rs)) (has_values others) v)) in
        omega (arith, a, b, t)

    pick_effects : (choice : Choice) (q : Tree) (k m : ℕ) → NamedChoice c q choice → k ≡ m → pick_tally c effects_of 0 join choice k ≡ choice_effects join choice m
    pick_effects nothing_else q k m named e = refl
    pick_effects (otherwise body) q k m named e = tally_effects body (0 + k) m named (omega (arith, e))
    pick_effects (answer at rs body others) q k m named e =
        let a = tally_effects body (0 + k) m named.1 (omega (arith, e)) in
        let b = pick_effects others q k m named.2 e in
        omega (arith, a, b)

pub places_none : (c : Scope) (j : ℕ) (places : List (Option Identifier)) → sum_by effects_of (places_code c j places) ≡ 0
places_none c j [] = refl
places_none c j (None ∷ rest) = places_none c (j + 1) rest
places_none c j (Some n ∷ rest) =
    let x = i.Param j in
    let y = store (number_or_zero (variable_at c n)) in
    let h = places_none c (j + 1) rest in
    let e : effects_of x ≡ 0 = refl in
    let f : effects_of y ≡ 0 = refl in
    omega (arith, h, e, f, sum_by-cons effects_of x (y ∷ places_code c (j + 1) rest), sum_by-cons effects_of y (places_code c (j + 1) rest))
