-- The counts at the places of a text are the greatest on a walk through it.
use Rattle.std.proofs.Common.{◌≡◌, ℕ, ◌+◌, ◌≤◌, max, Bool, true, false, cond, ◌||◌, ◌&&◌, List, [], ◌∷◌, ◌++◌, length, Option, refl, ap, ◌∙◌, arith}
use Rattle.std.specs.Prelude.{nat_eq, nat_lt, not}
use Rattle.std.specs.List.{sum_by, list_any}
use Rattle.std.proofs.lemmas.Bool.Decides.{nat_tests}
use Rattle.std.proofs.lemmas.List.Sums.{sum_by-cons}
use Rattle.sdl_ast.specs.declared.tree.Range.{Range}
use Rattle.sdl_ast.specs.declared.tree.Range.TheVariants.{Value as IsValue, Compared, Between}
use Rattle.sdl_ast.specs.declared.tree.Sort.TheVariants as tree_sorts
use Rattle.sdl_ast.specs.declared.tree.Literal.{Literal}
use Rattle.sdl_ast.specs.declared.tree.Literal.TheVariants as literals
use Rattle.sdl_ast.specs.Plain.{Tree, number, truth, variable, unary, binary, PlainAssignment, PlainSending, PlainAction, task, output, set_timer, reset_timer, Text, falls, ends, does, decides, Choice, nothing_else, otherwise, answer}
use Rattle.sdl_ast.specs.declared.expression.UnaryOperator.{UnaryOperator}
use Rattle.sdl_ast.specs.declared.expression.UnaryOperator.TheVariants.{Negate, Not}
use Rattle.sdl_ast.specs.declared.expression.BinaryOperator.{BinaryOperator}
use Rattle.sdl_ast.specs.declared.expression.BinaryOperator.TheVariants.{Or, Xor, And, Equal, NotEqual, Less, LessEqual, Greater, GreaterEqual, Add, Subtract, Multiply, Divide, Modulo, Remainder}
use Rattle.sdl_ast.specs.declared.tree.Destination.{Destination}
use Rattle.turn_code.specs.declared.instruction.Instruction.{Instruction}
use Rattle.turn_code.specs.declared.instruction.Instruction.TheVariants as i
use Rattle.turn_code.specs.Code.{jumps, behind}
use Rattle.sdl_sound.specs.Going.{goes_on as may_go_on, choice_goes_on}
use Rattle.sdl_sound.specs.Decisions.{has_else, has_values, is_value, names_value, times_named, answers_both}
use Rattle.sdl_sound.specs.Sorts.{same_sort, literal_sort, answers_truth}
use Rattle.sdl_sound.specs.Longest.{is_division, end_count}
use Rattle.sdl_meaning.specs.Act.{is_truth, divisor_of}
use Rattle.sdl_meaning.specs.Outcomes.{Scope, variable_at, timer_at, signal_at}
use Rattle.sdl_meaning.specs.Named.{NamedChoice}
use Rattle.sdl_meaning.specs.Code.{number_or_zero, load, store, next, set_to, reset, put, jump, unary_code, binary_code, division_code, tree_code, trees_code, tasks_code, receiver_code, sendings_code, action_code, is_literal, names_truth, body_size, range_code, pick_code, picked}
use Rattle.sdl_compile.proofs.Straight.{IsStep, AreSteps, steps_append}
use Rattle.sdl_meaning.proofs.Branches.{no_names}
use Rattle.sdl_meaning.proofs.Choices.{AreTruths, are_truths}
use Rattle.sdl_meaning.proofs.Measured.{some_values}
use Rattle.plain_laws.proofs.Truths.{and_second, and_first}

-- ---- code that goes straight on

step : (x : Instruction) → jumps x ≡ [] → ((k : ℕ) → behind x k ≡ (k + 1) ∷ []) → IsStep x
step x e f = record { jumping = e; going = f }

unary_steps : (op : UnaryOperator) → IsStep (unary_code op)
unary_steps Negate = step i.Neg refl (λ k. refl)
unary_steps Not = step i.Not refl (λ k. refl)

binary_steps : (b : Bool) (op : BinaryOperator) → IsStep (binary_code b op)
binary_steps b Or = step i.Or refl (λ k. refl)
binary_steps b Xor = step i.Xor refl (λ k. refl)
binary_steps b And = step i.And refl (λ k. refl)
binary_steps true Equal = step i.Same refl (λ k. refl)
binary_steps false Equal = step (binary_code false Equal) refl (λ k. refl)
binary_steps true NotEqual = step i.Xor refl (λ k. refl)
binary_steps false NotEqual = step (binary_code false NotEqual) refl (λ k. refl)
binary_steps b Less = step (binary_code b Less) refl (λ k. refl)
binary_steps b LessEqual = step (binary_code b LessEqual) refl (λ k. refl)
binary_steps b Greater = step (binary_code b Greater) refl (λ k. refl)
binary_steps b GreaterEqual = step (binary_code b GreaterEqual) refl (λ k. refl)
binary_steps b Add = step i.Add refl (λ k. refl)
binary_steps b Subtract = step i.Sub refl (λ k. refl)
binary_steps b Multiply = step i.Mul refl (λ k. refl)
binary_steps b Divide = step (binary_code b Divide) refl (λ k. refl)
binary_steps b Modulo = step (binary_code b Modulo) refl (λ k. refl)
binary_steps b Remainder = step (binary_code b Remainder) refl (λ k. refl)

division_steps : (op : BinaryOperator) (z : _) → IsStep (division_code op z)
division_steps Or z = step (i.Rem z) refl (λ k. refl)
division_steps Xor z = step (i.Rem z) refl (λ k. refl)
division_steps And z = step (i.Rem z) refl (λ k. refl)
division_steps Equal z = step (i.Rem z) refl (λ k. refl)
division_steps NotEqual z = step (i.Rem z) refl (λ k. refl)
division_steps Less z = step (i.Rem z) refl (λ k. refl)
division_steps LessEqual z = step (i.Rem z) refl (λ k. refl)
division_steps Greater z = step (i.Rem z) refl (λ k. refl)
division_steps GreaterEqual z = step (i.Rem z) refl (λ k. refl)
division_steps Add z = step (i.Rem z) refl (λ k. refl)
division_steps Subtract z = step (i.Rem z) refl (λ k. refl)
division_steps Multiply z = step (i.Rem z) refl (λ k. refl)
division_steps Divide z = step (i.Div z) refl (λ k. refl)
division_steps Modulo z = step (i.Mod z) refl (λ k. refl)
division_steps Remainder z = step (i.Rem z) refl (λ k. refl)

pub tree_steps : (c : Scope) (t : Tree) → AreSteps (tree_code c t)
tree_steps c (number at k) = (step _ refl (λ k. refl), tt)
tree_steps c (truth at b) = (step (i.Bool b) refl (λ k. refl), tt)
tree_steps c (variable at n) = (step (load (number_or_zero (variable_at c n))) refl (λ k. refl), tt)
tree_steps c (unary at op t) = steps_append (tree_code c t) (unary_code op ∷ []) (tree_steps c t) (unary_steps op, tt)
tree_steps c (binary at op t u) = by_division (is_division op) (tree_steps c t) (tree_steps c u)
  where
    by_division : (d : Bool) → AreSteps (tree_code c t) → AreSteps (tree_code c u)
        → AreSteps (cond d (tree_code c t ++ division_code op (divisor_of u) ∷ []) (tree_code c t ++ (tree_code c u ++ binary_code (is_truth c t) op ∷ [])))
    by_division true h k = steps_append (tree_code c t) (division_code op (divisor_of u) ∷ []) h (division_steps op (divisor_of u), tt)
    by_division false h k =
        steps_append (tree_code c t) (tree_code c u ++ binary_code (is_truth c t) op ∷ []) h
        (steps_append (tree_code c u) (binary_code (is_truth c t) op ∷ []) k (binary_steps (is_truth c t) op, tt))

trees_steps : (c : Scope) (ts : List Tree) → AreSteps (trees_code c ts)
trees_steps c [] = tt
trees_steps c (t ∷ ts) = steps_append (tree_code c t) (trees_code c ts) (tree_steps c t) (trees_steps c ts)

tasks_steps : (c : Scope) (ts : List PlainAssignment) → AreSteps (tasks_code c ts)
tasks_steps c [] = tt
tasks_steps c (t ∷ ts) =
    let x = store (number_or_zero (variable_at c t.variable)) in
    steps_append (tree_code c t.value) (x ∷ tasks_code c ts) (tree_steps c t.value) (step x refl (λ k. refl), tasks_steps c ts)

sendings_steps : (c : Scope) (to : Option Destination) (xs : List PlainSending) → AreSteps (sendings_code c to xs)
sendings_steps c to [] = tt
sendings_steps c to (x ∷ xs) =
    let last = put (number_or_zero (signal_at c x.signal)) (receiver_code c to x.signal) (length x.parameters) in
    steps_append (trees_code c x.parameters) (last ∷ sendings_code c to xs) (trees_steps c x.parameters) (step last refl (λ k. refl), sendings_steps c to xs)

pub action_steps : (c : Scope) (a : PlainAction) → AreSteps (action_code c a)
action_steps c (task at ts) = tasks_steps c ts
action_steps c (output at xs to) = sendings_steps c to xs
action_steps c (set_timer at t n) =
    let last = set_to (number_or_zero (timer_at c n)) in
    steps_append (tree_code c t) (last ∷ []) (tree_steps c t) (step last refl (λ k. refl), tt)
action_steps c (reset_timer at n) = (step (reset (number_or_zero (timer_at c n))) refl (λ k. refl), tt)

-- ---- the bodies of a Boolean DECISION: each is chosen for some value

-- how often ranges name a truth value
abbrev named : Bool → List Range → ℕ
named b rs = sum_by (names_value b) rs

value_name : (l : Literal) (b : Bool) → is_literal b l ≡ true → is_value b l ≡ 1
value_name (literals.Integer k) b e = absurd (let k : ⊥ = cc in k)
value_name (literals.Boolean true) true e = refl
value_name (literals.Boolean false) true e = absurd (let k : ⊥ = cc in k)
value_name (literals.Boolean true) false e = absurd (let k : ⊥ = cc in k)
value_name (literals.Boolean false) false e = refl

range_name : (r : Range) (b : Bool) → names_truth b r ≡ true → names_value b r ≡ 1
range_name (IsValue k) b e = value_name k.value b e
range_name (Compared at r k) b e = absurd (let k : ⊥ = cc in k)
range_name (Between low high) b e = absurd (let k : ⊥ = cc in k)

-- A truth value that one of the ranges names is named at least once.
named_some : (rs : List Range) (b : Bool) → list_any (names_truth b) rs ≡ true → 1 ≤ named b rs
named_some [] b e = absurd (let k : ⊥ = cc in k)
named_some (r ∷ rs) b e = by_test (names_truth b r) refl e (named_some rs b)
  where
    by_test : (t : Bool) → names_truth b r ≡ t → t || list_any (names_truth b) rs ≡ true → (list_any (names_truth b) rs ≡ true → 1 ≤ named b rs) → 1 ≤ named b (r ∷ rs)
    by_test true f e h = let g = range_name r b f in omega (arith, g, sum_by-cons (names_value b) r rs)
    by_test false f e h = let g = h e in omega (arith, g, sum_by-cons (names_value b) r rs)

-- A range of a Boolean question names one truth value.
one_value : (l : Literal) → same_sort tree_sorts.Boolean (literal_sort l) ≡ true → is_value true l + is_value false l ≡ 1
one_value (literals.Integer k) e = absurd (let k : ⊥ = cc in k)
one_value (literals.Boolean true) e = refl
one_value (literals.Boolean false) e = refl

one_name : (r : Range) → answers_truth r ≡ true → names_value true r + names_value false r ≡ 1
one_name (IsValue k) e = one_value k.value e
one_name (Compared at r k) e = absurd (let k : ⊥ = cc in k)
one_name (Between low high) e = absurd (let k : ⊥ = cc in k)

all_named : (rs : List Range) → AreTruths rs → named true rs + named false rs ≡ length rs
all_named [] h = refl
all_named (r ∷ rs) h =
    let e = one_name r h.0 in
    let f = all_named rs h.1 in
    omega (arith, e, f, sum_by-cons (names_value true) r rs, sum_by-cons (names_value false) r rs)

at_most : (m n : ℕ) → nat_lt (m + n) 2 ≡ true → m + n ≤ 1
at_most m n e = grind (arith, nat_tests)

one_each : (m n : ℕ) → nat_eq m 1 && nat_eq n 1 ≡ true → (m ≡ 1) × (n ≡ 1)
one_each m n e = (first_one, second_one)
  where
    first_one : m ≡ 1
    first_one = let f = and_first (nat_eq m 1) (nat_eq n 1) e in grind (arith, nat_tests)

    second_one : n ≡ 1
    second_one = let f = and_second (nat_eq m 1) (nat_eq n 1) e in grind (arith, nat_tests)

-- How often the ranges name a value that has one answer: never if ELSE answers it, else once.
abbrev times_left : Bool → ℕ
times_left true = 0
times_left false = 1

-- How often the ranges name the two values if each has one answer.
record IsOnce (h : Bool) (t f : ℕ) : Type 0 where
  with_else : h ≡ true → t + f ≤ 1
  without : h ≡ false → (t ≡ 1) × (f ≡ 1)

once : (h : Bool) (t f : ℕ) → cond h (nat_lt (t + f) 2) (nat_eq t 1 && nat_eq f 1) ≡ true → IsOnce h t f
once true t f e = record { with_else = λ _. at_most t f e; without = λ k. absurd (let k : ⊥ = cc in k) }
once false t f e = record { with_else = λ k. absurd (let k : ⊥ = cc in k); without = λ _. one_each t f e }

module _ (c : Scope) (v : ℕ → ℕ) where
  -- Adds the sets of the places of INPUT: a named place loads a parameter and stores it. Returns the set after them.
  abbrev pub bodies_most : ℕ → Choice → ℕ
  bodies_most n nothing_else = 0
  bodies_most n (otherwise body) = v n
  bodies_most n (answer at rs body others) = max (v n) (bodies_most (n + body_size c body) others)

  abbrev Truths : Choice → Type 0
  Truths nothing_else = Unit {0}
  Truths (otherwise body) = Unit {0}
  Truths (answer at rs body others) = AreTruths rs × Truths others

  pub truths : (choice : Choice) (q : Tree) → is_truth c q ≡ true → NamedChoice c q choice → Truths choice
  truths nothing_else q e h = tt
  truths (otherwise body) q e h = tt
  truths (answer at rs body others) q e h = (are_truths c q rs e h.0, truths others q e h.2)

  none_left : (choice : Choice) (n : ℕ) → has_values choice ≡ true → Truths choice → times_named true choice ≡ 0 → times_named false choice ≡ 0 → has_else choice ≡ false → bodies_most n choice ≡ 0
  none_left nothing_else n h t e f g = refl
  none_left (otherwise body) n h t e f g = absurd (let k : ⊥ = cc in k)
  none_left (answer at rs body others) n h t e f g =
      let l = all_named rs t.0 in
      let k = some_values (length rs) (and_first (nat_lt 0 (length rs)) (has_values others) h) in
      absurd (omega (arith, l, k, e, f))

  -- The remaining value has the remaining body.
  one_left : (choice : Choice) (n : ℕ) (b : Bool) → has_values choice ≡ true → Truths choice → times_named (not b) choice ≡ 0 → times_named b choice ≡ times_left (has_else choice) → v (picked c n choice b) ≡ bodies_most n choice
  one_left nothing_else n b h t e f = absurd (let k : 0 ≡ 1 = none b ∙ f in omega (arith, k))
    where
      none : (b : Bool) → 0 ≡ times_named b nothing_else
      none true = refl
      none false = refl
  one_left (otherwise body) n b h t e f = refl
  one_left (answer at rs body others) n b h t e f = by_else (has_else others) refl f
    where
      l : named b rs + named (not b) rs ≡ length rs
      l = both b (all_named rs t.0)
        where
          both : (b : Bool) → named true rs + named false rs ≡ length rs → named b rs + named (not b) rs ≡ length rs
          both true e = e
          both false e = omega (arith, e)

      k : 1 ≤ length rs
      k = some_values (length rs) (and_first (nat_lt 0 (length rs)) (has_values others) h)

      zeros : (b : Bool) → times_named b others ≡ 0 → times_named (not b) others ≡ 0 → (times_named true others ≡ 0) × (times_named false others ≡ 0)
      zeros true e f = (e, f)
      zeros false e f = (f, e)

      by_test : (s : Bool) → list_any (names_truth b) rs ≡ s → bodies_most (n + body_size c body) others ≡ 0 → v (cond s n (picked c (n + body_size c body) others b)) ≡ max (v n) (bodies_most (n + body_size c body) others)
      by_test true g z = omega (arith, z)
      by_test false g z = absurd (let m = no_names rs b g in omega (arith, m, l, k, e))

      by_else : (s : Bool) → has_else others ≡ s → named b rs + times_named b others ≡ times_left s → v (cond (list_any (names_truth b) rs) n (picked c (n + body_size c body) others b)) ≡ max (v n) (bodies_most (n + body_size c body) others)
      by_else true g f = absurd (omega (arith, l, k, e, f))
      by_else false g f =
          let z = zeros b (omega (arith, l, k, e, f)) (omega (arith, e)) in
          by_test (list_any (names_truth b) rs) refl (none_left others (n + body_size c body) (and_second (nat_lt 0 (length rs)) (has_values others) h) t.1 z.0 z.1 g)

  pub picked_most : (choice : Choice) (n : ℕ) → has_values choice ≡ true → Truths choice → answers_both choice ≡ true → max (v (picked c n choice false)) (v (picked c n choice true)) ≡ bodies_most n choice
  picked_most nothing_else n h t e = absurd (let k : ⊥ = cc in k)
  picked_most (otherwise body) n h t e = omega arith
  picked_most (answer at rs body others) n h t e = by_tests (list_any (names_truth true) rs) (list_any (names_truth false) rs) refl refl
    where
      m : ℕ
      m = n + body_size c body

      l : named true rs + named false rs ≡ length rs
      l = all_named rs t.0

      k : 1 ≤ length rs
      k = some_values (length rs) (and_first (nat_lt 0 (length rs)) (has_values others) h)

      values : has_values others ≡ true
      values = and_second (nat_lt 0 (length rs)) (has_values others) h

      w : IsOnce (has_else others) (named true rs + times_named true others) (named false rs + times_named false others)
      w = once (has_else others) (named true rs + times_named true others) (named false rs + times_named false others) e

      both : (s : Bool) → has_else others ≡ s → 1 ≤ named true rs → 1 ≤ named false rs → max (v n) (v n) ≡ max (v n) (bodies_most m others)
      both true g x y = absurd (let z = w.with_else g in omega (arith, x, y, z))
      both false g x y =
          let z = w.without g in
          let o = none_left others m values t.1 (omega (arith, x, z.0)) (omega (arith, y, z.1)) g in
          omega (arith, o)

      left_true : (s : Bool) → has_else others ≡ s → named true rs ≡ 0 → 1 ≤ named false rs → (times_named false others ≡ 0) × (times_named true others ≡ times_left s)
      left_true true g x y = let z = w.with_else g in (omega (arith, x, y, z), omega (arith, x, y, z))
      left_true false g x y = let z = w.without g in (omega (arith, x, y, z.1), omega (arith, x, y, z.0))

      left_false : (s : Bool) → has_else others ≡ s → named false rs ≡ 0 → 1 ≤ named true rs → (times_named true others ≡ 0) × (times_named false others ≡ times_left s)
      left_false true g x y = let z = w.with_else g in (omega (arith, x, y, z), omega (arith, x, y, z))
      left_false false g x y = let z = w.without g in (omega (arith, x, y, z.0), omega (arith, x, y, z.1))

      by_tests : (x y : Bool) → list_any (names_truth true) rs ≡ x → list_any (names_truth false) rs ≡ y
          → max (v (cond y n (picked c m others false))) (v (cond x n (picked c m others true))) ≡ max (v n) (bodies_most m others)
      by_tests true true f g = both (has_else others) refl (named_some rs true f) (named_some rs false g)
      by_tests true false f g =
          let z = left_false (has_else others) refl (no_names rs false g) (named_some rs true f) in
          let o = one_left others m false values t.1 z.0 z.1 in
          omega (arith, o)
      by_tests false true f g =
          let z = left_true (has_else others) refl (no_names rs true f) (named_some rs false g) in
          let o = one_left others m true values t.1 z.0 z.1 in
          omega (arith, o)
      by_tests false false f g = absurd (let x = no_names rs true f in let y = no_names rs false g in omega (arith, x, y, l, k))

-- ---- the count of a text, if an instruction counts by its kind

-- Instructions that jump or end count alike.
pub record IsWeight (c : Scope) (w : Instruction → ℕ) (a : ℕ) : Type 0 where
  pub jumping : (n : ℕ) → w (jump n) ≡ a
  pub state : (n : ℕ) → w (next n) ≡ a
  pub stopping : w i.Stop ≡ a
  pub dropping : w i.Drop ≡ a
  pub testing : (n : ℕ) (r : Range) → w (range_code n r) ≡ a
  pub choosing : (n : ℕ) (choice : Choice) → w (pick_code c n choice) ≡ a

module _ (c : Scope) (w : Instruction → ℕ) (a : ℕ) (join : List ℕ → ℕ) where
  abbrev pub tests_tally : List Range → ℕ → ℕ → ℕ
  tests_tally [] body others = others
  tests_tally (r ∷ rs) body others = a + max body (tests_tally rs body others)

  abbrev mutual
    pub tally : Text → ℕ → ℕ
    tally falls k = k
    tally (ends e) k = a + end_count join e
    tally (does x rest) k = sum_by w (action_code c x) + tally rest k
    tally (decides at q choice rest) k =
        sum_by w (tree_code c q) + cond (is_truth c q) (a + pick_tally choice (tally rest k)) (case_tally choice (tally rest k))

    pub case_tally : Choice → ℕ → ℕ
    case_tally nothing_else k = 0
    case_tally (otherwise body) k = a + tally body (a + k)
    case_tally (answer at rs body others) k = tests_tally rs (tally body (a + k)) (case_tally others k)

    pub pick_tally : Choice → ℕ → ℕ
    pick_tally nothing_else k = 0
    pick_tally (otherwise body) k = tally body (a + k)
    pick_tally (answer at rs body others) k = max (tally body (a + k)) (pick_tally others k)

  or_left : (x y : Bool) → x || y ≡ false → x ≡ false
  or_left true y e = e
  or_left false y e = refl

  or_right : (x y : Bool) → x || y ≡ false → y ≡ false
  or_right true y e = absurd (let k : ⊥ = cc in k)
  or_right false y e = e

  same_cond : (b : Bool) (x y u z : ℕ) → x ≡ y → u ≡ z → cond b (a + x) u ≡ cond b (a + y) z
  same_cond true x y u z e f = ap (λ n. a + n) e
  same_cond false x y u z e f = f

  same_tests : (rs : List Range) (x y u z : ℕ) → x ≡ y → u ≡ z → tests_tally rs x u ≡ tests_tally rs y z
  same_tests rs x y u z e f = ap (λ n. tests_tally rs n u) e ∙ ap (tests_tally rs y) f

  mutual
    -- A text that doesn't go on doesn't count what follows it.
    pub tally_over : (t : Text) (j k : ℕ) → may_go_on t ≡ false → tally t j ≡ tally t k
    tally_over falls j k e = absurd (let k : ⊥ = cc in k)
    tally_over (ends t) j k e = refl
    tally_over (does x rest) j k e = ap (λ n. sum_by w (action_code c x) + n) (tally_over rest j k e)
    tally_over (decides at q choice rest) j k e = by_choice (choice_goes_on choice) refl e (λ f. tally_over rest j k f)
        (λ f. case_over choice (tally rest j) (tally rest k) f) (λ f. pick_over choice (tally rest j) (tally rest k) f)
      where
        by_choice : (b : Bool) → choice_goes_on choice ≡ b → b && may_go_on rest ≡ false → (may_go_on rest ≡ false → tally rest j ≡ tally rest k)
            → (choice_goes_on choice ≡ false → case_tally choice (tally rest j) ≡ case_tally choice (tally rest k))
            → (choice_goes_on choice ≡ false → pick_tally choice (tally rest j) ≡ pick_tally choice (tally rest k))
            → tally (decides at q choice rest) j ≡ tally (decides at q choice rest) k
        by_choice true f e g h l = ap (λ n. sum_by w (tree_code c q) + cond (is_truth c q) (a + pick_tally choice n) (case_tally choice n)) (g e)
        by_choice false f e g h l =
            ap (λ n. sum_by w (tree_code c q) + n)
            (same_cond (is_truth c q) (pick_tally choice (tally rest j)) (pick_tally choice (tally rest k)) (case_tally choice (tally rest j)) (case_tally choice (tally rest k)) (l f) (h f))

    case_over : (choice : Choice) (j k : ℕ) → choice_goes_on choice ≡ false → case_tally choice j ≡ case_tally choice k
    case_over nothing_else j k e = refl
    case_over (otherwise body) j k e = ap (λ n. a + n) (tally_over body (a + j) (a + k) e)
    case_over (answer at rs body others) j k e =
        same_tests rs (tally body (a + j)) (tally body (a + k)) (case_tally others j) (case_tally others k)
        (tally_over body (a + j) (a + k) (or_left (may_go_on body) (choice_goes_on others) e)) (case_over others j k (or_right (may_go_on body) (choice_goes_on others) e))

    pick_over : (choice : Choice) (j k : ℕ) → choice_goes_on choice ≡ false → pick_tally choice j ≡ pick_tally choice k
    pick_over nothing_else j k e = refl
    pick_over (otherwise body) j k e = tally_over body (a + j) (a + k) e
    pick_over (answer at rs body others) j k e =
        let f = tally_over body (a + j) (a + k) (or_left (may_go_on body) (choice_goes_on others) e) in
        let g = pick_over others j k (or_right (may_go_on body) (choice_goes_on others) e) in
        ap (λ n. max n (pick_tally others j)) f ∙ ap (λ n. max (tally body (a + k)) n) g
