-- The code of expressions, actions and places of INPUT: the operands it leaves, its depth, its size and its effects.
use Rattle.std.proofs.Common.{◌≡◌, ℕ, zero, suc, ◌+◌, ◌<◌, ◌≤◌, ℤ, pos, max, Bool, true, false, cond, List, [], ◌∷◌, ◌++◌, length, reverse, drop, Option, Some, None, IsSome, refl, sym, ap, arith}
use Rattle.std.specs.Prelude.{slice_get, sum_by}
use Rattle.std.specs.Option.{option_to_list}
use Rattle.std.proofs.lemmas.List.{length-reverse}
use Rattle.std.proofs.lemmas.List.Sums.{sum_by-cons}
use Rattle.sdl_ast.specs.declared.expression.Identifier.{Identifier}
use Rattle.sdl_ast.specs.declared.expression.UnaryOperator.{UnaryOperator}
use Rattle.sdl_ast.specs.declared.expression.UnaryOperator.TheVariants.{Negate, Not}
use Rattle.sdl_ast.specs.declared.expression.BinaryOperator.{BinaryOperator}
use Rattle.sdl_ast.specs.declared.expression.BinaryOperator.TheVariants.{Or, Xor, And, Equal, NotEqual, Less, LessEqual, Greater, GreaterEqual, Add, Subtract, Multiply, Divide, Modulo, Remainder}
use Rattle.sdl_ast.specs.declared.tree.Sort as tree_sort
use Rattle.sdl_ast.specs.declared.tree.Sort.TheVariants as tree_sorts
use Rattle.sdl_ast.specs.declared.tree.Destination.{Destination}
use Rattle.sdl_ast.specs.Plain.{Tree, number, truth, variable, unary, binary, PlainAssignment, PlainSending, PlainAction, task, output, set_timer, reset_timer}
use Rattle.turn_code.specs.declared.value.Sort.{Sort}
use Rattle.turn_code.specs.declared.instruction.Receiver.{Receiver}
use Rattle.turn_code.specs.declared.instruction.Instruction.{Instruction}
use Rattle.turn_code.specs.declared.instruction.Instruction.TheVariants as i
use Rattle.turn_code.specs.declared.variable_set.VariableSet.{VariableSet}
use Rattle.turn_code.specs.declared.draft.DraftSignal.{DraftSignal}
use Rattle.turn_code.specs.declared.draft.DraftVariable.{DraftVariable}
use Rattle.turn_code.specs.Sets.{with_variable}
use Rattle.turn_code.specs.Values.{wrap}
use Rattle.turn_code.specs.Code.{sort_at, set_after, effects_of}
use Rattle.turn_code.specs.Transitions.{parameters_of}
use Rattle.sdl_tables.specs.Names.{variables_of}
use Rattle.sdl_sound.specs.Sorts.{unary_sort, binary_sort, variable_sort, sort_in}
use Rattle.sdl_sound.specs.Longest.{is_division, cost_of, depth_of, assignment_cost, assignments_cost, assignments_depth, sending_cost, sendings_cost, parameters_depth, sendings_depth, action_cost, action_depth, action_effects, place_cost, places_cost, places_depth}
use Rattle.sdl_meaning.specs.Act.{is_truth, divisor_of}
use Rattle.sdl_meaning.specs.Outcomes.{Scope, variable_at, timer_at, signal_at}
use Rattle.sdl_meaning.specs.Code.{number_or_zero, load, store, set_to, reset, put, unary_code, binary_code, division_code, tree_code, trees_code, tasks_code, receiver_code, sendings_code, action_code, places_code}
use Rattle.sdl_meaning.specs.Named.{NamedTree, NamedTrees, NamedTasks, NamedSendings, NamedAction, NamedPlaces}
use Rattle.sdl_meaning.specs.Declarations.{sort_of_tree}
use Rattle.sdl_compile.specs.Reads.{tasks_set, action_set, places_set}
use Rattle.sdl_meaning.proofs.Sorting.{tree_has_sort, variable_has_sort}
use Rattle.sdl_compile.proofs.Straight.{IsStep}
use Rattle.sdl_compile.proofs.PlaceStretches.{Leads, after, joined, none, one, told}

pub depth_some : (t : Tree) → 1 ≤ depth_of t
depth_some (number at k) = omega arith
depth_some (truth at b) = omega arith
depth_some (variable at n) = omega arith
depth_some (unary at op t) = depth_some t
depth_some (binary at op t u) = let h = depth_some t in omega (arith, h)

-- Each signal that is sent has as many parameters as it is declared with.
abbrev pub Counted : Scope → List DraftSignal → List PlainSending → Type 0
Counted c ss [] = Unit {0}
Counted c ss (x ∷ rest) = (length (parameters_of (slice_get ss (number_or_zero (signal_at c x.signal)))) ≡ length x.parameters) × Counted c ss rest

abbrev pub CountedAction : Scope → List DraftSignal → PlainAction → Type 0
CountedAction c ss (task at ts) = Unit {0}
CountedAction c ss (output at xs to) = Counted c ss xs
CountedAction c ss (set_timer at t n) = Unit {0}
CountedAction c ss (reset_timer at n) = Unit {0}

drop_past : {A : Type 0} (n : ℕ) (xs : List A) → length xs ≤ n → drop n xs ≡ []
drop_past zero [] h = refl
drop_past zero (x ∷ xs) h = absurd (omega arith)
drop_past (suc n) [] h = refl
drop_past (suc n) (x ∷ xs) h = drop_past n xs (omega arith)

pub length_reverse : (xs : List Sort) → length (reverse xs) ≡ length xs
length_reverse xs = length-reverse xs

-- The sort of an expression; Integer if it has none.
abbrev sort_or_integer : Option tree_sort.Sort → tree_sort.Sort
sort_or_integer None = tree_sorts.Integer
sort_or_integer (Some r) = r

abbrev pub sort_given : Scope → Tree → Sort
sort_given c t = sort_of_tree (sort_or_integer (sort_in (variables_of c.process) t))

-- Expressions one after another, on top of this shape.
abbrev pub trees_shape : Scope → List Tree → List Sort → List Sort
trees_shape c [] s = s
trees_shape c (t ∷ ts) s = trees_shape c ts (sort_given c t ∷ s)

trees_count : (c : Scope) (ts : List Tree) (s : List Sort) → length (trees_shape c ts s) ≡ length ts + length s
trees_count c [] s = omega arith
trees_count c (t ∷ ts) s = omega (arith, trees_count c ts (sort_given c t ∷ s))

waiting_more : (n : ℕ) (ts : List Tree) → length ts + n ≤ max n (parameters_depth n ts)
waiting_more n [] = omega arith
waiting_more n (t ∷ ts) = let h = waiting_more (n + 1) ts in let d = depth_some t in omega (arith, h, d)

pub parameter_there : (ps : List Sort) (j : ℕ) → j < length ps → (r : Sort) × (option_to_list (slice_get ps j) ≡ r ∷ [])
parameter_there [] j lt = absurd (omega arith)
parameter_there (p ∷ ps) zero lt = (p, refl)
parameter_there (p ∷ ps) (suc j) lt = parameter_there ps j (omega arith)

module _ (c : Scope) (ss : List DraftSignal) (xs : List DraftVariable) (ps : List Sort)
    (sorted : (n : Identifier) (s : tree_sort.Sort) → IsSome (variable_at c n) → variable_sort (variables_of c.process) n.name ≡ Some s → sort_at xs (number_or_zero (variable_at c n)) ≡ sort_of_tree s ∷ []) where
  abbrev pub L : List Sort → VariableSet → List Instruction → List Sort → VariableSet → ℕ → ℕ → ℕ → Type 0
  L s m code s2 m2 d n e = Leads ss xs ps s m code s2 m2 d n e

  -- An instruction that takes one or two operands and puts one.
  record Two (x : Instruction) (r : Sort) : Type 0 where
    step : IsStep x
    gives : (a b : Sort) (s : List Sort) → after ss xs ps x (a ∷ b ∷ s) ≡ r ∷ s
    keeps : (m : VariableSet) → set_after x m ≡ m
    silent : effects_of x ≡ 0

  record One (x : Instruction) (r : Sort) : Type 0 where
    step : IsStep x
    gives : (a : Sort) (s : List Sort) → after ss xs ps x (a ∷ s) ≡ r ∷ s
    keeps : (m : VariableSet) → set_after x m ≡ m
    silent : effects_of x ≡ 0

  two_leads : (x : Instruction) (r a b : Sort) (s : List Sort) (m : VariableSet) → Two x r → L (a ∷ b ∷ s) m (x ∷ []) (r ∷ s) m (length s + 2) 1 0
  two_leads x r a b s m h =
      let e = h.gives a b s in
      let f = ap length e in
      told ss xs ps (one ss xs ps x (a ∷ b ∷ s) m h.step) e (h.keeps m) (omega (arith, f)) refl h.silent

  one_leads : (x : Instruction) (r a : Sort) (s : List Sort) (m : VariableSet) → One x r → L (a ∷ s) m (x ∷ []) (r ∷ s) m (length s + 1) 1 0
  one_leads x r a s m h =
      let e = h.gives a s in
      let f = ap length e in
      told ss xs ps (one ss xs ps x (a ∷ s) m h.step) e (h.keeps m) (omega (arith, f)) refl h.silent

  unary_one : (op : UnaryOperator) → One (unary_code op) (sort_of_tree (unary_sort op))
  unary_one Negate = record { step = record { jumping = refl; going = λ k. refl }; gives = λ a s. refl; keeps = λ m. refl; silent = refl }
  unary_one Not = record { step = record { jumping = refl; going = λ k. refl }; gives = λ a s. refl; keeps = λ m. refl; silent = refl }

  division_one : (op : BinaryOperator) (k : ℤ) → is_division op ≡ true → One (division_code op k) (sort_of_tree (binary_sort op))
  division_one Divide k e = record { step = record { jumping = refl; going = λ k. refl }; gives = λ a s. refl; keeps = λ m. refl; silent = refl }
  division_one Modulo k e = record { step = record { jumping = refl; going = λ k. refl }; gives = λ a s. refl; keeps = λ m. refl; silent = refl }
  division_one Remainder k e = record { step = record { jumping = refl; going = λ k. refl }; gives = λ a s. refl; keeps = λ m. refl; silent = refl }
  division_one Or k e = absurd (let k : ⊥ = cc in k)
  division_one Xor k e = absurd (let k : ⊥ = cc in k)
  division_one And k e = absurd (let k : ⊥ = cc in k)
  division_one Equal k e = absurd (let k : ⊥ = cc in k)
  division_one NotEqual k e = absurd (let k : ⊥ = cc in k)
  division_one Less k e = absurd (let k : ⊥ = cc in k)
  division_one LessEqual k e = absurd (let k : ⊥ = cc in k)
  division_one Greater k e = absurd (let k : ⊥ = cc in k)
  division_one GreaterEqual k e = absurd (let k : ⊥ = cc in k)
  division_one Add k e = absurd (let k : ⊥ = cc in k)
  division_one Subtract k e = absurd (let k : ⊥ = cc in k)
  division_one Multiply k e = absurd (let k : ⊥ = cc in k)

  binary_two : (b : Bool) (op : BinaryOperator) → is_division op ≡ false → Two (binary_code b op) (sort_of_tree (binary_sort op))
  binary_two b Divide e = absurd (let k : ⊥ = cc in k)
  binary_two b Modulo e = absurd (let k : ⊥ = cc in k)
  binary_two b Remainder e = absurd (let k : ⊥ = cc in k)
  binary_two b Or e = record { step = record { jumping = refl; going = λ k. refl }; gives = λ a b s. refl; keeps = λ m. refl; silent = refl }
  binary_two b Xor e = record { step = record { jumping = refl; going = λ k. refl }; gives = λ a b s. refl; keeps = λ m. refl; silent = refl }
  binary_two b And e = record { step = record { jumping = refl; going = λ k. refl }; gives = λ a b s. refl; keeps = λ m. refl; silent = refl }
  binary_two true Equal e = record { step = record { jumping = refl; going = λ k. refl }; gives = λ a b s. refl; keeps = λ m. refl; silent = refl }
  binary_two false Equal e = record { step = record { jumping = refl; going = λ k. refl }; gives = λ a b s. refl; keeps = λ m. refl; silent = refl }
  binary_two true NotEqual e = record { step = record { jumping = refl; going = λ k. refl }; gives = λ a b s. refl; keeps = λ m. refl; silent = refl }
  binary_two false NotEqual e = record { step = record { jumping = refl; going = λ k. refl }; gives = λ a b s. refl; keeps = λ m. refl; silent = refl }
  binary_two b Less e = record { step = record { jumping = refl; going = λ k. refl }; gives = λ a b s. refl; keeps = λ m. refl; silent = refl }
  binary_two b LessEqual e = record { step = record { jumping = refl; going = λ k. refl }; gives = λ a b s. refl; keeps = λ m. refl; silent = refl }
  binary_two b Greater e = record { step = record { jumping = refl; going = λ k. refl }; gives = λ a b s. refl; keeps = λ m. refl; silent = refl }
  binary_two b GreaterEqual e = record { step = record { jumping = refl; going = λ k. refl }; gives = λ a b s. refl; keeps = λ m. refl; silent = refl }
  binary_two b Add e = record { step = record { jumping = refl; going = λ k. refl }; gives = λ a b s. refl; keeps = λ m. refl; silent = refl }
  binary_two b Subtract e = record { step = record { jumping = refl; going = λ k. refl }; gives = λ a b s. refl; keeps = λ m. refl; silent = refl }
  binary_two b Multiply e = record { step = record { jumping = refl; going = λ k. refl }; gives = λ a b s. refl; keeps = λ m. refl; silent = refl }

  -- An instruction that takes no operand and puts one.
  put_leads : (x : Instruction) (r : Sort) (s : List Sort) (m : VariableSet) → IsStep x → after ss xs ps x s ≡ r ∷ s → set_after x m ≡ m → effects_of x ≡ 0 → L s m (x ∷ []) (r ∷ s) m (length s + 1) 1 0
  put_leads x r s m step e f g =
      let l = ap length e in
      told ss xs ps (one ss xs ps x s m step) e f (omega (arith, l)) refl g

  load_leads : (v : ℕ) (r : Sort) (s : List Sort) (m : VariableSet) → sort_at xs v ≡ r ∷ [] → L s m (load v ∷ []) (r ∷ s) m (length s + 1) 1 0
  load_leads v r s m e = put_leads (load v) r s m (record { jumping = refl; going = λ k. refl }) (ap (λ l. l ++ s) e) refl refl

  store_leads : (v : ℕ) (r a : Sort) (s : List Sort) (m : VariableSet) → sort_at xs v ≡ r ∷ [] → L (a ∷ s) m (store v ∷ []) s (with_variable m v) (length s + 1) 1 0
  store_leads v r a s m e =
      let f : after ss xs ps (store v) (a ∷ s) ≡ s = ap (λ l. drop (length l) (a ∷ s)) e in
      let l = ap length f in
      told ss xs ps (one ss xs ps (store v) (a ∷ s) m (record { jumping = refl; going = λ k. refl })) f refl (omega (arith, l)) refl refl

  -- ---- expressions

  pub tree_leads : (t : Tree) (r : tree_sort.Sort) (s : List Sort) (m : VariableSet) → NamedTree c t → sort_in (variables_of c.process) t ≡ Some r → L s m (tree_code c t) (sort_of_tree r ∷ s) m (length s + depth_of t) (cost_of t) 0
  tree_leads (number at k) r s m named e =
      let f : tree_sorts.Integer ≡ r = cc in
      put_leads (i.Int (wrap (pos k))) (sort_of_tree r) s m (record { jumping = refl; going = λ k. refl }) (ap (λ r. sort_of_tree r ∷ s) f) refl refl
  tree_leads (truth at b) r s m named e =
      let f : tree_sorts.Boolean ≡ r = cc in
      put_leads (i.Bool b) (sort_of_tree r) s m (record { jumping = refl; going = λ k. refl }) (ap (λ r. sort_of_tree r ∷ s) f) refl refl
  tree_leads (variable at n) r s m named e = load_leads (number_or_zero (variable_at c n)) (sort_of_tree r) s m (sorted n r named e)
  tree_leads (unary at op t) r s m named e =
      let f : unary_sort op ≡ r = cc in
      let h = tree_has_sort c t named in
      let deep = depth_some t in
      told ss xs ps (joined ss xs ps (tree_leads t h.sort s m named h.is) (one_leads (unary_code op) (sort_of_tree (unary_sort op)) (sort_of_tree h.sort) s m (unary_one op)))
      (ap (λ r. sort_of_tree r ∷ s) f) refl (omega (arith, deep)) refl refl
  tree_leads (binary at op t u) r s m named e =
      let h = tree_has_sort c t named.0 in
      let g = tree_has_sort c u named.1 in
      by_division (is_division op) refl h.sort g.sort (tree_leads t h.sort s m named.0 h.is) (tree_leads u g.sort (sort_of_tree h.sort ∷ s) m named.1 g.is)
    where
      f : binary_sort op ≡ r
      f = cc

      by_division : (b : Bool) → is_division op ≡ b → (h g : tree_sort.Sort) → L s m (tree_code c t) (sort_of_tree h ∷ s) m (length s + depth_of t) (cost_of t) 0
          → L (sort_of_tree h ∷ s) m (tree_code c u) (sort_of_tree g ∷ sort_of_tree h ∷ s) m (length (sort_of_tree h ∷ s) + depth_of u) (cost_of u) 0
          → L s m (cond b (tree_code c t ++ division_code op (divisor_of u) ∷ []) (tree_code c t ++ (tree_code c u ++ binary_code (is_truth c t) op ∷ []))) (sort_of_tree r ∷ s) m (length s + max (depth_of t) (cond b 0 (1 + depth_of u))) (cost_of t + cond b 0 (cost_of u) + 1) 0
      by_division true d h g first second =
          let deep = depth_some t in
          told ss xs ps (joined ss xs ps first (one_leads (division_code op (divisor_of u)) (sort_of_tree (binary_sort op)) (sort_of_tree h) s m (division_one op (divisor_of u) d)))
          (ap (λ r. sort_of_tree r ∷ s) f) refl (omega (arith, deep)) (omega arith) refl
      by_division false d h g first second =
          let deep = depth_some u in
          let last = two_leads (binary_code (is_truth c t) op) (sort_of_tree (binary_sort op)) (sort_of_tree g) (sort_of_tree h) s m (binary_two (is_truth c t) op d) in
          told ss xs ps (joined ss xs ps first (joined ss xs ps second last)) (ap (λ r. sort_of_tree r ∷ s) f) refl (omega (arith, deep)) (omega arith) refl

  pub this_sort : (t : Tree) (r : tree_sort.Sort) → sort_in (variables_of c.process) t ≡ Some r → sort_of_tree r ≡ sort_given c t
  this_sort t r e = sym (ap (λ o. sort_of_tree (sort_or_integer o)) e)

  pub trees_leads : (ts : List Tree) (s : List Sort) (m : VariableSet) → NamedTrees c ts → L s m (trees_code c ts) (trees_shape c ts s) m (max (length s) (parameters_depth (length s) ts)) (sum_by cost_of ts) 0
  trees_leads [] s m named = told ss xs ps (none ss xs ps s m) refl refl (omega arith) refl refl
  trees_leads (t ∷ ts) s m named =
      let h = tree_has_sort c t named.0 in
      let first = told ss xs ps (tree_leads t h.sort s m named.0 h.is) (ap (λ r. r ∷ s) (this_sort t h.sort h.is)) refl refl refl refl in
      let deep = depth_some t in
      let n : suc (length s) ≡ length s + 1 = omega arith in
      let waits : parameters_depth (suc (length s)) ts ≡ parameters_depth (length s + 1) ts = ap (λ n. parameters_depth n ts) n in
      told ss xs ps (joined ss xs ps first (trees_leads ts (sort_given c t ∷ s) m named.1)) refl refl (omega (arith, deep, waits)) (omega (arith, sum_by-cons cost_of t ts)) refl

  -- ---- actions

  pub put_out : (n : ℕ) (to : Receiver) (ts : List Tree) (m : VariableSet) → length (parameters_of (slice_get ss n)) ≡ length ts → L (trees_shape c ts []) m (put n to (length ts) ∷ []) [] m (length ts) 1 1
  put_out n to ts m e =
      let takes = reverse (parameters_of (slice_get ss n)) in
      let l = length_reverse (parameters_of (slice_get ss n)) in
      let k = trees_count c ts [] in
      let f : drop (length takes) (trees_shape c ts []) ≡ [] = drop_past (length takes) (trees_shape c ts []) (omega (arith, l, e, k)) in
      let g = ap length f in
      told ss xs ps (one ss xs ps (put n to (length ts)) (trees_shape c ts []) m (record { jumping = refl; going = λ k. refl })) f refl (omega (arith, k, g)) refl refl

  pub sendings_leads : (to : Option Destination) (list : List PlainSending) (m : VariableSet) → NamedSendings c to list → Counted c ss list → L [] m (sendings_code c to list) [] m (sendings_depth list) (sendings_cost list) (length list)
  sendings_leads to [] m named counted = none ss xs ps [] m
  sendings_leads to (x ∷ rest) m named counted =
      let ts = x.parameters in
      let trees = trees_leads ts [] m named.0.parameters in
      let put = put_out (number_or_zero (signal_at c x.signal)) (receiver_code c to x.signal) ts m counted.0 in
      let deep = waiting_more 0 ts in
      told ss xs ps (joined ss xs ps trees (joined ss xs ps put (sendings_leads to rest m named.1 counted.1))) refl refl (omega (arith, deep)) (omega (arith, sum_by-cons sending_cost x rest)) (omega arith)

  pub variable_store : (n : Identifier) (a : Sort) (s : List Sort) (m : VariableSet) → IsSome (variable_at c n) → L (a ∷ s) m (store (number_or_zero (variable_at c n)) ∷ []) s (with_variable m (number_or_zero (variable_at c n))) (length s + 1) 1 0
  variable_store n a s m some =
      let h = variable_has_sort (variables_of c.process) n.name some in
      store_leads (number_or_zero (variable_at c n)) (sort_of_tree h.sort) a s m (sorted n h.sort some h.is)

  pub tasks_leads : (ts : List PlainAssignment) (m : VariableSet) → NamedTasks c ts → L [] m (tasks_code c ts) [] (tasks_set c m ts) (assignments_depth ts) (assignments_cost ts) 0
  tasks_leads [] m named = none ss xs ps [] m
  tasks_leads (a ∷ rest) m named =
      let h = tree_has_sort c a.value named.0 in
      let value = tree_leads a.value h.sort [] m named.0 h.is in
      let set = variable_store a.variable (sort_of_tree h.sort) [] m named.1 in
      let deep = depth_some a.value in
      told ss xs ps (joined ss xs ps value (joined ss xs ps set (tasks_leads rest (with_variable m (number_or_zero (variable_at c a.variable))) named.2)))
      refl refl (omega (arith, deep)) (omega (arith, sum_by-cons assignment_cost a rest)) refl

  pub timer_leads : (n : ℕ) (a : Sort) (m : VariableSet) → L (a ∷ []) m (set_to n ∷ []) [] m 1 1 1
  timer_leads n a m = one ss xs ps (set_to n) (a ∷ []) m (record { jumping = refl; going = λ k. refl })

  pub action_leads : (a : PlainAction) (m : VariableSet) → NamedAction c a → CountedAction c ss a → L [] m (action_code c a) [] (action_set c m a) (action_depth a) (action_cost a) (action_effects a)
  action_leads (task at ts) m named counted = tasks_leads ts m named
  action_leads (output at list to) m named counted = sendings_leads to list m named counted
  action_leads (set_timer at t n) m named counted =
      let h = tree_has_sort c t named.0 in
      let deep = depth_some t in
      told ss xs ps (joined ss xs ps (tree_leads t h.sort [] m named.0 h.is) (timer_leads (number_or_zero (timer_at c n)) (sort_of_tree h.sort) m)) refl refl (omega (arith, deep)) refl refl
  action_leads (reset_timer at n) m named counted = one ss xs ps (reset (number_or_zero (timer_at c n))) [] m (record { jumping = refl; going = λ k. refl })

  -- ---- the places of INPUT

  pub param_leads : (j : ℕ) (m : VariableSet) → (r : Sort) → option_to_list (slice_get ps j) ≡ r ∷ [] → L [] m (i.Param j ∷ []) (r ∷ []) m 1 1 0
  param_leads j m r e = put_leads (i.Param j) r [] m (record { jumping = refl; going = λ k. refl }) (ap (λ l. l ++ []) e) refl refl

  pub places_leads : (places : List (Option Identifier)) (j : ℕ) (m : VariableSet) → NamedPlaces c places → j + length places ≤ length ps → L [] m (places_code c j places) [] (places_set c m places) (places_depth places) (places_cost places) 0
  places_leads [] j m named le = none ss xs ps [] m
  places_leads (None ∷ places) j m named le =
      told ss xs ps (places_leads places (j + 1) m named (omega (arith, le))) refl refl (omega arith) (omega (arith, sum_by-cons place_cost None places)) refl
  places_leads (Some n ∷ places) j m named le =
      let p = parameter_there ps j (omega (arith, le)) in
      let rest = places_leads places (j + 1) (with_variable m (number_or_zero (variable_at c n))) named.1 (omega (arith, le)) in
      told ss xs ps (joined ss xs ps (param_leads j m p.0 p.1) (joined ss xs ps (variable_store n p.0 [] m named.0) rest))
      refl refl (omega arith) (omega (arith, sum_by-cons place_cost (Some n) places)) refl
