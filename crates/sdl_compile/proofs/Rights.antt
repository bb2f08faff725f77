-- The claims about the places of a piece are right: each instruction finds its operands, and its names exist.
use Rattle.std.proofs.Common.{◌≡◌, ℕ, ◌+◌, ◌<◌, ◌≤◌, ℤ, pos, ◌≤ℤ◌, Bool, true, false, not, cond, ◌&&◌, List, [], ◌∷◌, ◌++◌, length, Option, Some, IsSome, refl, sym, ap, ◌∙◌, subst, arith, nat_lt, nat_le}
use Rattle.std.specs.Prelude.{All, Contains, FitsSigned}
use Rattle.std.specs.List.{flat_map}
use Rattle.std.proofs.lemmas.Bool.Decides.{nat_tests}
use Rattle.std.proofs.lemmas.Int.{ints, int_wrap_fits}
use Rattle.std.specs.Int.{w32}
use Rattle.std.proofs.lemmas.List.Elements.{All-nil, All-cons, All-contains}
use Rattle.sdl_lex.specs.Limits.{GREATEST_NUMBER}
use Rattle.sdl_ast.specs.declared.expression.Identifier.{Identifier}
use Rattle.sdl_ast.specs.declared.expression.UnaryOperator.{UnaryOperator}
use Rattle.sdl_ast.specs.declared.expression.UnaryOperator.TheVariants.{Negate, Not}
use Rattle.sdl_ast.specs.declared.expression.BinaryOperator.{BinaryOperator}
use Rattle.sdl_ast.specs.declared.expression.BinaryOperator.TheVariants.{Or, Xor, And, Equal, NotEqual, Less, LessEqual, Greater, GreaterEqual, Add, Subtract, Multiply, Divide, Modulo, Remainder}
use Rattle.sdl_ast.specs.declared.tree.Sort as tree_sort
use Rattle.sdl_ast.specs.declared.tree.Sort.TheVariants as tree_sorts
use Rattle.sdl_ast.specs.Plain.{Tree, number, truth, variable, unary, binary}
use Rattle.sdl_ast.specs.Places.{place_of}
use Rattle.turn_code.specs.declared.value.Sort.{Sort}
use Rattle.turn_code.specs.declared.value.Sort.TheVariants.{Integer, Boolean}
use Rattle.turn_code.specs.declared.instruction.Instruction.{Instruction}
use Rattle.turn_code.specs.declared.instruction.Instruction.TheVariants as i
use Rattle.turn_code.specs.declared.variable_set.VariableSet.{VariableSet}
use Rattle.turn_code.specs.declared.draft.Draft.{Draft}
use Rattle.turn_code.specs.Sets.{Has}
use Rattle.turn_code.specs.Values.{wrap}
use Rattle.turn_code.specs.Code.{sort_at, takes, reads, sets, parameters_in, timers_in, divisors_in, states_in}
use Rattle.turn_code.specs.Transitions.{Transition}
use Rattle.turn_code.specs.Rules.{Agree, KeepsOutput}
use Rattle.sdl_tables.specs.Names.{Variable, variables_of}
use Rattle.sdl_sound.specs.Sorts.{unary_sort, operand_sort, variable_sort, has_sort, sort_in, misfit, wrong_operands, wrong_in}
use Rattle.sdl_sound.specs.Divisors.{divides, is_divisor, bad_divisor, bad_divisors_in}
use Rattle.sdl_sound.specs.Longest.{is_division, cost_of, depth_of}
use Rattle.sdl_meaning.specs.Act.{is_truth, divisor_of}
use Rattle.sdl_meaning.specs.Outcomes.{Scope, variable_at}
use Rattle.sdl_meaning.specs.Code.{number_or_zero, load, store, unary_code, binary_code, division_code, tree_code, trees_code}
use Rattle.sdl_meaning.specs.Named.{NamedTree, NamedTrees}
use Rattle.sdl_meaning.specs.Declarations.{sort_of_tree}
use Rattle.sdl_compile.specs.Reads.{ReadTree, ReadTrees}
use Rattle.sdl_meaning.proofs.Sorting.{fits, tree_has_sort}
use Rattle.sdl_compile.proofs.Straight.{IsRight, AreRight}
use Rattle.sdl_compile.proofs.PlaceStretches.{Leads, right_joined}
use Rattle.sdl_compile.proofs.Shapes.{tree_leads}
use Rattle.plain_laws.proofs.Lists.{append-nil_left as nil_front, append-nil_right as nil_back}

pub one_of : (P : ℕ → Type 0) (v : ℕ) → P v → All P (v ∷ [])
one_of P v h = All-cons P v [] h (All-nil P)

pub none_in : {A : Type 0} (q : ℕ) → Contains [] q → A
none_in {A} q h = All-contains (λ _. A) [] q (All-nil (λ _. A)) h

-- A number that a token may have is unchanged when cut to 32 bits.
small_number : (k : ℕ) → k ≤ 2147483647 → wrap (pos k) ≡ pos k
small_number k le = int_wrap_fits w32 (pos k) (let fits : FitsSigned w32 (pos k) = omega (arith, ints, le) in fits)

positive : (k : ℕ) → nat_lt 0 k && nat_le k GREATEST_NUMBER ≡ true → pos 1 ≤ℤ wrap (pos k)
positive k e =
    let a : 0 < k = grind (arith, nat_tests) in
    let b : k ≤ 2147483647 = grind (arith, nat_tests) in
    subst (λ z. pos 1 ≤ℤ z) (sym (small_number k b)) (let g : pos 1 ≤ℤ pos k = omega (arith, ints, a) in g)

divisor_positive : (t : Tree) → is_divisor t ≡ true → pos 1 ≤ℤ divisor_of t
divisor_positive (number at k) e = positive k e
divisor_positive (truth at b) e = absurd (let k : ⊥ = cc in k)
divisor_positive (variable at n) e = absurd (let k : ⊥ = cc in k)
divisor_positive (unary at op t) e = absurd (let k : ⊥ = cc in k)
divisor_positive (binary at op t u) e = absurd (let k : ⊥ = cc in k)

-- There is no bad divisor after a division.
same_question : (op : BinaryOperator) → divides op ≡ is_division op
same_question Or = refl
same_question Xor = refl
same_question And = refl
same_question Equal = refl
same_question NotEqual = refl
same_question Less = refl
same_question LessEqual = refl
same_question Greater = refl
same_question GreaterEqual = refl
same_question Add = refl
same_question Subtract = refl
same_question Multiply = refl
same_question Divide = refl
same_question Modulo = refl
same_question Remainder = refl

good_divisor : (op : BinaryOperator) (u : Tree) → is_division op ≡ true → bad_divisor op u ≡ [] → is_divisor u ≡ true
good_divisor op u d e = by_test (divides op) (is_divisor u) (same_question op ∙ d) (place_of u) e
  where
    by_test : (a b : Bool) → a ≡ true → (at : ℕ) → cond (a && not b) (at ∷ []) [] ≡ [] → b ≡ true
    by_test true true f at e = refl
    by_test true false f at e = absurd (let k : ⊥ = cc in k)
    by_test false b f at e = absurd (let k : ⊥ = cc in k)

module _ (c : Scope) (d : Draft) (t : Transition)
    (sorted : (n : Identifier) (r : tree_sort.Sort) → IsSome (variable_at c n) → variable_sort (variables_of c.process) n.name ≡ Some r → sort_at t.process.variables (number_or_zero (variable_at c n)) ≡ sort_of_tree r ∷ [])
    (small : (n : Identifier) → IsSome (variable_at c n) → number_or_zero (variable_at c n) < length t.process.variables) where
  abbrev vs : List Variable
  vs = variables_of c.process

  abbrev pub R : List Sort → VariableSet → List Instruction → Type 0
  R s m code = AreRight d t s m code

  abbrev taken : Instruction → List Sort
  taken x = takes d.signals t.process.variables x

  -- an instruction that names nothing
  pub record IsPlain (x : Instruction) : Type 0 where
    pub reads_none : reads x ≡ []
    pub sets_none : sets x ≡ []
    pub states_none : states_in x ≡ []
    pub parameters_none : parameters_in x ≡ []
    pub timers_none : timers_in x ≡ []
    pub divisors_none : divisors_in x ≡ []
    pub output_none : KeepsOutput d t x

  pub plain_right : (x : Instruction) (s : List Sort) (m : VariableSet) → IsPlain x → length (taken x) ≤ length s → Agree (taken x) s → IsRight d t s m x
  plain_right x s m h under sort = record {
    under = under;
    sort = sort;
    reads_set = subst (All (Has m)) (sym h.reads_none) (All-nil (Has m));
    states = λ n st k. none_in n (subst (λ l. Contains l n) h.states_none k);
    states_there = subst (All (λ q. q < length t.process.states)) (sym h.states_none) (All-nil (λ q. q < length t.process.states));
    reads_there = subst (All (λ v. v < length t.process.variables)) (sym h.reads_none) (All-nil (λ v. v < length t.process.variables));
    sets_there = subst (All (λ v. v < length t.process.variables)) (sym h.sets_none) (All-nil (λ v. v < length t.process.variables));
    parameters = subst (All (λ j. j < length t.parameters)) (sym h.parameters_none) (All-nil (λ j. j < length t.parameters));
    timers = subst (All (λ n. n < length t.process.timers)) (sym h.timers_none) (All-nil (λ n. n < length t.process.timers));
    divisors = subst (All (λ z. pos 1 ≤ℤ z)) (sym h.divisors_none) (All-nil (λ z. pos 1 ≤ℤ z));
    outputs = h.output_none;
  }

  load_right : (v : ℕ) (s : List Sort) (m : VariableSet) → v < length t.process.variables → Has m v → R s m (load v ∷ [])
  load_right v s m lt has = (
    record {
      under = omega arith;
      sort = tt;
      reads_set = one_of (Has m) v has;
      states = λ n st h. none_in n h;
      states_there = All-nil (λ q. q < length t.process.states);
      reads_there = one_of (λ v. v < length t.process.variables) v lt;
      sets_there = All-nil (λ v. v < length t.process.variables);
      parameters = All-nil (λ j. j < length t.parameters);
      timers = All-nil (λ n. n < length t.process.timers);
      divisors = All-nil (λ z. pos 1 ≤ℤ z);
      outputs = tt;
    },
    tt,
  )

  pub store_right : (v : ℕ) (r : Sort) (s : List Sort) (m : VariableSet) → v < length t.process.variables → sort_at t.process.variables v ≡ r ∷ [] → R (r ∷ s) m (store v ∷ [])
  store_right v r s m lt e = (
    record {
      under = omega (arith, ap length e);
      sort = subst (λ l. Agree l (r ∷ s)) (sym e) (refl, tt);
      reads_set = All-nil (Has m);
      states = λ n st h. none_in n h;
      states_there = All-nil (λ q. q < length t.process.states);
      reads_there = All-nil (λ v. v < length t.process.variables);
      sets_there = one_of (λ v. v < length t.process.variables) v lt;
      parameters = All-nil (λ j. j < length t.parameters);
      timers = All-nil (λ n. n < length t.process.timers);
      divisors = All-nil (λ z. pos 1 ≤ℤ z);
      outputs = tt;
    },
    tt,
  )

  unary_right : (op : UnaryOperator) (s : List Sort) (m : VariableSet) → R (sort_of_tree (unary_sort op) ∷ s) m (unary_code op ∷ [])
  unary_right Negate s m = (plain_right i.Neg (Integer ∷ s) m (record { reads_none = refl; sets_none = refl; states_none = refl; parameters_none = refl; timers_none = refl; divisors_none = refl; output_none = tt }) (omega arith) (refl, tt), tt)
  unary_right Not s m = (plain_right i.Not (Boolean ∷ s) m (record { reads_none = refl; sets_none = refl; states_none = refl; parameters_none = refl; timers_none = refl; divisors_none = refl; output_none = tt }) (omega arith) (refl, tt), tt)

  -- The operands that a binary operator takes, if the left one has sort r.
  record Takes (op : BinaryOperator) (r : tree_sort.Sort) : Type 0 where
    want : tree_sort.Sort
    operand : operand_sort op (Some r) ≡ Some want
    two : taken (binary_code (has_sort tree_sorts.Boolean (Some r)) op) ≡ sort_of_tree want ∷ sort_of_tree want ∷ []
    plain : IsPlain (binary_code (has_sort tree_sorts.Boolean (Some r)) op)

  binary_takes : (op : BinaryOperator) (r : tree_sort.Sort) → is_division op ≡ false → Takes op r
  binary_takes Divide r e = absurd (let k : ⊥ = cc in k)
  binary_takes Modulo r e = absurd (let k : ⊥ = cc in k)
  binary_takes Remainder r e = absurd (let k : ⊥ = cc in k)
  binary_takes Or r e = record { want = tree_sorts.Boolean; operand = refl; two = refl; plain = (record { reads_none = refl; sets_none = refl; states_none = refl; parameters_none = refl; timers_none = refl; divisors_none = refl; output_none = tt }) }
  binary_takes Xor r e = record { want = tree_sorts.Boolean; operand = refl; two = refl; plain = (record { reads_none = refl; sets_none = refl; states_none = refl; parameters_none = refl; timers_none = refl; divisors_none = refl; output_none = tt }) }
  binary_takes And r e = record { want = tree_sorts.Boolean; operand = refl; two = refl; plain = (record { reads_none = refl; sets_none = refl; states_none = refl; parameters_none = refl; timers_none = refl; divisors_none = refl; output_none = tt }) }
  binary_takes Equal tree_sorts.Integer e = record { want = tree_sorts.Integer; operand = refl; two = refl; plain = (record { reads_none = refl; sets_none = refl; states_none = refl; parameters_none = refl; timers_none = refl; divisors_none = refl; output_none = tt }) }
  binary_takes Equal tree_sorts.Boolean e = record { want = tree_sorts.Boolean; operand = refl; two = refl; plain = (record { reads_none = refl; sets_none = refl; states_none = refl; parameters_none = refl; timers_none = refl; divisors_none = refl; output_none = tt }) }
  binary_takes NotEqual tree_sorts.Integer e = record { want = tree_sorts.Integer; operand = refl; two = refl; plain = (record { reads_none = refl; sets_none = refl; states_none = refl; parameters_none = refl; timers_none = refl; divisors_none = refl; output_none = tt }) }
  binary_takes NotEqual tree_sorts.Boolean e = record { want = tree_sorts.Boolean; operand = refl; two = refl; plain = (record { reads_none = refl; sets_none = refl; states_none = refl; parameters_none = refl; timers_none = refl; divisors_none = refl; output_none = tt }) }
  binary_takes Less r e = record { want = tree_sorts.Integer; operand = refl; two = refl; plain = (record { reads_none = refl; sets_none = refl; states_none = refl; parameters_none = refl; timers_none = refl; divisors_none = refl; output_none = tt }) }
  binary_takes LessEqual r e = record { want = tree_sorts.Integer; operand = refl; two = refl; plain = (record { reads_none = refl; sets_none = refl; states_none = refl; parameters_none = refl; timers_none = refl; divisors_none = refl; output_none = tt }) }
  binary_takes Greater r e = record { want = tree_sorts.Integer; operand = refl; two = refl; plain = (record { reads_none = refl; sets_none = refl; states_none = refl; parameters_none = refl; timers_none = refl; divisors_none = refl; output_none = tt }) }
  binary_takes GreaterEqual r e = record { want = tree_sorts.Integer; operand = refl; two = refl; plain = (record { reads_none = refl; sets_none = refl; states_none = refl; parameters_none = refl; timers_none = refl; divisors_none = refl; output_none = tt }) }
  binary_takes Add r e = record { want = tree_sorts.Integer; operand = refl; two = refl; plain = (record { reads_none = refl; sets_none = refl; states_none = refl; parameters_none = refl; timers_none = refl; divisors_none = refl; output_none = tt }) }
  binary_takes Subtract r e = record { want = tree_sorts.Integer; operand = refl; two = refl; plain = (record { reads_none = refl; sets_none = refl; states_none = refl; parameters_none = refl; timers_none = refl; divisors_none = refl; output_none = tt }) }
  binary_takes Multiply r e = record { want = tree_sorts.Integer; operand = refl; two = refl; plain = (record { reads_none = refl; sets_none = refl; states_none = refl; parameters_none = refl; timers_none = refl; divisors_none = refl; output_none = tt }) }

  two_right : (x : Instruction) (w : Sort) (s : List Sort) (m : VariableSet) → IsPlain x → taken x ≡ w ∷ w ∷ [] → R (w ∷ w ∷ s) m (x ∷ [])
  two_right x w s m h e = (plain_right x (w ∷ w ∷ s) m h (omega (arith, ap length e)) (subst (λ l. Agree l (w ∷ w ∷ s)) (sym e) (refl, (refl, tt))), tt)

  divide_right : (op : BinaryOperator) (k : ℤ) (s : List Sort) (m : VariableSet) → is_division op ≡ true → pos 1 ≤ℤ k → R (Integer ∷ s) m (division_code op k ∷ [])
  divide_right Divide k s m e p = (
    record {
      under = omega arith;
      sort = (refl, tt);
      reads_set = All-nil (Has m);
      states = λ n st h. none_in n h;
      states_there = All-nil (λ q. q < length t.process.states);
      reads_there = All-nil (λ v. v < length t.process.variables);
      sets_there = All-nil (λ v. v < length t.process.variables);
      parameters = All-nil (λ j. j < length t.parameters);
      timers = All-nil (λ n. n < length t.process.timers);
      divisors = All-cons (λ z. pos 1 ≤ℤ z) k [] p (All-nil (λ z. pos 1 ≤ℤ z));
      outputs = tt;
    },
    tt,
  )
  divide_right Modulo k s m e p = (
    record {
      under = omega arith;
      sort = (refl, tt);
      reads_set = All-nil (Has m);
      states = λ n st h. none_in n h;
      states_there = All-nil (λ q. q < length t.process.states);
      reads_there = All-nil (λ v. v < length t.process.variables);
      sets_there = All-nil (λ v. v < length t.process.variables);
      parameters = All-nil (λ j. j < length t.parameters);
      timers = All-nil (λ n. n < length t.process.timers);
      divisors = All-cons (λ z. pos 1 ≤ℤ z) k [] p (All-nil (λ z. pos 1 ≤ℤ z));
      outputs = tt;
    },
    tt,
  )
  divide_right Remainder k s m e p = (
    record {
      under = omega arith;
      sort = (refl, tt);
      reads_set = All-nil (Has m);
      states = λ n st h. none_in n h;
      states_there = All-nil (λ q. q < length t.process.states);
      reads_there = All-nil (λ v. v < length t.process.variables);
      sets_there = All-nil (λ v. v < length t.process.variables);
      parameters = All-nil (λ j. j < length t.parameters);
      timers = All-nil (λ n. n < length t.process.timers);
      divisors = All-cons (λ z. pos 1 ≤ℤ z) k [] p (All-nil (λ z. pos 1 ≤ℤ z));
      outputs = tt;
    },
    tt,
  )
  divide_right Or k s m e p = absurd (let k : ⊥ = cc in k)
  divide_right Xor k s m e p = absurd (let k : ⊥ = cc in k)
  divide_right And k s m e p = absurd (let k : ⊥ = cc in k)
  divide_right Equal k s m e p = absurd (let k : ⊥ = cc in k)
  divide_right NotEqual k s m e p = absurd (let k : ⊥ = cc in k)
  divide_right Less k s m e p = absurd (let k : ⊥ = cc in k)
  divide_right LessEqual k s m e p = absurd (let k : ⊥ = cc in k)
  divide_right Greater k s m e p = absurd (let k : ⊥ = cc in k)
  divide_right GreaterEqual k s m e p = absurd (let k : ⊥ = cc in k)
  divide_right Add k s m e p = absurd (let k : ⊥ = cc in k)
  divide_right Subtract k s m e p = absurd (let k : ⊥ = cc in k)
  divide_right Multiply k s m e p = absurd (let k : ⊥ = cc in k)

  -- A division takes an Integer.
  division_wants : (op : BinaryOperator) (o : Option tree_sort.Sort) → is_division op ≡ true → operand_sort op o ≡ Some tree_sorts.Integer
  division_wants Divide o e = refl
  division_wants Modulo o e = refl
  division_wants Remainder o e = refl
  division_wants Or o e = absurd (let k : ⊥ = cc in k)
  division_wants Xor o e = absurd (let k : ⊥ = cc in k)
  division_wants And o e = absurd (let k : ⊥ = cc in k)
  division_wants Equal o e = absurd (let k : ⊥ = cc in k)
  division_wants NotEqual o e = absurd (let k : ⊥ = cc in k)
  division_wants Less o e = absurd (let k : ⊥ = cc in k)
  division_wants LessEqual o e = absurd (let k : ⊥ = cc in k)
  division_wants Greater o e = absurd (let k : ⊥ = cc in k)
  division_wants GreaterEqual o e = absurd (let k : ⊥ = cc in k)
  division_wants Add o e = absurd (let k : ⊥ = cc in k)
  division_wants Subtract o e = absurd (let k : ⊥ = cc in k)
  division_wants Multiply o e = absurd (let k : ⊥ = cc in k)

  -- ---- expressions

  leads : (u : Tree) (r : tree_sort.Sort) (s : List Sort) (m : VariableSet) → NamedTree c u → sort_in vs u ≡ Some r → Leads d.signals t.process.variables t.parameters s m (tree_code c u) (sort_of_tree r ∷ s) m (length s + depth_of u) (cost_of u) 0
  leads u r s m named e = tree_leads c d.signals t.process.variables t.parameters sorted u r s m named e

  pub tree_right : (u : Tree) (s : List Sort) (m : VariableSet) → NamedTree c u → wrong_in vs u ≡ [] → bad_divisors_in u ≡ [] → ReadTree c m u → R s m (tree_code c u)
  tree_right (number at k) s m named w b read = (plain_right (i.Int (wrap (pos k))) s m (record { reads_none = refl; sets_none = refl; states_none = refl; parameters_none = refl; timers_none = refl; divisors_none = refl; output_none = tt }) (omega arith) tt, tt)
  tree_right (truth at k) s m named w b read = (plain_right (i.Bool k) s m (record { reads_none = refl; sets_none = refl; states_none = refl; parameters_none = refl; timers_none = refl; divisors_none = refl; output_none = tt }) (omega arith) tt, tt)
  tree_right (variable at n) s m named w b read = load_right (number_or_zero (variable_at c n)) s m (small n named) read
  tree_right (unary at op u) s m named w b read =
      let inner = nil_front (wrong_in vs u) (misfit vs (Some (unary_sort op)) u) w in
      let e = fits vs (unary_sort op) u (nil_back (wrong_in vs u) (misfit vs (Some (unary_sort op)) u) w) in
      right_joined d t (unary_code op ∷ []) (leads u (unary_sort op) s m named e) (tree_right u s m named inner b read) (unary_right op s m)
  tree_right (binary at op u v) s m named w b read =
      let h = tree_has_sort c u named.0 in
      let rest = wrong_in vs v ++ wrong_operands vs op u v in
      let behind = nil_back (wrong_in vs u) rest w in
      let operands = nil_back (wrong_in vs v) (wrong_operands vs op u v) behind in
      let divisors = nil_back (bad_divisors_in u) (bad_divisors_in v ++ bad_divisor op v) b in
      by_division (is_division op) refl h.sort h.is operands (nil_back (bad_divisors_in v) (bad_divisor op v) divisors)
      (tree_right u s m named.0 (nil_front (wrong_in vs u) rest w) (nil_front (bad_divisors_in u) (bad_divisors_in v ++ bad_divisor op v) b) read.0)
      (λ s. tree_right v s m named.1 (nil_front (wrong_in vs v) (wrong_operands vs op u v) behind) (nil_front (bad_divisors_in v) (bad_divisor op v) divisors) read.1)
    where
      want : tree_sort.Sort → tree_sort.Sort → Type 0
      want r w = operand_sort op (Some r) ≡ Some w

      left_fits : (r w : tree_sort.Sort) → sort_in vs u ≡ Some r → want r w → wrong_operands vs op u v ≡ [] → sort_in vs u ≡ Some w
      left_fits r w e f k =
          let o = ap (operand_sort op) e ∙ f in
          fits vs w u (subst (λ o. misfit vs o u ≡ []) o (nil_front (misfit vs (operand_sort op (sort_in vs u)) u) (misfit vs (operand_sort op (sort_in vs u)) v) k))

      right_fits : (r w : tree_sort.Sort) → sort_in vs u ≡ Some r → want r w → wrong_operands vs op u v ≡ [] → sort_in vs v ≡ Some w
      right_fits r w e f k =
          let o = ap (operand_sort op) e ∙ f in
          fits vs w v (subst (λ o. misfit vs o v ≡ []) o (nil_back (misfit vs (operand_sort op (sort_in vs u)) u) (misfit vs (operand_sort op (sort_in vs u)) v) k))

      by_division : (b : Bool) → is_division op ≡ b → (r : tree_sort.Sort) → sort_in vs u ≡ Some r → wrong_operands vs op u v ≡ [] → bad_divisor op v ≡ []
          → R s m (tree_code c u) → ((s : List Sort) → R s m (tree_code c v))
          → R s m (cond b (tree_code c u ++ division_code op (divisor_of v) ∷ []) (tree_code c u ++ (tree_code c v ++ binary_code (is_truth c u) op ∷ [])))
      by_division true q r e k g first second =
          let f = left_fits r tree_sorts.Integer e (division_wants op (Some r) q) k in
          right_joined d t (division_code op (divisor_of v) ∷ []) (leads u tree_sorts.Integer s m named.0 f) first (divide_right op (divisor_of v) s m q (divisor_positive v (good_divisor op v q g)))
      by_division false q r e k g first second =
          let h = binary_takes op r q in
          let x = sort_of_tree h.want in
          let last = subst (λ o. R (x ∷ x ∷ s) m (binary_code (has_sort tree_sorts.Boolean o) op ∷ [])) (sym e) (two_right (binary_code (has_sort tree_sorts.Boolean (Some r)) op) x s m h.plain h.two) in
          right_joined d t (tree_code c v ++ binary_code (is_truth c u) op ∷ []) (leads u h.want s m named.0 (left_fits r h.want e h.operand k)) first
          (right_joined d t (binary_code (is_truth c u) op ∷ []) (leads v h.want (x ∷ s) m named.1 (right_fits r h.want e h.operand k)) (second (x ∷ s)) last)

  pub trees_right : (ts : List Tree) (s : List Sort) (m : VariableSet) → NamedTrees c ts → flat_map (wrong_in vs) ts ≡ [] → flat_map bad_divisors_in ts ≡ [] → ReadTrees c m ts → R s m (trees_code c ts)
  trees_right [] s m named w b read = tt
  trees_right (u ∷ ts) s m named w b read =
      let h = tree_has_sort c u named.0 in
      right_joined d t (trees_code c ts) (leads u h.sort s m named.0 h.is)
      (tree_right u s m named.0 (nil_front (wrong_in vs u) (flat_map (wrong_in vs) ts) w) (nil_front (bad_divisors_in u) (flat_map bad_divisors_in ts) b) read.0)
      (trees_right ts (sort_of_tree h.sort ∷ s) m named.1 (nil_back (wrong_in vs u) (flat_map (wrong_in vs) ts) w) (nil_back (bad_divisors_in u) (flat_map bad_divisors_in ts) b) read.1)
