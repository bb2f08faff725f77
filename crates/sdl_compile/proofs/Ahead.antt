-- Where the code of a text goes on: to a later place, or to a connection that it joins.
use Rattle.std.proofs.Common.{◌≡◌, ℕ, zero, suc, ◌+◌, ◌<◌, ◌≤◌, Bool, true, false, cond, List, [], ◌∷◌, ◌++◌, length, Some, refl, sym, ap, ◌∙◌, subst, arith}
use Rattle.std.specs.Prelude.{slice_get}
use Rattle.std.specs.List.{list_any}
use Rattle.std.proofs.lemmas.List.{length-map}
use Rattle.sdl_ast.specs.declared.tree.Join as tree_join
use Rattle.sdl_ast.specs.declared.tree.Range.{Range}
use Rattle.sdl_ast.specs.declared.tree.Range.TheVariants.{Value as IsValue, Compared, Between}
use Rattle.sdl_ast.specs.declared.tree.End.{End}
use Rattle.sdl_ast.specs.declared.tree.End.TheVariants.{NextState, Stop, Join}
use Rattle.sdl_ast.specs.Plain.{Text, falls, ends, does, decides, Choice, nothing_else, otherwise, answer}
use Rattle.turn_code.specs.declared.instruction.Instruction.{Instruction}
use Rattle.turn_code.specs.Code.{behind, successors}
use Rattle.sdl_tables.specs.Names.{variables_of}
use Rattle.sdl_sound.specs.Going.{goes_on as may_go_on}
use Rattle.sdl_sound.specs.Longest.{cost_of, action_cost, jump_size, tests_size, size, bodies_size}
use Rattle.sdl_meaning.specs.Act.{is_truth}
use Rattle.sdl_meaning.specs.Outcomes.{Scope, connector_at}
use Rattle.sdl_meaning.specs.Code.{names_truth, number_or_zero, jump, tree_code, action_code, end_code, leave_code, body_size, range_code, ranges_code, tests_code, else_size, pick_code, picked, bodies_place, else_place, answers_place, after_choice, text_code, else_code, answers_code, bodies_code}
use Rattle.sdl_compile.proofs.Straight.{AreSteps}
use Rattle.sdl_meaning.proofs.Sizes.{tree_size, action_size, tests_are, leave_size, decision_is, text_size_is, bodies_size_is, answers_size_is, else_size_is}
use Rattle.sdl_meaning.proofs.Branches.{EachEnd, EachJoin, ChoiceJoin}
use Rattle.sdl_compile.proofs.Counting.{tree_steps, action_steps}

module _ (P : ℕ → ℕ → Type 0) (ahead : (k j : ℕ) → k < j → P k j) where
  abbrev pub AllOf : ℕ → List ℕ → Type 0
  AllOf k [] = Unit {0}
  AllOf k (j ∷ js) = P k j × AllOf k js

  -- P holds from each place of the code to each place where the code goes on.
  abbrev pub Goes : ℕ → List Instruction → Type 0
  Goes k [] = Unit {0}
  Goes k (x ∷ is) = AllOf k (successors x k) × Goes (k + 1) is

  pub goes_append : (a b : List Instruction) (k n : ℕ) → k + length a ≡ n → Goes k a → Goes n b → Goes k (a ++ b)
  goes_append [] b k n e g h = let f : n ≡ k = omega (arith, e) in subst (λ k. Goes k b) f h
  goes_append (x ∷ a) b k n e g h = (g.0, goes_append a b (k + 1) n (omega (arith, e)) g.1 h)

  pub steps_go : (xs : List Instruction) (k : ℕ) → AreSteps xs → Goes k xs
  steps_go [] k h = tt
  steps_go (x ∷ xs) k h =
      let goes : successors x k ≡ (k + 1) ∷ [] = ap (λ js. js ++ behind x k) h.0.jumping ∙ h.0.going k in
      (subst (AllOf k) (sym goes) (ahead k (k + 1) (omega arith), tt), steps_go xs (k + 1) h.1)

  module _ (c : Scope) (to : ℕ → ℕ) (start : ℕ) where
    abbrev pub Reaches : tree_join.Join → Type 0
    Reaches j = (k : ℕ) → start ≤ k → P k (to (number_or_zero (connector_at c j.connector)))

    end_goes : (e : End) (pc : ℕ) → start ≤ pc → EachEnd Reaches e → Goes pc (end_code c to e)
    end_goes (NextState n) pc le h = (tt, tt)
    end_goes (Stop at) pc le h = (tt, tt)
    end_goes (Join j) pc le h = ((h pc le, tt), tt)

    range_goes : (m n : ℕ) (r : Range) → m < n → AllOf m (successors (range_code n r) m)
    range_goes m n (IsValue x) lt = (ahead m n lt, (ahead m (m + 1) (omega arith), tt))
    range_goes m n (Compared at s x) lt = (ahead m n lt, (ahead m (m + 1) (omega arith), tt))
    range_goes m n (Between low high) lt = (ahead m n lt, (ahead m (m + 1) (omega arith), tt))

    ranges_go : (rs : List Range) (m n : ℕ) → m + length rs ≤ n → Goes m (ranges_code n rs)
    ranges_go [] m n le = tt
    ranges_go (r ∷ rs) m n le = (range_goes m n r (omega (arith, le)), ranges_go rs (m + 1) n (omega (arith, le)))

    tests_go : (choice : Choice) (m n : ℕ) → m + tests_size choice ≤ n → Goes m (tests_code c n choice)
    tests_go nothing_else m n le = tt
    tests_go (otherwise body) m n le = ((ahead m (m + 1) (omega arith), tt), tt)
    tests_go (answer at rs body others) m n le =
        let len : m + length (ranges_code n rs) ≡ m + length rs = ap (λ k. m + k) (length-map rs (range_code n)) in
        goes_append (ranges_code n rs) (tests_code c (n + body_size c body) others) m (m + length rs) len (ranges_go rs m n (omega (arith, le)))
        (tests_go others (m + length rs) (n + body_size c body) (omega (arith, le)))

    leave_goes : (body : Text) (mid after : ℕ) → mid + jump_size body ≤ after → Goes mid (leave_code after body)
    leave_goes body mid after le = by_test (may_go_on body) le
      where
        by_test : (b : Bool) → mid + cond b 1 0 ≤ after → Goes mid (cond b (jump after ∷ []) [])
        by_test true le = ((ahead mid after (omega (arith, le)), tt), tt)
        by_test false le = tt

    picked_from : (choice : Choice) (n : ℕ) (b : Bool) → n ≤ picked c n choice b
    picked_from nothing_else n b = omega arith
    picked_from (otherwise body) n b = omega arith
    picked_from (answer at rs body others) n b = by_test (list_any (names_truth b) rs) (picked_from others (n + body_size c body) b)
      where
        by_test : (t : Bool) → n + body_size c body ≤ picked c (n + body_size c body) others b → n ≤ cond t n (picked c (n + body_size c body) others b)
        by_test true h = omega arith
        by_test false h = omega (arith, h)

    else_small : (choice : Choice) → else_size c choice ≤ bodies_size (variables_of c.process) choice
    else_small nothing_else = omega arith
    else_small (otherwise body) = omega arith
    else_small (answer at rs body others) = let h = else_small others in omega (arith, h)

    body_goes : (body : Text) (n after : ℕ) (more : List Instruction) → n + body_size c body ≤ after → Goes n (text_code c to n body) → Goes (n + body_size c body) more → Goes n (text_code c to n body ++ (leave_code after body ++ more))
    body_goes body n after more le g h =
        let mid = n + size (variables_of c.process) body in
        goes_append (text_code c to n body) (leave_code after body ++ more) n mid (omega (arith, text_size_is c to n body)) g
        (goes_append (leave_code after body) more mid (n + body_size c body) (omega (arith, leave_size after body)) (leave_goes body mid after (omega (arith, le))) h)

    last_goes : (body : Text) (n after : ℕ) → n + body_size c body ≤ after → Goes n (text_code c to n body) → Goes n (text_code c to n body ++ leave_code after body)
    last_goes body n after le g =
        let mid = n + size (variables_of c.process) body in
        goes_append (text_code c to n body) (leave_code after body) n mid (omega (arith, text_size_is c to n body)) g (leave_goes body mid after (omega (arith, le)))

    by_sort : (b : Bool) (choice : Choice) (m n f s : ℕ) (after : Bool → ℕ) → m < n → m + 1 ≡ n → m + tests_size choice ≡ f → f + else_size c choice ≡ s
        → Goes n (bodies_code c to n (after true) choice) → Goes f (else_code c to f (after false) choice) → Goes s (answers_code c to s (after false) choice)
        → Goes m (cond b (pick_code c n choice ∷ bodies_code c to n (after true) choice) (tests_code c s choice ++ (else_code c to f (after false) choice ++ answers_code c to s (after false) choice)))
    by_sort true choice m n f s after lt e d g h k l =
        let a = picked_from choice n false in
        let b = picked_from choice n true in
        ((ahead m (picked c n choice false) (omega (arith, a, lt)), (ahead m (picked c n choice true) (omega (arith, b, lt)), tt)), subst (λ n2. Goes n2 (bodies_code c to n (after true) choice)) (sym e) h)
    by_sort false choice m n f s after lt e d g h k l =
        goes_append (tests_code c s choice) (else_code c to f (after false) choice ++ answers_code c to s (after false) choice) m f (omega (arith, tests_are c s choice, d)) (tests_go choice m s (omega (arith, d, g)))
        (goes_append (else_code c to f (after false) choice) (answers_code c to s (after false) choice) f s (omega (arith, else_size_is c to f (after false) choice, g)) k l)

    mutual
      pub text_goes : (t : Text) (pc : ℕ) → start ≤ pc → EachJoin Reaches t → Goes pc (text_code c to pc t)
      text_goes falls pc le h = tt
      text_goes (ends e) pc le h = end_goes e pc le h
      text_goes (does a rest) pc le h =
          let m = pc + action_cost a in
          goes_append (action_code c a) (text_code c to m rest) pc m (omega (arith, action_size c a)) (steps_go (action_code c a) pc (action_steps c a)) (text_goes rest m (omega (arith, le)) h)
      text_goes (decides at q choice rest) pc le h =
          let vs = variables_of c.process in
          let b = is_truth c q in
          let m = pc + cost_of q in
          let n = bodies_place m in
          let f = else_place m choice in
          let s = answers_place c m choice in
          let after = λ (b : Bool). after_choice c b m choice in
          let x = cond b (pick_code c n choice ∷ bodies_code c to n (after true) choice) (tests_code c s choice ++ (else_code c to f (after false) choice ++ answers_code c to s (after false) choice)) in
          let size_x : length x ≡ cond b 1 (tests_size choice) + bodies_size vs choice =
          decision_is c to b n n f s (after true) (after false) choice (bodies_size_is c to n (after true) choice) (answers_size_is c to f s (after false) choice) in
          let small = else_small choice in
          goes_append (tree_code c q) (x ++ text_code c to (after b) rest) pc m (omega (arith, tree_size c q)) (steps_go (tree_code c q) pc (tree_steps c q))
          (goes_append x (text_code c to (after b) rest) m (after b) (omega (arith, size_x))
          (by_sort b choice m n f s after (omega arith) refl refl refl
          (bodies_go choice n (after true) (omega arith) (omega (arith, le)) h.0)
          (else_goes choice f (after false) (omega (arith, small)) (omega (arith, le)) h.0)
          (answers_go choice s (after false) (omega arith) (omega (arith, le)) h.0))
          (text_goes rest (after b) (omega (arith, le)) h.1))

      bodies_go : (choice : Choice) (n after : ℕ) → n + bodies_size (variables_of c.process) choice ≤ after → start ≤ n → ChoiceJoin Reaches choice → Goes n (bodies_code c to n after choice)
      bodies_go nothing_else n after lt le h = tt
      bodies_go (otherwise body) n after lt le h = last_goes body n after (omega (arith, lt)) (text_goes body n le h)
      bodies_go (answer at rs body others) n after lt le h =
          let k = n + body_size c body in
          body_goes body n after (bodies_code c to k after others) (omega (arith, lt)) (text_goes body n le h.0) (bodies_go others k after (omega (arith, lt)) (omega (arith, le)) h.1)

      else_goes : (choice : Choice) (n after : ℕ) → n + else_size c choice ≤ after → start ≤ n → ChoiceJoin Reaches choice → Goes n (else_code c to n after choice)
      else_goes nothing_else n after lt le h = tt
      else_goes (otherwise body) n after lt le h = last_goes body n after lt (text_goes body n le h)
      else_goes (answer at rs body others) n after lt le h = else_goes others n after lt le h.1

      answers_go : (choice : Choice) (n after : ℕ) → n + bodies_size (variables_of c.process) choice ≤ after + else_size c choice → start ≤ n → ChoiceJoin Reaches choice → Goes n (answers_code c to n after choice)
      answers_go nothing_else n after lt le h = tt
      answers_go (otherwise body) n after lt le h = tt
      answers_go (answer at rs body others) n after lt le h =
          let k = n + body_size c body in
          let small = else_small others in
          body_goes body n after (answers_code c to k after others) (omega (arith, lt, small)) (text_goes body n le h.0) (answers_go others k after (omega (arith, lt)) (omega (arith, le)) h.1)

-- What holds at each place where code goes on holds at one of them.
pub at_place : (P : ℕ → ℕ → Type 0) (ahead : (k j : ℕ) → k < j → P k j) (code : List Instruction) (o k : ℕ) (x : Instruction) → Goes P ahead o code → slice_get code k ≡ Some x → AllOf P ahead (o + k) (successors x (o + k))
at_place P ahead [] o k x h e = absurd (let k : ⊥ = cc in k)
at_place P ahead (y ∷ code) o zero x h e =
    let f : y ≡ x = cc in
    let g : o ≡ o + 0 = omega arith in
    subst (λ k. AllOf P ahead k (successors x k)) g (subst (λ x. AllOf P ahead o (successors x o)) f h.0)
at_place P ahead (y ∷ code) o (suc k) x h e =
    let g : o + 1 + k ≡ o + suc k = omega arith in
    subst (λ k. AllOf P ahead k (successors x k)) g (at_place P ahead code (o + 1) k x h.1 e)
