-- The count at the place of a text is the count of the text, with the count at the place after it.
use Rattle.std.proofs.Common.{◌≡◌, ℕ, ◌+◌, ◌<◌, ◌≤◌, max, Bool, true, false, cond, List, [], ◌∷◌, ◌++◌, length, map, Some, refl, sym, ap, ◌∙◌, arith}
use Rattle.std.specs.Prelude.{slice_get}
use Rattle.std.specs.List.{sum_by, list_any}
use Rattle.std.proofs.lemmas.List.{length-map}
use Rattle.std.proofs.lemmas.List.Sums.{sum_by-cons}
use Rattle.sdl_ast.specs.declared.tree.Join as tree_join
use Rattle.sdl_ast.specs.declared.tree.Range.{Range}
use Rattle.sdl_ast.specs.declared.tree.Range.TheVariants.{Value as IsValue, Compared, Between}
use Rattle.sdl_ast.specs.declared.tree.End.{End}
use Rattle.sdl_ast.specs.declared.tree.End.TheVariants.{NextState, Stop, Join}
use Rattle.sdl_ast.specs.Plain.{Tree, Text, falls, ends, does, decides, Choice, nothing_else, otherwise, answer}
use Rattle.turn_code.specs.declared.instruction.Instruction.{Instruction}
use Rattle.turn_code.specs.declared.instruction.Instruction.TheVariants as i
use Rattle.turn_code.specs.Code.{behind, successors}
use Rattle.turn_code.specs.Rules.{greatest}
use Rattle.sdl_tables.specs.Names.{variables_of}
use Rattle.sdl_sound.specs.Going.{goes_on as may_go_on}
use Rattle.sdl_sound.specs.Decisions.{has_else, has_values, answers_both, is_answered}
use Rattle.sdl_sound.specs.Longest.{cost_of, action_cost, end_count, jump_size, tests_size, size, bodies_size}
use Rattle.sdl_meaning.specs.Act.{is_truth}
use Rattle.sdl_meaning.specs.Outcomes.{Scope, state_at, connector_at}
use Rattle.sdl_meaning.specs.Named.{NamedText, NamedChoice}
use Rattle.sdl_meaning.specs.Code.{names_truth, number_or_zero, next, jump, tree_code, action_code, end_code, leave_code, body_size, range_code, ranges_code, tests_code, else_size, pick_code, picked, bodies_place, else_place, answers_place, after_choice, text_code, else_code, answers_code, bodies_code}
use Rattle.sdl_compile.proofs.Straight.{AreSteps}
use Rattle.sdl_meaning.proofs.Sizes.{tree_size, action_size, tests_are, leave_size, decision_is, text_size_is, bodies_size_is, answers_size_is, else_size_is}
use Rattle.sdl_meaning.proofs.RunParts.{HasAt, has_front, has_back}
use Rattle.sdl_meaning.proofs.Branches.{EachEnd, EachJoin, ChoiceJoin, integer_answered}
use Rattle.sdl_compile.proofs.Counting.{tree_steps, action_steps, truths, bodies_most, picked_most, IsWeight, tests_tally, tally, case_tally, pick_tally, tally_over}
use Rattle.plain_laws.proofs.Truths.{and_second, and_first}

range_goes : (n k : ℕ) (r : Range) → successors (range_code n r) k ≡ n ∷ (k + 1) ∷ []
range_goes n k (IsValue x) = refl
range_goes n k (Compared at s x) = refl
range_goes n k (Between low high) = refl

-- Each truth value has an answer, if the question is a Boolean one.
both_answered : (c : Scope) (q : Tree) (choice : Choice) → is_answered (variables_of c.process) q choice ≡ true → is_truth c q ≡ true → answers_both choice ≡ true
both_answered c q choice h e =
    sym (ap (λ b. cond b (answers_both choice) (has_else choice)) e) ∙ and_second (has_values choice) (cond (is_truth c q) (answers_both choice) (has_else choice)) h

-- v are the counts. A place reads r from the places where it goes on; for later places r is v.
module _ (code : List Instruction) (w : Instruction → ℕ) (v : ℕ → ℕ) (r : ℕ → ℕ → ℕ) (ahead : (k j : ℕ) → k < j → r k j ≡ v j)
    (counted : (k : ℕ) (x : Instruction) → slice_get code k ≡ Some x → v k ≡ w x + greatest (map (r k) (successors x k))) where
  to_none : (k : ℕ) (x : Instruction) → slice_get code k ≡ Some x → successors x k ≡ [] → v k ≡ w x
  to_none k x e f = let h = counted k x e in let g = ap (λ js. greatest (map (r k) js)) f in omega (arith, h, g)

  to_one : (k n : ℕ) (x : Instruction) → slice_get code k ≡ Some x → successors x k ≡ n ∷ [] → v k ≡ w x + r k n
  to_one k n x e f = let h = counted k x e in let g : greatest (map (r k) (successors x k)) ≡ max (r k n) 0 = ap (λ js. greatest (map (r k) js)) f in omega (arith, h, g)

  to_two : (k n m : ℕ) (x : Instruction) → slice_get code k ≡ Some x → successors x k ≡ n ∷ m ∷ [] → v k ≡ w x + max (r k n) (r k m)
  to_two k n m x e f =
      let h = counted k x e in
      let g : greatest (map (r k) (successors x k)) ≡ max (r k n) (max (r k m) 0) = ap (λ js. greatest (map (r k) js)) f in
      omega (arith, h, g)

  -- Instructions that each go on at the next place.
  pub steps_count : (xs : List Instruction) (pc end : ℕ) → HasAt code pc xs → AreSteps xs → pc + length xs ≡ end → v pc ≡ sum_by w xs + v end
  steps_count [] pc end has steps e = let f : pc ≡ end = omega (arith, e) in let g = ap v f in omega (arith, g)
  steps_count (x ∷ xs) pc end has steps e =
      let rest = steps_count xs (pc + 1) end has.1 steps.1 (omega (arith, e)) in
      let goes : successors x pc ≡ (pc + 1) ∷ [] = ap (λ js. js ++ behind x pc) steps.0.jumping ∙ steps.0.going pc in
      let here = to_one pc (pc + 1) x has.0 goes in
      let on = ahead pc (pc + 1) (omega arith) in
      omega (arith, rest, here, on, sum_by-cons w x xs)

  module _ (c : Scope) (a : ℕ) (weighs : IsWeight c w a) (to : ℕ → ℕ) (join : List ℕ → ℕ) (start : ℕ) where
    -- The count that a jump reads at the place of the connection.
    abbrev pub Lands : tree_join.Join → Type 0
    Lands j = (k : ℕ) → start ≤ k → r k (to (number_or_zero (connector_at c j.connector))) ≡ join j.connector.name

    end_count_is : (e : End) (pc : ℕ) → HasAt code pc (end_code c to e) → start ≤ pc → EachEnd Lands e → v pc ≡ a + end_count join e
    end_count_is (NextState n) pc has le lands =
        let h = to_none pc (next (number_or_zero (state_at c n.state))) has.0 refl in
        let g = weighs.state (number_or_zero (state_at c n.state)) in
        omega (arith, h, g)
    end_count_is (Stop at) pc has le lands = let h = to_none pc i.Stop has.0 refl in let g = weighs.stopping in omega (arith, h, g)
    end_count_is (Join j) pc has le lands =
        let n = to (number_or_zero (connector_at c j.connector)) in
        let h = to_one pc n (jump n) has.0 refl in
        let g = weighs.jumping n in
        let l = lands pc le in
        omega (arith, h, g, l)

    -- the tests of an answer
    tests_count : (rs : List Range) (m m2 n : ℕ) → HasAt code m (ranges_code n rs) → m + length rs ≡ m2 → m2 ≤ n → v m ≡ tests_tally c w a join rs (v n) (v m2)
    tests_count [] m m2 n has e le = let f : m ≡ m2 = omega (arith, e) in ap v f
    tests_count (x ∷ rs) m m2 n has e le =
        let rest = tests_count rs (m + 1) m2 n has.1 (omega (arith, e)) le in
        let here = to_two m n (m + 1) (range_code n x) has.0 (range_goes n m x) in
        let g = weighs.testing n x in
        let on = ahead m (m + 1) (omega arith) in
        let off = ahead m n (omega (arith, e, le)) in
        omega (arith, rest, here, g, on, off)

    -- a body, with the jump to what follows
    body_count : (body : Text) (n mid after : ℕ) → HasAt code mid (leave_code after body) → mid + jump_size body ≤ after → v n ≡ tally c w a join body (v mid) → v n ≡ tally c w a join body (a + v after)
    body_count body n mid after has le e = by_test (may_go_on body) refl has le
      where
        by_test : (b : Bool) → may_go_on body ≡ b → HasAt code mid (cond b (jump after ∷ []) []) → mid + cond b 1 0 ≤ after → v n ≡ tally c w a join body (a + v after)
        by_test true f has le =
            let h = to_one mid after (jump after) has.0 refl in
            let g = weighs.jumping after in
            let on = ahead mid after (omega (arith, le)) in
            let k : v mid ≡ a + v after = omega (arith, h, g, on) in
            e ∙ ap (tally c w a join body) k
        by_test false f has le = e ∙ tally_over c w a join body (v mid) (a + v after) f

    -- A DECISION after its question.
    decision_count : (choice : Choice) (q : Tree) (b : Bool) (m n f s : ℕ) (after : Bool → ℕ) → is_truth c q ≡ b
        → HasAt code m (cond b (pick_code c n choice ∷ bodies_code c to n (after true) choice) (tests_code c s choice ++ (else_code c to f (after false) choice ++ answers_code c to s (after false) choice)))
        → (is_truth c q ≡ true → HasAt code m (pick_code c n choice ∷ bodies_code c to n (after true) choice) → v m ≡ a + pick_tally c w a join choice (v (after true)))
        → (is_truth c q ≡ false → HasAt code m (tests_code c s choice ++ (else_code c to f (after false) choice ++ answers_code c to s (after false) choice)) → v m ≡ case_tally c w a join choice (v (after false)))
        → v m ≡ cond b (a + pick_tally c w a join choice (v (after b))) (case_tally c w a join choice (v (after b)))
    decision_count choice q true m n f s after e has h k = h e has
    decision_count choice q false m n f s after e has h k = k e has

    picked_from : (choice : Choice) (n : ℕ) (b : Bool) → n ≤ picked c n choice b
    picked_from nothing_else n b = omega arith
    picked_from (otherwise body) n b = omega arith
    picked_from (answer at rs body others) n b = by_test (list_any (names_truth b) rs) (picked_from others (n + body_size c body) b)
      where
        by_test : (t : Bool) → n + body_size c body ≤ picked c (n + body_size c body) others b → n ≤ cond t n (picked c (n + body_size c body) others b)
        by_test true h = omega arith
        by_test false h = omega (arith, h)

    -- the choice of a body
    pick_first : (choice : Choice) (q : Tree) (m n : ℕ) → slice_get code m ≡ Some (pick_code c n choice) → m < n → is_answered (variables_of c.process) q choice ≡ true → is_truth c q ≡ true → NamedChoice c q choice
        → v m ≡ a + bodies_most c v n choice
    pick_first choice q m n has lt answered e named =
        let h = to_two m (picked c n choice false) (picked c n choice true) (pick_code c n choice) has refl in
        let g = weighs.choosing n choice in
        let from_false = picked_from choice n false in
        let from_true = picked_from choice n true in
        let on_false = ahead m (picked c n choice false) (omega (arith, from_false, lt)) in
        let on_true = ahead m (picked c n choice true) (omega (arith, from_true, lt)) in
        let most = picked_most c v choice n (and_first (has_values choice) (cond (is_truth c q) (answers_both choice) (has_else choice)) answered) (truths c v choice q e named) (both_answered c q choice answered e) in
        omega (arith, h, g, on_false, on_true, most)

    else_small : (choice : Choice) → else_size c choice ≤ bodies_size (variables_of c.process) choice
    else_small nothing_else = omega arith
    else_small (otherwise body) = omega arith
    else_small (answer at rs body others) = let h = else_small others in omega (arith, h)

    mutual
      pub text_count : (t : Text) (pc end : ℕ) → HasAt code pc (text_code c to pc t) → pc + size (variables_of c.process) t ≡ end → start ≤ pc → NamedText c t → EachJoin Lands t → v pc ≡ tally c w a join t (v end)
      text_count falls pc end has e le named lands = let f : pc ≡ end = omega (arith, e) in ap v f
      text_count (ends t) pc end has e le named lands = end_count_is t pc has le lands
      text_count (does x rest) pc end has e le named lands =
          let m = pc + action_cost x in
          let y = text_code c to m rest in
          let len : pc + length (action_code c x) ≡ m = omega (arith, action_size c x) in
          let h = steps_count (action_code c x) pc m (has_front code pc (action_code c x) y has) (action_steps c x) len in
          let g = text_count rest m end (has_back code pc (action_code c x) y m len has) (omega (arith, e)) (omega (arith, le)) named.1 lands in
          h ∙ ap (λ n. sum_by w (action_code c x) + n) g
      text_count (decides at q choice rest) pc end has e le named lands =
          let vs = variables_of c.process in
          let b = is_truth c q in
          let m = pc + cost_of q in
          let n = bodies_place m in
          let f = else_place m choice in
          let s = answers_place c m choice in
          let after1 = after_choice c true m choice in
          let after2 = after_choice c false m choice in
          let after = after_choice c b m choice in
          let bodies = bodies_code c to n after1 choice in
          let others = else_code c to f after2 choice ++ answers_code c to s after2 choice in
          let x = cond b (pick_code c n choice ∷ bodies) (tests_code c s choice ++ others) in
          let y = text_code c to after rest in
          let len : pc + length (tree_code c q) ≡ m = omega (arith, tree_size c q) in
          let has_m : HasAt code m (x ++ y) = has_back code pc (tree_code c q) (x ++ y) m len has in
          let size_x : length x ≡ cond b 1 (tests_size choice) + bodies_size vs choice =
          decision_is c to b n n f s after1 after2 choice (bodies_size_is c to n after1 choice) (answers_size_is c to f s after2 choice) in
          let len_x : m + length x ≡ after = omega (arith, size_x) in
          let len_y : after + size vs rest ≡ end = omega (arith, e) in
          let question = steps_count (tree_code c q) pc m (has_front code pc (tree_code c q) (x ++ y) has) (tree_steps c q) len in
          let last = text_count rest after end (has_back code m x y after len_x has_m) len_y (omega (arith, le)) named.2 lands.1 in
          let le_m : start ≤ m = omega (arith, le) in
          let sizes : length (else_code c to f after2 choice) + length (answers_code c to s after2 choice) ≡ bodies_size vs choice = answers_size_is c to f s after2 choice in
          let len_else : length (else_code c to f after2 choice) ≡ else_size c choice = else_size_is c to f after2 choice in
          let chosen = decision_count choice q b m n f s (λ b. after_choice c b m choice) refl (has_front code m x y has_m)
          (λ g h.
          let first = pick_first choice q m n h.0 (omega arith) named.0.answered g named.1 in
          let bodies_are = bodies_count choice q n after1 h.1 (omega arith) (omega (arith, le_m)) named.1 lands.0 in
          first ∙ ap (λ k. a + k) bodies_are)
          (λ g h.
          let len_t : m + length (tests_code c s choice) ≡ f = omega (arith, tests_are c s choice) in
          let len_e : f + length (else_code c to f after2 choice) ≡ s = omega (arith, len_else) in
          let has_f = has_back code m (tests_code c s choice) others f len_t h in
          case_count choice q m f s after2 (has_front code m (tests_code c s choice) others h)
          (has_front code f (else_code c to f after2 choice) (answers_code c to s after2 choice) has_f)
          (has_back code f (else_code c to f after2 choice) (answers_code c to s after2 choice) s len_e has_f)
          refl (omega arith) (omega arith) le_m (integer_answered c q choice named.0.answered g) named.1 lands.0) in
          question ∙ ap (λ n. sum_by w (tree_code c q) + n) (chosen ∙ ap (λ k. cond b (a + pick_tally c w a join choice k) (case_tally c w a join choice k)) last)

      -- The bodies of a Boolean DECISION, one after another.
      bodies_count : (choice : Choice) (q : Tree) (n after : ℕ) → HasAt code n (bodies_code c to n after choice) → n + bodies_size (variables_of c.process) choice ≤ after → start ≤ n → NamedChoice c q choice → ChoiceJoin Lands choice
          → bodies_most c v n choice ≡ pick_tally c w a join choice (v after)
      bodies_count nothing_else q n after has lt le named lands = refl
      bodies_count (otherwise body) q n after has lt le named lands =
          let x = text_code c to n body in
          let mid = n + size (variables_of c.process) body in
          let len : n + length x ≡ mid = omega (arith, text_size_is c to n body) in
          body_count body n mid after (has_back code n x (leave_code after body) mid len has) (omega (arith, lt))
          (text_count body n mid (has_front code n x (leave_code after body) has) refl le named lands)
      bodies_count (answer at rs body others) q n after has lt le named lands =
          let k = n + body_size c body in
          let x = text_code c to n body in
          let y = bodies_code c to k after others in
          let mid = n + size (variables_of c.process) body in
          let len_x : n + length x ≡ mid = omega (arith, text_size_is c to n body) in
          let len_y : mid + length (leave_code after body) ≡ k = omega (arith, leave_size after body) in
          let has_mid = has_back code n x (leave_code after body ++ y) mid len_x has in
          let first = body_count body n mid after (has_front code mid (leave_code after body) y has_mid) (omega (arith, lt))
          (text_count body n mid (has_front code n x (leave_code after body ++ y) has) refl le named.1 lands.0) in
          let last = bodies_count others q k after (has_back code mid (leave_code after body) y k len_y has_mid) (omega (arith, lt)) (omega (arith, le)) named.2 lands.1 in
          omega (arith, first, last)

      -- The answers to an Integer question: tests at m, the body of ELSE at f, the bodies of the answers from s on.
      case_count : (choice : Choice) (q : Tree) (m f s after : ℕ) → HasAt code m (tests_code c s choice) → HasAt code f (else_code c to f after choice) → HasAt code s (answers_code c to s after choice)
          → m + tests_size choice ≡ f → f + else_size c choice ≤ s → s + bodies_size (variables_of c.process) choice ≤ after + else_size c choice → start ≤ m → has_else choice ≡ true → NamedChoice c q choice → ChoiceJoin Lands choice
          → v m ≡ case_tally c w a join choice (v after)
      case_count nothing_else q m f s after tests else_has has e fs lt le there named lands = absurd (let k : ⊥ = cc in k)
      case_count (otherwise body) q m f s after tests else_has has e fs lt le there named lands =
          let x = text_code c to f body in
          let mid = f + size (variables_of c.process) body in
          let len : f + length x ≡ mid = omega (arith, text_size_is c to f body) in
          let h = to_one m (m + 1) i.Drop tests.0 refl in
          let g = weighs.dropping in
          let on = ahead m (m + 1) (omega arith) in
          let at : v (m + 1) ≡ v f = ap v e in
          let first = body_count body f mid after (has_back code f x (leave_code after body) mid len else_has) (omega (arith, fs, lt))
          (text_count body f mid (has_front code f x (leave_code after body) else_has) refl (omega (arith, e, le)) named lands) in
          omega (arith, h, g, on, at, first)
      case_count (answer at rs body others) q m f s after tests else_has has e fs lt le there named lands =
          let n = s + body_size c body in
          let m2 = m + length rs in
          let x = text_code c to s body in
          let y = answers_code c to n after others in
          let mid = s + size (variables_of c.process) body in
          let len_r : m + length (ranges_code s rs) ≡ m2 = ap (λ n. m + n) (length-map rs (range_code s)) in
          let len_x : s + length x ≡ mid = omega (arith, text_size_is c to s body) in
          let len_y : mid + length (leave_code after body) ≡ n = omega (arith, leave_size after body) in
          let has_mid = has_back code s x (leave_code after body ++ y) mid len_x has in
          let small = else_small others in
          let first = body_count body s mid after (has_front code mid (leave_code after body) y has_mid) (omega (arith, lt, small))
          (text_count body s mid (has_front code s x (leave_code after body ++ y) has) refl (omega (arith, e, fs, le)) named.1 lands.0) in
          let last = case_count others q m2 f n after (has_back code m (ranges_code s rs) (tests_code c n others) m2 len_r tests) else_has
          (has_back code mid (leave_code after body) y n len_y has_mid) (omega (arith, e)) (omega (arith, fs)) (omega (arith, lt)) (omega (arith, le)) there named.2 lands.1 in
          let here = tests_count rs m m2 s (has_front code m (ranges_code s rs) (tests_code c n others) tests) refl (omega (arith, e, fs)) in
          here ∙ ap (λ n. tests_tally c w a join rs n (v m2)) first ∙ ap (tests_tally c w a join rs (tally c w a join body (a + v after))) last
