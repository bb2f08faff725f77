-- The run of a text's instructions is the meaning of the text.
use Rattle.std.proofs.Common.{◌≡◌, ℕ, ◌+◌, Bool, true, false, cond, ◌&&◌, ◌||◌, List, [], ◌∷◌, ◌++◌, length, Option, Some, None, refl, sym, ap, ◌∙◌, subst, arith}
use Rattle.std.specs.Prelude.{ℤ, nat_lt, nat_eq}
use Rattle.std.proofs.lemmas.Bool.Decides.{nat_tests}
use Rattle.std.specs.List.{list_any, sum_by}
use Rattle.std.proofs.lemmas.List.{length-map}
use Rattle.std.proofs.lemmas.List.Sums.{sum_by-cons}
use Rattle.sdl_ast.specs.declared.expression.Identifier.{Identifier}
use Rattle.sdl_ast.specs.declared.tree.Join as tree_join
use Rattle.sdl_ast.specs.declared.tree.Range.{Range}
use Rattle.sdl_ast.specs.declared.tree.Range.TheVariants.{Value as IsValue, Compared, Between}
use Rattle.sdl_ast.specs.declared.tree.Literal.{Literal}
use Rattle.sdl_ast.specs.declared.tree.Literal.TheVariants as literals
use Rattle.sdl_ast.specs.declared.tree.End.{End}
use Rattle.sdl_ast.specs.declared.tree.End.TheVariants.{NextState, Stop, Join}
use Rattle.sdl_ast.specs.Plain.{Tree, Text, falls, ends, does, decides, Choice, nothing_else, otherwise, answer}
use Rattle.turn_code.specs.declared.value.Value.{Value}
use Rattle.turn_code.specs.declared.value.Value.TheVariants.{Int, Bool as Truth}
use Rattle.turn_code.specs.declared.input.Input.{Input}
use Rattle.turn_code.specs.declared.input.Address.{Address}
use Rattle.turn_code.specs.declared.instruction.Instruction.{Instruction}
use Rattle.turn_code.specs.declared.instruction.Instruction.TheVariants as i
use Rattle.turn_code.specs.Run.{Progress, tick, goes}
use Rattle.sdl_tables.specs.Names.{variables_of}
use Rattle.sdl_sound.specs.Going.{goes_on as may_go_on, choice_goes_on}
use Rattle.sdl_sound.specs.Decisions.{has_values, has_else, is_value, names_value, times_named, answers_both, is_answered}
use Rattle.sdl_sound.specs.Longest.{cost_of, action_cost, tests_size, size, bodies_size}
use Rattle.sdl_meaning.specs.Act.{is_truth, value_of, perform, end_in, end_with, try_ranges, find_truth, leave, decide, act, choose, pick}
use Rattle.sdl_meaning.specs.Outcomes.{Scope, state_at, connector_at, Outcome, goes_on, then_do}
use Rattle.sdl_meaning.specs.Named.{NamedEnd, NamedText, NamedChoice, IsSentTo, AnswersSenders, ChoiceAnswers}
use Rattle.sdl_meaning.specs.Code.{number_or_zero, jump, tree_code, action_code, end_code, leave_code, body_size, range_code, ranges_code, tests_code, picked, pick_code, is_literal, names_truth, bodies_place, else_place, answers_place, after_choice, text_code, else_code, answers_code, bodies_code}
use Rattle.sdl_meaning.proofs.Sizes.{tree_size, action_size, leave_size, tests_are, text_size_is, bodies_size_is, answers_size_is, else_size_is, decision_is}
use Rattle.sdl_meaning.proofs.Runs.{Does, bind, one, stays, tree_does, action_does, next_does}
use Rattle.sdl_meaning.proofs.RunParts.{HasAt, has_front, has_back}
use Rattle.sdl_meaning.proofs.Choices.{IsOver, over_bind, over_first, are_numbers, are_truths, after_one, body_leaves, tries_do, decision_does, find_is}
use Rattle.std.proofs.lemmas.Bool.{or_right as or_true}
use Rattle.plain_laws.proofs.Truths.{and_second, neither_first as or_left, neither_second as or_right}

-- Each JOIN of a text has property P.
abbrev pub EachEnd : (tree_join.Join → Type 0) → End → Type 0
EachEnd P (NextState n) = Unit {0}
EachEnd P (Stop at) = Unit {0}
EachEnd P (Join j) = P j

abbrev mutual
  pub EachJoin : (tree_join.Join → Type 0) → Text → Type 0
  EachJoin P falls = Unit {0}
  EachJoin P (ends e) = EachEnd P e
  EachJoin P (does a rest) = EachJoin P rest
  EachJoin P (decides at q choice rest) = ChoiceJoin P choice × EachJoin P rest

  pub ChoiceJoin : (tree_join.Join → Type 0) → Choice → Type 0
  ChoiceJoin P nothing_else = Unit {0}
  ChoiceJoin P (otherwise body) = EachJoin P body
  ChoiceJoin P (answer at rs body others) = EachJoin P body × ChoiceJoin P others

-- Whether a truth value has an answer.
abbrev pub answers : Bool → Choice → Bool
answers b nothing_else = false
answers b (otherwise body) = true
answers b (answer at rs body others) = list_any (names_truth b) rs || answers b others

-- ---- a text that doesn't run off its end is over at its end

end_over : (o : Option ℕ) (s : Progress) → IsOver (end_in o s)
end_over None s = tt
end_over (Some q) s = tt

and_cases : (a b : Bool) {A : Type 0} → a && b ≡ false → (a ≡ false → A) → (b ≡ false → A) → A
and_cases true b e f g = g e
and_cases false b e f g = f refl

over_test : {A : Type 0} (t : Bool) (x y : Outcome A) → IsOver x → IsOver y → IsOver (cond t x y)
over_test true x y h k = h
over_test false x y h k = k

decide_over : (b : Bool) (x : Value) (s : Progress) (f : ℤ → Outcome (Unit {0})) (g : Bool → Outcome (Unit {0})) → ((z : ℤ) → IsOver (f z)) → ((t : Bool) → IsOver (g t)) → IsOver (decide b x s f g)
decide_over true (Truth t) s f g h k = k t
decide_over true (Int z) s f g h k = tt
decide_over false (Int z) s f g h k = h z
decide_over false (Truth t) s f g h k = tt

module _ (c : Scope) (join : List ℕ → Progress → Outcome (Unit {0})) (sender : Option Address) (joins_over : (x : List ℕ) (s : Progress) → IsOver (join x s)) where
  end_with_over : (e : End) (s : Progress) → IsOver (end_with c join e s)
  end_with_over (NextState n) s = end_over (state_at c n.state) s
  end_with_over (Stop at) s = tt
  end_with_over (Join j) s = joins_over j.connector.name (tick s)

  mutual
    pub act_over : (t : Text) (s : Progress) → may_go_on t ≡ false → IsOver (act c join sender t s)
    act_over falls s e = absurd (let k : ⊥ = cc in k)
    act_over (ends t) s e = end_with_over t s
    act_over (does a rest) s e = over_bind (perform c sender a s) (λ _ s. act c join sender rest s) (λ _ v. act_over rest v e)
    act_over (decides at q choice rest) s e =
        over_bind (value_of c q s) (λ x s. then_do (decide (is_truth c q) x s (λ x. choose c join sender choice x s) (λ b. pick c join sender choice b (tick s))) (λ _ s. act c join sender rest s))
        (λ x v. and_cases (choice_goes_on choice) (may_go_on rest) e
        (λ f. over_first (decide (is_truth c q) x v (λ x. choose c join sender choice x v) (λ b. pick c join sender choice b (tick v))) (λ _ s. act c join sender rest s)
        (decide_over (is_truth c q) x v (λ x. choose c join sender choice x v) (λ b. pick c join sender choice b (tick v)) (λ z. choose_over choice z v f) (λ t. pick_over choice t (tick v) f)))
        (λ f. over_bind (decide (is_truth c q) x v (λ x. choose c join sender choice x v) (λ b. pick c join sender choice b (tick v))) (λ _ s. act c join sender rest s)
        (λ _ u. act_over rest u f)))

    choose_over : (choice : Choice) (x : ℤ) (s : Progress) → choice_goes_on choice ≡ false → IsOver (choose c join sender choice x s)
    choose_over nothing_else x s e = tt
    choose_over (otherwise body) x s e = over_first (act c join sender body (tick s)) (λ _ s. goes_on (tt {0}) (tick s)) (act_over body (tick s) e)
    choose_over (answer at rs body others) x s e =
        over_bind (try_ranges rs x s) (λ found s. cond found (leave (act c join sender body s)) (choose c join sender others x s))
        (λ t v. over_test t (leave (act c join sender body v)) (choose c join sender others x v)
        (over_first (act c join sender body v) (λ _ s. goes_on (tt {0}) (tick s)) (act_over body v (or_left (may_go_on body) (choice_goes_on others) e)))
        (choose_over others x v (or_right (may_go_on body) (choice_goes_on others) e)))

    pick_over : (choice : Choice) (b : Bool) (s : Progress) → choice_goes_on choice ≡ false → IsOver (pick c join sender choice b s)
    pick_over nothing_else b s e = tt
    pick_over (otherwise body) b s e = over_first (act c join sender body s) (λ _ s. goes_on (tt {0}) (tick s)) (act_over body s e)
    pick_over (answer at rs body others) b s e =
        over_bind (find_truth rs b s) (λ found s. cond found (leave (act c join sender body s)) (pick c join sender others b s))
        (λ t v. over_test t (leave (act c join sender body v)) (pick c join sender others b v)
        (over_first (act c join sender body v) (λ _ s. goes_on (tt {0}) (tick s)) (act_over body v (or_left (may_go_on body) (choice_goes_on others) e)))
        (pick_over others b v (or_right (may_go_on body) (choice_goes_on others) e)))

-- ---- what the rules require of answers

-- An Integer question has ELSE.
pub integer_answered : (c : Scope) (q : Tree) (choice : Choice) → is_answered (variables_of c.process) q choice ≡ true → is_truth c q ≡ false → has_else choice ≡ true
integer_answered c q choice h e =
    sym (ap (λ b. cond b (answers_both choice) (has_else choice)) e) ∙ and_second (has_values choice) (cond (is_truth c q) (answers_both choice) (has_else choice)) h

-- A literal that isn't a truth value names it 0 times.
no_value : (l : Literal) (b : Bool) → is_literal b l ≡ false → is_value b l ≡ 0
no_value (literals.Integer k) b e = refl
no_value (literals.Boolean true) true e = absurd (let k : ⊥ = cc in k)
no_value (literals.Boolean false) true e = refl
no_value (literals.Boolean true) false e = refl
no_value (literals.Boolean false) false e = absurd (let k : ⊥ = cc in k)

no_name : (r : Range) (b : Bool) → names_truth b r ≡ false → names_value b r ≡ 0
no_name (IsValue k) b e = no_value k.value b e
no_name (Compared at r k) b e = refl
no_name (Between low high) b e = refl

pub no_names : (rs : List Range) (b : Bool) → list_any (names_truth b) rs ≡ false → sum_by (names_value b) rs ≡ 0
no_names [] b e = refl
no_names (r ∷ rs) b e =
    let h = no_name r b (or_left (names_truth b r) (list_any (names_truth b) rs) e) in
    let k = no_names rs b (or_right (names_truth b r) (list_any (names_truth b) rs) e) in
    omega (arith, h, k, sum_by-cons (names_value b) r rs)

unnamed : (choice : Choice) (b : Bool) → answers b choice ≡ false → times_named b choice ≡ 0
unnamed nothing_else b e = refl
unnamed (otherwise body) b e = refl
unnamed (answer at rs body others) b e =
    let h = no_names rs b (or_left (list_any (names_truth b) rs) (answers b others) e) in
    let k = unnamed others b (or_right (list_any (names_truth b) rs) (answers b others) e) in
    omega (arith, h, k)

else_answers : (choice : Choice) (b : Bool) → has_else choice ≡ true → answers b choice ≡ true
else_answers nothing_else b e = absurd (let k : ⊥ = cc in k)
else_answers (otherwise body) b e = refl
else_answers (answer at rs body others) b e = or_true (list_any (names_truth b) rs) (answers b others) (else_answers others b e)

both_named : (m n : ℕ) (b : Bool) → nat_eq m 1 && nat_eq n 1 ≡ true → cond b m n ≡ 1
both_named m n true e = grind (arith, nat_tests)
both_named m n false e = grind (arith, nat_tests)

-- Each truth value has an answer.
truth_answered : (c : Scope) (q : Tree) (choice : Choice) (b : Bool) → is_answered (variables_of c.process) q choice ≡ true → is_truth c q ≡ true → answers b choice ≡ true
truth_answered c q choice b h e = by_else (has_else choice) refl (sym (ap (λ b. cond b (answers_both choice) (has_else choice)) e) ∙ and_second (has_values choice) (cond (is_truth c q) (answers_both choice) (has_else choice)) h)
  where
    by_times : (t : Bool) → answers b choice ≡ t → cond b (times_named true choice) (times_named false choice) ≡ 1 → answers b choice ≡ true
    by_times true f n = f
    by_times false f n = absurd (none b (unnamed choice b f) n)
      where
        none : (b : Bool) → times_named b choice ≡ 0 → cond b (times_named true choice) (times_named false choice) ≡ 1 → ⊥
        none true z n = omega (arith, z, n)
        none false z n = omega (arith, z, n)

    by_else : (t : Bool) → has_else choice ≡ t
        → cond t (nat_lt (times_named true choice + times_named false choice) 2) (nat_eq (times_named true choice) 1 && nat_eq (times_named false choice) 1) ≡ true → answers b choice ≡ true
    by_else true f h = else_answers choice b f
    by_else false f h = by_times (answers b choice) refl (both_named (times_named true choice) (times_named false choice) b h)

-- ---- the run

module _ (inp : Input) (code : List Instruction) (c : Scope) (from : Option Identifier) (is_sent : IsSentTo c from inp.sender)
    (to : ℕ → ℕ) (join : List ℕ → Progress → Outcome (Unit {0})) (joins_over : (x : List ℕ) (s : Progress) → IsOver (join x s)) where
  -- The code to which a JOIN leads does what the JOIN means.
  abbrev pub Leads : tree_join.Join → Type 0
  Leads j = (os : List Value) (s : Progress) (end : ℕ) → Does inp code (to (number_or_zero (connector_at c j.connector))) os s end (λ _. os) (join j.connector.name s)

  end_does : (t : End) (pc end : ℕ) (os : List Value) (s : Progress) → HasAt code pc (end_code c to t) → NamedEnd c t → EachEnd Leads t → Does inp code pc os s end (λ _. os) (end_with c join t s)
  end_does (NextState n) pc end os s has named leads = next_does inp code (state_at c n.state) pc end os s named has.0
  end_does (Stop at) pc end os s has named leads = one inp code {A = Unit {0}} pc end os s (λ _. os) i.Stop (end_with c join (Stop at) s) has.0 (refl, refl)
  end_does (Join j) pc end os s has named leads =
      let n = to (number_or_zero (connector_at c j.connector)) in
      after_one inp code pc n end os os s (λ _. os) (jump n) (join j.connector.name (tick s)) has.0 refl (leads os (tick s) end)

  mutual
    pub text_does : (t : Text) (pc end : ℕ) (os : List Value) (s : Progress) → HasAt code pc (text_code c to pc t) → pc + size (variables_of c.process) t ≡ end → NamedText c t → AnswersSenders c from t → EachJoin Leads t → Does inp code pc os s end (λ _. os) (act c join inp.sender t s)
    text_does falls pc end os s has e named sends leads = stays inp code pc end os s (λ _. os) (tt {0}) (omega (arith, e)) refl
    text_does (ends t) pc end os s has e named sends leads = end_does t pc end os s has named leads
    text_does (does a rest) pc end os s has e named sends leads =
        let m = pc + action_cost a in
        let x = action_code c a in
        let y = text_code c to m rest in
        let len : pc + length x ≡ m = omega (arith, action_size c a) in
        bind inp code pc m end os s (λ _. os) (λ _. os) (perform c inp.sender a s) (λ _ s. act c join inp.sender rest s)
        (action_does inp code c from is_sent a pc m os s (has_front code pc x y has) len named.0 sends.0)
        (λ _ u. text_does rest m end os u (has_back code pc x y m len has) (omega (arith, e)) named.1 sends.1 leads)
    text_does (decides at q choice rest) pc end os s has e named sends leads =
        let vs = variables_of c.process in
        let b = is_truth c q in
        let m = pc + cost_of q in
        let n = bodies_place m in
        let f = else_place m choice in
        let a = answers_place c m choice in
        let after1 = after_choice c true m choice in
        let after2 = after_choice c false m choice in
        let after = after_choice c b m choice in
        let bodies = bodies_code c to n after1 choice in
        let others = else_code c to f after2 choice ++ answers_code c to a after2 choice in
        let x = cond b (pick_code c n choice ∷ bodies) (tests_code c a choice ++ others) in
        let y = text_code c to after rest in
        let len : pc + length (tree_code c q) ≡ m = omega (arith, tree_size c q) in
        let has_m : HasAt code m (x ++ y) = has_back code pc (tree_code c q) (x ++ y) m len has in
        let size_x : length x ≡ cond b 1 (tests_size choice) + bodies_size vs choice =
        decision_is c to b n n f a after1 after2 choice (bodies_size_is c to n after1 choice) (answers_size_is c to f a after2 choice) in
        let len_x : m + length x ≡ after = omega (arith, size_x) in
        let len_y : after + size vs rest ≡ end = omega (arith, e) in
        bind inp code pc m end os s (λ v. v ∷ os) (λ _. os) (value_of c q s)
        (λ x s. then_do (decide b x s (λ x. choose c join inp.sender choice x s) (λ t. pick c join inp.sender choice t (tick s))) (λ _ s. act c join inp.sender rest s))
        (tree_does inp code c q pc m os s (has_front code pc (tree_code c q) (x ++ y) has) len named.0.question)
        (λ v u. bind inp code m after end (v ∷ os) u (λ _. os) (λ _. os) (decide b v u (λ x. choose c join inp.sender choice x u) (λ t. pick c join inp.sender choice t (tick u))) (λ _ s. act c join inp.sender rest s)
        (decision_does inp code c b choice v n a m after bodies others os u (λ x. choose c join inp.sender choice x u) (λ t. pick c join inp.sender choice t (tick u))
        (has_front code m x y has_m) (integer_answered c q choice named.0.answered)
        (λ g t h. subst (λ k. Does inp code (picked c n choice t) os (tick u) k (λ _. os) (pick c join inp.sender choice t (tick u))) (ap (λ b. after_choice c b m choice) (sym g))
        (pick_does choice q t n after1 os (tick u) h (truth_answered c q choice t named.0.answered g) g named.1 sends.0 leads.0))
        (λ g z h. subst (λ k. Does inp code m (Int z ∷ os) u k (λ _. os) (choose c join inp.sender choice z u)) (ap (λ b. after_choice c b m choice) (sym g))
        (let tests = tests_code c a choice in
        let len_t : m + length tests ≡ f = omega (arith, tests_are c a choice) in
        let len_e : f + length (else_code c to f after2 choice) ≡ a = omega (arith, else_size_is c to f after2 choice) in
        let has_f = has_back code m tests others f len_t h in
        choose_does choice q z m f a after2 os u (has_front code m tests others h)
        (has_front code f (else_code c to f after2 choice) (answers_code c to a after2 choice) has_f)
        (has_back code f (else_code c to f after2 choice) (answers_code c to a after2 choice) a len_e has_f)
        refl (integer_answered c q choice named.0.answered g) g named.1 sends.0 leads.0)))
        (λ _ w. text_does rest after end os w (has_back code m x y after len_x has_m) len_y named.2 sends.1 leads.1))

    -- The answers to an Integer question: tests at m, the body of ELSE at f, the bodies of the answers from a on.
    choose_does : (choice : Choice) (q : Tree) (z : ℤ) (m f a after : ℕ) (os : List Value) (s : Progress) → HasAt code m (tests_code c a choice) → HasAt code f (else_code c to f after choice) → HasAt code a (answers_code c to a after choice)
        → m + tests_size choice ≡ f → has_else choice ≡ true → is_truth c q ≡ false → NamedChoice c q choice → ChoiceAnswers c from choice → ChoiceJoin Leads choice
        → Does inp code m (Int z ∷ os) s after (λ _. os) (choose c join inp.sender choice z s)
    choose_does nothing_else q z m f a after os s tests else_has has e there g named sends leads = absurd (let k : ⊥ = cc in k)
    choose_does (otherwise body) q z m f a after os s tests else_has has e there g named sends leads =
        let x = text_code c to f body in
        let mid = f + size (variables_of c.process) body in
        let len : f + length x ≡ mid = omega (arith, text_size_is c to f body) in
        after_one inp code m f after (Int z ∷ os) os s (λ _. os) i.Drop (leave (act c join inp.sender body (tick s))) tests.0 (ap (λ n. goes n os (tick s)) e)
        (body_leaves inp code body f mid after os (tick s) (act c join inp.sender body (tick s)) (has_back code f x (leave_code after body) mid len else_has)
        (λ h. act_over c join inp.sender joins_over body (tick s) h)
        (text_does body f mid os (tick s) (has_front code f x (leave_code after body) else_has) refl named sends leads))
    choose_does (answer at rs body others) q z m f a after os s tests else_has has e there g named sends leads =
        let b = a + body_size c body in
        let m2 = m + length rs in
        let x = text_code c to a body in
        let y = answers_code c to b after others in
        let mid = a + size (variables_of c.process) body in
        let len_r : m + length (ranges_code a rs) ≡ m2 = ap (λ n. m + n) (length-map rs (range_code a)) in
        let len_x : a + length x ≡ mid = omega (arith, text_size_is c to a body) in
        let len_y : mid + length (leave_code after body) ≡ b = omega (arith, leave_size after body) in
        let has_mid = has_back code a x (leave_code after body ++ y) mid len_x has in
        tries_do inp code rs z m m2 a after os s (λ s. leave (act c join inp.sender body s)) (λ s. choose c join inp.sender others z s)
        (are_numbers c q rs g named.0) (has_front code m (ranges_code a rs) (tests_code c b others) tests) refl
        (λ u. body_leaves inp code body a mid after os u (act c join inp.sender body u) (has_front code mid (leave_code after body) y has_mid)
        (λ h. act_over c join inp.sender joins_over body u h)
        (text_does body a mid os u (has_front code a x (leave_code after body ++ y) has) refl named.1 sends.0 leads.0))
        (λ u. choose_does others q z m2 f b after os u (has_back code m (ranges_code a rs) (tests_code c b others) m2 len_r tests) else_has
        (has_back code mid (leave_code after body) y b len_y has_mid) (omega (arith, e)) there g named.2 sends.1 leads.1)

    -- The answers to a Boolean question, whose bodies start at n.
    pick_does : (choice : Choice) (q : Tree) (b : Bool) (n after : ℕ) (os : List Value) (s : Progress) → HasAt code n (bodies_code c to n after choice) → answers b choice ≡ true → is_truth c q ≡ true
        → NamedChoice c q choice → ChoiceAnswers c from choice → ChoiceJoin Leads choice → Does inp code (picked c n choice b) os s after (λ _. os) (pick c join inp.sender choice b s)
    pick_does nothing_else q b n after os s has there g named sends leads = absurd (let k : ⊥ = cc in k)
    pick_does (otherwise body) q b n after os s has there g named sends leads =
        let x = text_code c to n body in
        let mid = n + size (variables_of c.process) body in
        let len : n + length x ≡ mid = omega (arith, text_size_is c to n body) in
        body_leaves inp code body n mid after os s (act c join inp.sender body s) (has_back code n x (leave_code after body) mid len has)
        (λ h. act_over c join inp.sender joins_over body s h)
        (text_does body n mid os s (has_front code n x (leave_code after body) has) refl named sends leads)
    pick_does (answer at rs body others) q b n after os s has there g named sends leads =
        let k = n + body_size c body in
        let x = text_code c to n body in
        let y = bodies_code c to k after others in
        let mid = n + size (variables_of c.process) body in
        let len_x : n + length x ≡ mid = omega (arith, text_size_is c to n body) in
        let len_y : mid + length (leave_code after body) ≡ k = omega (arith, leave_size after body) in
        let has_mid = has_back code n x (leave_code after body ++ y) mid len_x has in
        subst (λ o. Does inp code (picked c n (answer at rs body others) b) os s after (λ _. os) (then_do o (λ found s. cond found (leave (act c join inp.sender body s)) (pick c join inp.sender others b s))))
        (sym (find_is rs b s (are_truths c q rs g named.0)))
        (by_test (list_any (names_truth b) rs) there
        (body_leaves inp code body n mid after os s (act c join inp.sender body s) (has_front code mid (leave_code after body) y has_mid)
        (λ h. act_over c join inp.sender joins_over body s h)
        (text_does body n mid os s (has_front code n x (leave_code after body ++ y) has) refl named.1 sends.0 leads.0))
        (λ h. pick_does others q b k after os s (has_back code mid (leave_code after body) y k len_y has_mid) h g named.2 sends.1 leads.1))
      where
        by_test : (t : Bool) → t || answers b others ≡ true → Does inp code n os s after (λ _. os) (leave (act c join inp.sender body s))
            → (answers b others ≡ true → Does inp code (picked c (n + body_size c body) others b) os s after (λ _. os) (pick c join inp.sender others b s))
            → Does inp code (cond t n (picked c (n + body_size c body) others b)) os s after (λ _. os) (cond t (leave (act c join inp.sender body s)) (pick c join inp.sender others b s))
        by_test true h first second = first
        by_test false h first second = second h
