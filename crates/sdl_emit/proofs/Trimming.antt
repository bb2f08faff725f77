-- The code of a text without its quoted TASKs is that of the text, and its names are there.
use Rattle.std.proofs.Common.{◌≡◌, ℕ, ◌+◌, Bool, true, false, cond, ◌&&◌, ◌||◌, List, [], ◌∷◌, ◌++◌, length, refl, sym, ap, ◌∙◌, arith}
use Rattle.sdl_ast.specs.Plain.{Tree, PlainAction, task, output, set_timer, reset_timer, Text, falls, ends, does, decides, Choice, nothing_else, otherwise, answer}
use Rattle.sdl_tables.specs.Names.{Variable, variables_of}
use Rattle.sdl_sound.specs.Going.{goes_on, choice_goes_on}
use Rattle.sdl_sound.specs.Sorts as sorts
use Rattle.sdl_sound.specs.Longest.{cost_of, action_cost, jump_size, tests_size, size, bodies_size}
use Rattle.sdl_sound.specs.Decisions.{has_else, has_values, names_value, times_named, answers_both, is_answered}
use Rattle.sdl_meaning.specs.Act.{is_truth}
use Rattle.sdl_meaning.specs.Outcomes.{Scope}
use Rattle.sdl_meaning.specs.Named.{NamedAction, NamedText, NamedChoice}
use Rattle.std.specs.Prelude.{nat_lt, nat_eq}
use Rattle.std.specs.List.{list_any, sum_by}
use Rattle.turn_code.specs.declared.instruction.Instruction.{Instruction}
use Rattle.turn_code.specs.declared.instruction.Instruction.TheVariants as i
use Rattle.sdl_meaning.specs.Code.{jump, tree_code, action_code, leave_code, body_size, else_size, ranges_code, tests_code, names_truth, picked, pick_code, bodies_place, else_place, answers_place, after_choice, text_code, else_code, answers_code, bodies_code, truth_code, integer_code, code_joins, else_joins, answers_joins, bodies_joins}
use Rattle.sdl_emit.specs.Trimmed.{kept, trimmed, trimmed_choice}

-- ---- whether it goes on

kept_goes : (a : PlainAction) (t : Text) → goes_on (kept a t) ≡ goes_on t
kept_goes (task at []) t = refl
kept_goes (task at (x ∷ xs)) t = refl
kept_goes (output at xs to) t = refl
kept_goes (set_timer at x n) t = refl
kept_goes (reset_timer at n) t = refl

mutual
  pub goes_same : (t : Text) → goes_on (trimmed t) ≡ goes_on t
  goes_same falls = refl
  goes_same (ends e) = refl
  goes_same (does a rest) = kept_goes a (trimmed rest) ∙ goes_same rest
  goes_same (decides at q c rest) = ap (λ b. b && goes_on (trimmed rest)) (choice_goes_same c) ∙ ap (λ b. choice_goes_on c && b) (goes_same rest)

  pub choice_goes_same : (c : Choice) → choice_goes_on (trimmed_choice c) ≡ choice_goes_on c
  choice_goes_same nothing_else = refl
  choice_goes_same (otherwise body) = goes_same body
  choice_goes_same (answer at rs body others) =
      ap (λ b. b || choice_goes_on (trimmed_choice others)) (goes_same body) ∙ ap (λ b. goes_on body || b) (choice_goes_same others)

-- ---- its size

pub jump_same : (t : Text) → jump_size (trimmed t) ≡ jump_size t
jump_same t = ap (λ b. cond {A = ℕ} b 1 0) (goes_same t)

pub tests_same : (c : Choice) → tests_size (trimmed_choice c) ≡ tests_size c
tests_same nothing_else = refl
tests_same (otherwise body) = refl
tests_same (answer at rs body others) = ap (λ n. length rs + n) (tests_same others)

module _ (vs : List Variable) where
  kept_size : (a : PlainAction) (t : Text) → size vs (kept a t) ≡ action_cost a + size vs t
  kept_size (task at []) t = omega arith
  kept_size (task at (x ∷ xs)) t = refl
  kept_size (output at xs to) t = refl
  kept_size (set_timer at x n) t = refl
  kept_size (reset_timer at n) t = refl

  mutual
    pub size_same : (t : Text) → size vs (trimmed t) ≡ size vs t
    size_same falls = refl
    size_same (ends e) = refl
    size_same (does a rest) = kept_size a (trimmed rest) ∙ ap (λ n. action_cost a + n) (size_same rest)
    size_same (decides at q c rest) =
        let b = sorts.is_truth vs q in
        let tests : cond {A = ℕ} b 1 (tests_size (trimmed_choice c)) ≡ cond {A = ℕ} b 1 (tests_size c) = ap (λ n. cond {A = ℕ} b 1 n) (tests_same c) in
        let bodies = bodies_same c in
        let rests = size_same rest in
        omega (arith, tests, bodies, rests)

    pub bodies_same : (c : Choice) → bodies_size vs (trimmed_choice c) ≡ bodies_size vs c
    bodies_same nothing_else = refl
    bodies_same (otherwise body) = let s = size_same body in omega (arith, s, jump_same body)
    bodies_same (answer at rs body others) =
        let s = size_same body in
        let o = bodies_same others in
        omega (arith, s, jump_same body, o)

-- ---- its JOINs

module _ (c : Scope) where
  kept_joins : (a : PlainAction) (t : Text) → code_joins c (kept a t) ≡ code_joins c t
  kept_joins (task at []) t = refl
  kept_joins (task at (x ∷ xs)) t = refl
  kept_joins (output at xs to) t = refl
  kept_joins (set_timer at x n) t = refl
  kept_joins (reset_timer at n) t = refl

  mutual
    pub joins_same : (t : Text) → code_joins c (trimmed t) ≡ code_joins c t
    joins_same falls = refl
    joins_same (ends e) = refl
    joins_same (does a rest) = kept_joins a (trimmed rest) ∙ joins_same rest
    joins_same (decides at q choice rest) =
        let b = is_truth c q in
        ap (λ l. cond b l (else_joins c (trimmed_choice choice) ++ answers_joins c (trimmed_choice choice)) ++ code_joins c (trimmed rest)) (bodies_joins_same choice)
        ∙ ap (λ l. cond b (bodies_joins c choice) (l ++ answers_joins c (trimmed_choice choice)) ++ code_joins c (trimmed rest)) (else_joins_same choice)
        ∙ ap (λ l. cond b (bodies_joins c choice) (else_joins c choice ++ l) ++ code_joins c (trimmed rest)) (answers_joins_same choice)
        ∙ ap (λ l. cond b (bodies_joins c choice) (else_joins c choice ++ answers_joins c choice) ++ l) (joins_same rest)

    else_joins_same : (choice : Choice) → else_joins c (trimmed_choice choice) ≡ else_joins c choice
    else_joins_same nothing_else = refl
    else_joins_same (otherwise body) = joins_same body
    else_joins_same (answer at rs body others) = else_joins_same others

    answers_joins_same : (choice : Choice) → answers_joins c (trimmed_choice choice) ≡ answers_joins c choice
    answers_joins_same nothing_else = refl
    answers_joins_same (otherwise body) = refl
    answers_joins_same (answer at rs body others) = ap (λ l. l ++ answers_joins c (trimmed_choice others)) (joins_same body) ∙ ap (λ l. code_joins c body ++ l) (answers_joins_same others)

    bodies_joins_same : (choice : Choice) → bodies_joins c (trimmed_choice choice) ≡ bodies_joins c choice
    bodies_joins_same nothing_else = refl
    bodies_joins_same (otherwise body) = joins_same body
    bodies_joins_same (answer at rs body others) = ap (λ l. l ++ bodies_joins c (trimmed_choice others)) (joins_same body) ∙ ap (λ l. code_joins c body ++ l) (bodies_joins_same others)

-- ---- its code

leave_code_same : (after : ℕ) (t : Text) → leave_code after (trimmed t) ≡ leave_code after t
leave_code_same after t = ap (λ b. cond {A = List Instruction} b (jump after ∷ []) []) (goes_same t)

module _ (c : Scope) where
  body_size_same : (t : Text) → body_size c (trimmed t) ≡ body_size c t
  body_size_same t = let s = size_same (variables_of c.process) t in omega (arith, s, jump_same t)

  else_size_same : (choice : Choice) → else_size c (trimmed_choice choice) ≡ else_size c choice
  else_size_same nothing_else = refl
  else_size_same (otherwise body) = body_size_same body
  else_size_same (answer at rs body others) = else_size_same others

  tests_code_same : (choice : Choice) (n : ℕ) → tests_code c n (trimmed_choice choice) ≡ tests_code c n choice
  tests_code_same nothing_else n = refl
  tests_code_same (otherwise body) n = refl
  tests_code_same (answer at rs body others) n =
      ap (λ k. ranges_code n rs ++ tests_code c (n + k) (trimmed_choice others)) (body_size_same body) ∙ ap (λ l. ranges_code n rs ++ l) (tests_code_same others (n + body_size c body))

  picked_same : (choice : Choice) (n : ℕ) (b : Bool) → picked c n (trimmed_choice choice) b ≡ picked c n choice b
  picked_same nothing_else n b = refl
  picked_same (otherwise body) n b = refl
  picked_same (answer at rs body others) n b =
      ap (λ k. cond (list_any (names_truth b) rs) n (picked c (n + k) (trimmed_choice others) b)) (body_size_same body)
      ∙ ap (λ k. cond (list_any (names_truth b) rs) n k) (picked_same others (n + body_size c body) b)

  pick_same : (choice : Choice) (n : ℕ) → pick_code c n (trimmed_choice choice) ≡ pick_code c n choice
  pick_same choice n =
      ap (λ k. i.Pick (record { 0 = k }) (record { 0 = picked c n (trimmed_choice choice) true })) (picked_same choice n false)
      ∙ ap (λ k. i.Pick (record { 0 = picked c n choice false }) (record { 0 = k })) (picked_same choice n true)

  else_place_same : (choice : Choice) (n : ℕ) → else_place n (trimmed_choice choice) ≡ else_place n choice
  else_place_same choice n = ap (λ k. n + k) (tests_same choice)

  answers_place_same : (choice : Choice) (n : ℕ) → answers_place c n (trimmed_choice choice) ≡ answers_place c n choice
  answers_place_same choice n = let t = tests_same choice in let e = else_size_same choice in omega (arith, t, e)

  after_same : (choice : Choice) (b : Bool) (n : ℕ) → after_choice c b n (trimmed_choice choice) ≡ after_choice c b n choice
  after_same choice b n =
      let t : cond {A = ℕ} b 1 (tests_size (trimmed_choice choice)) ≡ cond {A = ℕ} b 1 (tests_size choice) = ap (λ k. cond {A = ℕ} b 1 k) (tests_same choice) in
      let s = bodies_same (variables_of c.process) choice in
      omega (arith, t, s)

  kept_code : (to : ℕ → ℕ) (a : PlainAction) (t : Text) (n : ℕ) → text_code c to n (kept a t) ≡ action_code c a ++ text_code c to (n + action_cost a) t
  kept_code to (task at []) t n = let e : n ≡ n + 0 = omega arith in ap (λ k. text_code c to k t) e
  kept_code to (task at (x ∷ xs)) t n = refl
  kept_code to (output at xs r) t n = refl
  kept_code to (set_timer at x y) t n = refl
  kept_code to (reset_timer at x) t n = refl

  module _ (to : ℕ → ℕ) where
    body_code_same : (body : Text) (n after : ℕ) → text_code c to n (trimmed body) ≡ text_code c to n body
        → text_code c to n (trimmed body) ++ leave_code after (trimmed body) ≡ text_code c to n body ++ leave_code after body
    body_code_same body n after h = ap (λ l. l ++ leave_code after (trimmed body)) h ∙ ap (λ l. text_code c to n body ++ l) (leave_code_same after body)

    then_same : (body : Text) (n after : ℕ) (xs ys : List Instruction) → text_code c to n (trimmed body) ≡ text_code c to n body → xs ≡ ys
        → text_code c to n (trimmed body) ++ (leave_code after (trimmed body) ++ xs) ≡ text_code c to n body ++ (leave_code after body ++ ys)
    then_same body n after xs ys h e =
        ap (λ l. l ++ (leave_code after (trimmed body) ++ xs)) h ∙ ap (λ l. text_code c to n body ++ (l ++ xs)) (leave_code_same after body)
        ∙ ap (λ l. text_code c to n body ++ (leave_code after body ++ l)) e

    mutual
      pub code_same : (t : Text) (n : ℕ) → text_code c to n (trimmed t) ≡ text_code c to n t
      code_same falls n = refl
      code_same (ends e) n = refl
      code_same (does a rest) n = kept_code to a (trimmed rest) n ∙ ap (λ l. action_code c a ++ l) (code_same rest (n + action_cost a))
      code_same (decides at q choice rest) n =
          let b = is_truth c q in
          let x = trimmed_choice choice in
          let m = n + cost_of q in
          let truths : truth_code c to m x ≡ truth_code c to m choice =
          ap (λ k. k ∷ bodies_code c to (bodies_place m) (after_choice c true m x) x) (pick_same choice (bodies_place m))
          ∙ ap (λ k. pick_code c (bodies_place m) choice ∷ bodies_code c to (bodies_place m) k x) (after_same choice true m)
          ∙ ap (λ l. pick_code c (bodies_place m) choice ∷ l) (bodies_code_same choice (bodies_place m) (after_choice c true m choice)) in
          let integers : integer_code c to m x ≡ integer_code c to m choice =
          ap (λ p. tests_code c p x ++ (else_code c to (else_place m x) (after_choice c false m x) x ++ answers_code c to p (after_choice c false m x) x)) (answers_place_same choice m)
          ∙ ap (λ p. tests_code c (answers_place c m choice) x ++ (else_code c to p (after_choice c false m x) x ++ answers_code c to (answers_place c m choice) (after_choice c false m x) x)) (else_place_same choice m)
          ∙ ap (λ p. tests_code c (answers_place c m choice) x ++ (else_code c to (else_place m choice) p x ++ answers_code c to (answers_place c m choice) p x)) (after_same choice false m)
          ∙ ap (λ l. l ++ (else_code c to (else_place m choice) (after_choice c false m choice) x ++ answers_code c to (answers_place c m choice) (after_choice c false m choice) x)) (tests_code_same choice (answers_place c m choice))
          ∙ ap (λ l. tests_code c (answers_place c m choice) choice ++ (l ++ answers_code c to (answers_place c m choice) (after_choice c false m choice) x)) (else_code_same choice (else_place m choice) (after_choice c false m choice))
          ∙ ap (λ l. tests_code c (answers_place c m choice) choice ++ (else_code c to (else_place m choice) (after_choice c false m choice) choice ++ l)) (answers_code_same choice (answers_place c m choice) (after_choice c false m choice)) in
          ap (λ l. tree_code c q ++ (cond b l (integer_code c to m x) ++ text_code c to (after_choice c b m x) (trimmed rest))) truths
          ∙ ap (λ l. tree_code c q ++ (cond b (truth_code c to m choice) l ++ text_code c to (after_choice c b m x) (trimmed rest))) integers
          ∙ ap (λ p. tree_code c q ++ (cond b (truth_code c to m choice) (integer_code c to m choice) ++ text_code c to p (trimmed rest))) (after_same choice b m)
          ∙ ap (λ l. tree_code c q ++ (cond b (truth_code c to m choice) (integer_code c to m choice) ++ l)) (code_same rest (after_choice c b m choice))

      else_code_same : (choice : Choice) (n after : ℕ) → else_code c to n after (trimmed_choice choice) ≡ else_code c to n after choice
      else_code_same nothing_else n after = refl
      else_code_same (otherwise body) n after = body_code_same body n after (code_same body n)
      else_code_same (answer at rs body others) n after = else_code_same others n after

      answers_code_same : (choice : Choice) (n after : ℕ) → answers_code c to n after (trimmed_choice choice) ≡ answers_code c to n after choice
      answers_code_same nothing_else n after = refl
      answers_code_same (otherwise body) n after = refl
      answers_code_same (answer at rs body others) n after =
          then_same body n after (answers_code c to (n + body_size c (trimmed body)) after (trimmed_choice others)) (answers_code c to (n + body_size c body) after others) (code_same body n)
          (ap (λ k. answers_code c to (n + k) after (trimmed_choice others)) (body_size_same body) ∙ answers_code_same others (n + body_size c body) after)

      bodies_code_same : (choice : Choice) (n after : ℕ) → bodies_code c to n after (trimmed_choice choice) ≡ bodies_code c to n after choice
      bodies_code_same nothing_else n after = refl
      bodies_code_same (otherwise body) n after = body_code_same body n after (code_same body n)
      bodies_code_same (answer at rs body others) n after =
          then_same body n after (bodies_code c to (n + body_size c (trimmed body)) after (trimmed_choice others)) (bodies_code c to (n + body_size c body) after others) (code_same body n)
          (ap (λ k. bodies_code c to (n + k) after (trimmed_choice others)) (body_size_same body) ∙ bodies_code_same others (n + body_size c body) after)

-- ---- its names

has_else_same : (choice : Choice) → has_else (trimmed_choice choice) ≡ has_else choice
has_else_same nothing_else = refl
has_else_same (otherwise body) = refl
has_else_same (answer at rs body others) = has_else_same others

has_values_same : (choice : Choice) → has_values (trimmed_choice choice) ≡ has_values choice
has_values_same nothing_else = refl
has_values_same (otherwise body) = refl
has_values_same (answer at rs body others) = ap (λ b. nat_lt 0 (length rs) && b) (has_values_same others)

times_same : (b : Bool) (choice : Choice) → times_named b (trimmed_choice choice) ≡ times_named b choice
times_same b nothing_else = refl
times_same b (otherwise body) = refl
times_same b (answer at rs body others) = ap (λ k. sum_by (names_value b) rs + k) (times_same b others)

both_same : (choice : Choice) → answers_both (trimmed_choice choice) ≡ answers_both choice
both_same choice =
    let x = trimmed_choice choice in
    ap (λ e. cond {A = Bool} e (nat_lt (times_named true x + times_named false x) 2) (nat_eq (times_named true x) 1 && nat_eq (times_named false x) 1)) (has_else_same choice)
    ∙ ap (λ k. cond {A = Bool} (has_else choice) (nat_lt (k + times_named false x) 2) (nat_eq k 1 && nat_eq (times_named false x) 1)) (times_same true choice)
    ∙ ap (λ k. cond {A = Bool} (has_else choice) (nat_lt (times_named true choice + k) 2) (nat_eq (times_named true choice) 1 && nat_eq k 1)) (times_same false choice)

answered_same : (vs : List Variable) (q : Tree) (choice : Choice) → is_answered vs q (trimmed_choice choice) ≡ is_answered vs q choice
answered_same vs q choice =
    ap (λ b. b && cond {A = Bool} (sorts.is_truth vs q) (answers_both (trimmed_choice choice)) (has_else (trimmed_choice choice))) (has_values_same choice)
    ∙ ap (λ b. has_values choice && cond {A = Bool} (sorts.is_truth vs q) b (has_else (trimmed_choice choice))) (both_same choice)
    ∙ ap (λ b. has_values choice && cond {A = Bool} (sorts.is_truth vs q) (answers_both choice) b) (has_else_same choice)

module _ (c : Scope) where
  kept_named : (a : PlainAction) (t : Text) → NamedAction c a → NamedText c t → NamedText c (kept a t)
  kept_named (task at []) t h k = k
  kept_named (task at (x ∷ xs)) t h k = (h, k)
  kept_named (output at xs to) t h k = (h, k)
  kept_named (set_timer at x n) t h k = (h, k)
  kept_named (reset_timer at n) t h k = (h, k)

  mutual
    pub named_same : (t : Text) → NamedText c t → NamedText c (trimmed t)
    named_same falls h = tt
    named_same (ends e) h = h
    named_same (does a rest) h = kept_named a (trimmed rest) h.0 (named_same rest h.1)
    named_same (decides at q choice rest) h = (
      record {
        question = h.0.question;
        answered = answered_same (variables_of c.process) q choice ∙ h.0.answered;
        reached = λ stops. ap trimmed (h.0.reached (sym (choice_goes_same choice) ∙ stops));
      },
      choice_named_same q choice h.1,
      named_same rest h.2,
    )

    pub choice_named_same : (q : Tree) (choice : Choice) → NamedChoice c q choice → NamedChoice c q (trimmed_choice choice)
    choice_named_same q nothing_else h = tt
    choice_named_same q (otherwise body) h = named_same body h
    choice_named_same q (answer at rs body others) h = (h.0, named_same body h.1, choice_named_same q others h.2)
