-- The sets of variables in a text without its quoted TASKs are those of the text.
use Rattle.std.proofs.Common.{◌≡◌, cond, List, [], ◌∷◌, ◌++◌, refl, ap, ◌∙◌}
use Rattle.sdl_ast.specs.Plain.{PlainAction, task, output, set_timer, reset_timer, Text, falls, ends, does, decides, Choice, nothing_else, otherwise, answer}
use Rattle.turn_code.specs.declared.variable_set.VariableSet.{VariableSet}
use Rattle.sdl_meaning.specs.Act.{is_truth}
use Rattle.sdl_meaning.specs.Outcomes.{Scope}
use Rattle.sdl_compile.specs.Reads.{action_set, everything, meet, left, answers_left, else_left, choice_left}
use Rattle.sdl_compile.specs.Entries.{met, answers_met, else_met}
use Rattle.sdl_compile.specs.Facts.{tree_sets, action_sets, ranges_sets, tests_sets, leave_sets, text_sets, else_sets, answers_sets}
use Rattle.sdl_emit.proofs.Trimming.{goes_same}
use Rattle.sdl_emit.specs.Trimmed.{kept, trimmed, trimmed_choice}

-- ---- the variables that are set after a text

module _ (c : Scope) where
  kept_left : (a : PlainAction) (t : Text) (m : VariableSet) → left c m (kept a t) ≡ left c (action_set c m a) t
  kept_left (task at []) t m = refl
  kept_left (task at (x ∷ xs)) t m = refl
  kept_left (output at xs to) t m = refl
  kept_left (set_timer at x n) t m = refl
  kept_left (reset_timer at n) t m = refl

  mutual
    pub left_same : (t : Text) (m : VariableSet) → left c m (trimmed t) ≡ left c m t
    left_same falls m = refl
    left_same (ends e) m = refl
    left_same (does a rest) m = kept_left a (trimmed rest) m ∙ left_same rest (action_set c m a)
    left_same (decides at q choice rest) m =
        ap (λ x. left c (meet x (else_left c m (trimmed_choice choice))) (trimmed rest)) (answers_left_same choice m everything)
        ∙ ap (λ x. left c (meet (answers_left c m everything choice) x) (trimmed rest)) (else_left_same choice m)
        ∙ left_same rest (choice_left c m choice)

    answers_left_same : (choice : Choice) (m all : VariableSet) → answers_left c m all (trimmed_choice choice) ≡ answers_left c m all choice
    answers_left_same nothing_else m all = refl
    answers_left_same (otherwise body) m all = refl
    answers_left_same (answer at rs body others) m all =
        ap (λ x. answers_left c m (meet all x) (trimmed_choice others)) (left_same body m) ∙ answers_left_same others m (meet all (left c m body))

    else_left_same : (choice : Choice) (m : VariableSet) → else_left c m (trimmed_choice choice) ≡ else_left c m choice
    else_left_same nothing_else m = refl
    else_left_same (otherwise body) m = left_same body m
    else_left_same (answer at rs body others) m = else_left_same others m

  pub choice_left_same : (choice : Choice) (m : VariableSet) → choice_left c m (trimmed_choice choice) ≡ choice_left c m choice
  choice_left_same choice m =
      ap (λ x. meet x (else_left c m (trimmed_choice choice))) (answers_left_same choice m everything) ∙ ap (λ x. meet (answers_left c m everything choice) x) (else_left_same choice m)

-- ---- the JOINs, with the variables that are set there

module _ (c : Scope) where
  kept_met : (a : PlainAction) (t : Text) (m : VariableSet) (es : List VariableSet) → met c m (kept a t) es ≡ met c (action_set c m a) t es
  kept_met (task at []) t m es = refl
  kept_met (task at (x ∷ xs)) t m es = refl
  kept_met (output at xs to) t m es = refl
  kept_met (set_timer at x n) t m es = refl
  kept_met (reset_timer at n) t m es = refl

  mutual
    pub met_same : (t : Text) (m : VariableSet) (es : List VariableSet) → met c m (trimmed t) es ≡ met c m t es
    met_same falls m es = refl
    met_same (ends e) m es = refl
    met_same (does a rest) m es = kept_met a (trimmed rest) m es ∙ met_same rest (action_set c m a) es
    met_same (decides at q choice rest) m es =
        let b = is_truth c q in
        let x = trimmed_choice choice in
        ap (λ s. met c s (trimmed rest) (cond b (else_met c m x (answers_met c m x es)) (answers_met c m x (else_met c m x es)))) (choice_left_same c choice m)
        ∙ ap (met c (choice_left c m choice) (trimmed rest))
        (ap (λ l. cond b l (answers_met c m x (else_met c m x es))) (else_met_same choice m (answers_met c m x es) ∙ ap (else_met c m choice) (answers_met_same choice m es))
        ∙ ap (λ l. cond b (else_met c m choice (answers_met c m choice es)) l) (answers_met_same choice m (else_met c m x es) ∙ ap (answers_met c m choice) (else_met_same choice m es)))
        ∙ met_same rest (choice_left c m choice) (cond b (else_met c m choice (answers_met c m choice es)) (answers_met c m choice (else_met c m choice es)))

    answers_met_same : (choice : Choice) (m : VariableSet) (es : List VariableSet) → answers_met c m (trimmed_choice choice) es ≡ answers_met c m choice es
    answers_met_same nothing_else m es = refl
    answers_met_same (otherwise body) m es = refl
    answers_met_same (answer at rs body others) m es = answers_met_same others m (met c m (trimmed body) es) ∙ ap (answers_met c m others) (met_same body m es)

    else_met_same : (choice : Choice) (m : VariableSet) (es : List VariableSet) → else_met c m (trimmed_choice choice) es ≡ else_met c m choice es
    else_met_same nothing_else m es = refl
    else_met_same (otherwise body) m es = met_same body m es
    else_met_same (answer at rs body others) m es = else_met_same others m es

-- ---- the sets at the places of a text

leave_same : (t : Text) (m : VariableSet) → leave_sets m (trimmed t) ≡ leave_sets m t
leave_same t m = ap (λ b. cond {A = List VariableSet} b (m ∷ []) []) (goes_same t)

pub tests_sets_same : (choice : Choice) (m : VariableSet) → tests_sets m (trimmed_choice choice) ≡ tests_sets m choice
tests_sets_same nothing_else m = refl
tests_sets_same (otherwise body) m = refl
tests_sets_same (answer at rs body others) m = ap (λ l. ranges_sets m rs ++ l) (tests_sets_same others m)

module _ (c : Scope) where
  kept_sets : (a : PlainAction) (t : Text) (m : VariableSet) → text_sets c m (kept a t) ≡ action_sets c m a ++ text_sets c (action_set c m a) t
  kept_sets (task at []) t m = refl
  kept_sets (task at (x ∷ xs)) t m = refl
  kept_sets (output at xs to) t m = refl
  kept_sets (set_timer at x n) t m = refl
  kept_sets (reset_timer at n) t m = refl

  -- a body with the jump that ends it
  body_same : (body : Text) (m : VariableSet) → text_sets c m (trimmed body) ≡ text_sets c m body
      → text_sets c m (trimmed body) ++ leave_sets (left c m (trimmed body)) (trimmed body) ≡ text_sets c m body ++ leave_sets (left c m body) body
  body_same body m h =
      ap (λ l. l ++ leave_sets (left c m (trimmed body)) (trimmed body)) h
      ∙ ap (λ l. text_sets c m body ++ l) (leave_same body (left c m (trimmed body)) ∙ ap (λ x. leave_sets x body) (left_same c body m))

  mutual
    pub sets_same : (t : Text) (m : VariableSet) → text_sets c m (trimmed t) ≡ text_sets c m t
    sets_same falls m = refl
    sets_same (ends e) m = refl
    sets_same (does a rest) m = kept_sets a (trimmed rest) m ∙ ap (λ l. action_sets c m a ++ l) (sets_same rest (action_set c m a))
    sets_same (decides at q choice rest) m =
        let b = is_truth c q in
        let x = trimmed_choice choice in
        let h = tree_sets m q in
        let inside : cond b (m ∷ (answers_sets c m x ++ else_sets c m x)) (tests_sets m x ++ (else_sets c m x ++ answers_sets c m x))
        ≡ cond b (m ∷ (answers_sets c m choice ++ else_sets c m choice)) (tests_sets m choice ++ (else_sets c m choice ++ answers_sets c m choice)) =
        ap (λ l. cond b (m ∷ (l ++ else_sets c m x)) (tests_sets m x ++ (else_sets c m x ++ l))) (answers_sets_same choice m)
        ∙ ap (λ l. cond b (m ∷ (answers_sets c m choice ++ l)) (tests_sets m x ++ (l ++ answers_sets c m choice))) (else_sets_same choice m)
        ∙ ap (λ l. cond b (m ∷ (answers_sets c m choice ++ else_sets c m choice)) (l ++ (else_sets c m choice ++ answers_sets c m choice))) (tests_sets_same choice m) in
        ap (λ l. (h ++ l) ++ text_sets c (choice_left c m x) (trimmed rest)) inside
        ∙ ap (λ s. (h ++ cond b (m ∷ (answers_sets c m choice ++ else_sets c m choice)) (tests_sets m choice ++ (else_sets c m choice ++ answers_sets c m choice))) ++ text_sets c s (trimmed rest)) (choice_left_same c choice m)
        ∙ ap (λ l. (h ++ cond b (m ∷ (answers_sets c m choice ++ else_sets c m choice)) (tests_sets m choice ++ (else_sets c m choice ++ answers_sets c m choice))) ++ l) (sets_same rest (choice_left c m choice))

    else_sets_same : (choice : Choice) (m : VariableSet) → else_sets c m (trimmed_choice choice) ≡ else_sets c m choice
    else_sets_same nothing_else m = refl
    else_sets_same (otherwise body) m = body_same body m (sets_same body m)
    else_sets_same (answer at rs body others) m = else_sets_same others m

    answers_sets_same : (choice : Choice) (m : VariableSet) → answers_sets c m (trimmed_choice choice) ≡ answers_sets c m choice
    answers_sets_same nothing_else m = refl
    answers_sets_same (otherwise body) m = refl
    answers_sets_same (answer at rs body others) m =
        ap (λ l. l ++ answers_sets c m (trimmed_choice others)) (body_same body m (sets_same body m))
        ∙ ap (λ l. (text_sets c m body ++ leave_sets (left c m body) body) ++ l) (answers_sets_same others m)
