-- Counts of a text, one construct at a time, up to 4,294,967,295.
use Rattle.std.proofs.Common.{◌≡◌, ℕ, zero, suc, ◌+◌, ◌<◌, ◌≤◌, max, Bool, true, false, not, ◌&&◌, ◌||◌, List, [], ◌∷◌, ◌++◌, length, take, drop, get_or, refl, ap, sym, ◌∙◌, arith, if◌then◌else◌}
use Rattle.std.proofs.lemmas.List.{take_more}
use Rattle.sdl_ast.specs.declared.tree.Range.{Range}
use Rattle.sdl_ast.specs.declared.tree.Statement.{Statement}
use Rattle.sdl_ast.specs.declared.tree.Answer.{Answer}
use Rattle.sdl_ast.specs.Plain.{Tree, Text, decides, Choice, nothing_else, otherwise, answer, PlainProcess}
use Rattle.sdl_ast.specs.Views.{statement_of, answer_of, statements_before, answers_before}
use Rattle.sdl_tables.specs.Names.{variables_of}
use Rattle.sdl_sound.specs.Longest.{cost_of, depth_of, tests_budget, budget, case_budget, pick_budget, depth, effects, size, bodies_size, tests_size, jump_size}
use Rattle.sdl_sound.specs.Going.{goes_on, choice_goes_on}
use Rattle.sdl_sound.specs.Sorts.{is_truth}
use Rattle.sdl_measures.specs.Measures.{capped}
use Rattle.sdl_measures.specs.Counting.{IsMeasured, AreMeasured, budget_named, effects_named, no_measure}
use Rattle.sdl_measures.specs.declared.measures.Measure.{Measure}

-- ---- tests

tests_push : (ranges : List Range) (r : Range) (b o : ℕ) → tests_budget (ranges ++ r ∷ []) b o ≡ 1 + max b (tests_budget ranges b o)
tests_push [] r b o = refl
tests_push (x ∷ ranges) r b o = ap (λ n. 1 + max b n) (tests_push ranges r b o)

pub tests_more : (ranges : List Range) (i : ℕ) (d : Range) (b o : ℕ) → i < length ranges → tests_budget (take (i + 1) ranges) b o ≡ 1 + max b (tests_budget (take i ranges) b o)
tests_more ranges i d b o within = ap (λ l. tests_budget l b o) (take_more ranges i d within) ∙ tests_push (take i ranges) (get_or ranges i d) b o

-- ---- constructs

-- The counts of a DECISION. `choice` is 1 for a Boolean question, which needs an instruction to choose, else 0.
pub decision_measured : (p : PlainProcess) (ms : List Measure) (at : ℕ) (q : Tree) (c : Choice) (t : Text) (k e : ℕ) (truth : Bool) (rest bodies : Measure) (cost deep choice : ℕ) (r : Measure)
    → truth ≡ is_truth (variables_of p) q → choice ≡ (if truth then 1 else 0)
    → cost ≡ capped (cost_of q) → deep ≡ capped (depth_of q)
    → r.budget ≡ capped (capped (cost + choice) + bodies.budget) → r.depth ≡ max deep (max bodies.depth rest.depth) → r.effects ≡ bodies.effects
    → r.size ≡ capped (capped (capped (cost + choice) + bodies.size) + rest.size) → r.goes_on ≡ (bodies.goes_on && rest.goes_on)
    → AreMeasured p ms truth c (budget (variables_of p) (budget_named p ms) t k) (effects (effects_named p ms) t e) bodies
    → IsMeasured p ms t k e rest → IsMeasured p ms (decides at q c t) k e r
decision_measured p ms at q c t k e true rest bodies cost deep choice r tr ch co de rb rd re rs rg b h = record {
  budget =
      let is : budget (variables_of p) (budget_named p ms) (decides at q c t) k ≡ cost_of q + (1 + pick_budget (variables_of p) (budget_named p ms) c (budget (variables_of p) (budget_named p ms) t k)) =
      ap (λ x. cost_of q + (if x then 1 + pick_budget (variables_of p) (budget_named p ms) c (budget (variables_of p) (budget_named p ms) t k) else case_budget (variables_of p) (budget_named p ms) c (budget (variables_of p) (budget_named p ms) t k))) (sym tr) in
      omega (arith, is, ch, co, rb, b.budget);
  depth = omega (arith, de, rd, b.depth, h.depth);
  effects = re ∙ b.effects;
  size =
      let is : size (variables_of p) (decides at q c t) ≡ cost_of q + 1 + bodies_size (variables_of p) c + size (variables_of p) t =
      ap (λ x. cost_of q + (if x then 1 else tests_size c) + bodies_size (variables_of p) c + size (variables_of p) t) (sym tr) in
      omega (arith, is, ch, co, rs, b.size, h.size);
  goes_on = rg ∙ ap (λ x. x && rest.goes_on) b.goes_on ∙ ap (λ x. choice_goes_on c && x) h.goes_on;
}
decision_measured p ms at q c t k e false rest bodies cost deep choice r tr ch co de rb rd re rs rg b h = record {
  budget =
      let is : budget (variables_of p) (budget_named p ms) (decides at q c t) k ≡ cost_of q + case_budget (variables_of p) (budget_named p ms) c (budget (variables_of p) (budget_named p ms) t k) =
      ap (λ x. cost_of q + (if x then 1 + pick_budget (variables_of p) (budget_named p ms) c (budget (variables_of p) (budget_named p ms) t k) else case_budget (variables_of p) (budget_named p ms) c (budget (variables_of p) (budget_named p ms) t k))) (sym tr) in
      omega (arith, is, ch, co, rb, b.budget);
  depth = omega (arith, de, rd, b.depth, h.depth);
  effects = re ∙ b.effects;
  size =
      let is : size (variables_of p) (decides at q c t) ≡ cost_of q + tests_size c + bodies_size (variables_of p) c + size (variables_of p) t =
      ap (λ x. cost_of q + (if x then 1 else tests_size c) + bodies_size (variables_of p) c + size (variables_of p) t) (sym tr) in
      omega (arith, is, ch, co, rs, b.size, h.size);
  goes_on = rg ∙ ap (λ x. x && rest.goes_on) b.goes_on ∙ ap (λ x. choice_goes_on c && x) h.goes_on;
}

jump_is : (body : Text) (on : Bool) (jump : ℕ) → jump ≡ (if on then 1 else 0) → on ≡ goes_on body → jump ≡ jump_size body
jump_is body on jump j h = j ∙ ap (λ b. if b then 1 else 0) h

pub else_measured : (p : PlainProcess) (ms : List Measure) (body : Text) (k e : ℕ) (truth : Bool) (inside : Measure) (jump away : ℕ) (r : Measure)
    → jump ≡ (if inside.goes_on then 1 else 0) → away ≡ (if not truth then 1 else 0)
    → r.budget ≡ capped (inside.budget + away) → r.depth ≡ inside.depth → r.effects ≡ inside.effects
    → r.size ≡ capped (capped (inside.size + jump) + away) → r.goes_on ≡ inside.goes_on
    → IsMeasured p ms body (1 + k) e inside → AreMeasured p ms truth (otherwise body) k e r
else_measured p ms body k e true inside jump away r j a rb rd re rs rg h = record {
  budget = omega (arith, a, rb, h.budget);
  depth = rd ∙ h.depth;
  effects = re ∙ h.effects;
  size = let jumps = jump_is body inside.goes_on jump j h.goes_on in omega (arith, jumps, a, rs, h.size);
  goes_on = rg ∙ h.goes_on;
}
else_measured p ms body k e false inside jump away r j a rb rd re rs rg h = record {
  budget = omega (arith, a, rb, h.budget);
  depth = rd ∙ h.depth;
  effects = re ∙ h.effects;
  size = let jumps = jump_is body inside.goes_on jump j h.goes_on in omega (arith, jumps, a, rs, h.size);
  goes_on = rg ∙ h.goes_on;
}

pub none_measured : (p : PlainProcess) (ms : List Measure) (k e : ℕ) (truth : Bool) → AreMeasured p ms truth nothing_else k e no_measure
none_measured p ms k e true = record { budget = refl; depth = refl; effects = refl; size = refl; goes_on = refl }
none_measured p ms k e false = record { budget = refl; depth = refl; effects = refl; size = refl; goes_on = refl }

pub answer_measured : (p : PlainProcess) (ms : List Measure) (at : ℕ) (ranges : List Range) (body : Text) (c : Choice) (k e : ℕ) (truth : Bool) (inside others : Measure) (jump tests : ℕ) (r : Measure)
    → jump ≡ (if inside.goes_on then 1 else 0) → tests ≡ capped (if truth then 0 else length ranges)
    → ((b o : ℕ) → inside.budget ≡ capped b → others.budget ≡ capped o → r.budget ≡ capped (if truth then max b o else tests_budget ranges b o))
    → r.depth ≡ max inside.depth others.depth → r.effects ≡ max inside.effects others.effects
    → r.size ≡ capped (capped (capped (inside.size + jump) + tests) + others.size) → r.goes_on ≡ (inside.goes_on || others.goes_on)
    → IsMeasured p ms body (1 + k) e inside → AreMeasured p ms truth c k e others → AreMeasured p ms truth (answer at ranges body c) k e r
answer_measured p ms at ranges body c k e true inside others jump tests r j t rb rd re rs rg h o = record {
  budget = rb _ _ h.budget o.budget;
  depth = omega (arith, rd, h.depth, o.depth);
  effects = omega (arith, re, h.effects, o.effects);
  size = let jumps = jump_is body inside.goes_on jump j h.goes_on in omega (arith, jumps, t, rs, h.size, o.size);
  goes_on = rg ∙ ap (λ x. x || others.goes_on) h.goes_on ∙ ap (λ x. goes_on body || x) o.goes_on;
}
answer_measured p ms at ranges body c k e false inside others jump tests r j t rb rd re rs rg h o = record {
  budget = rb _ _ h.budget o.budget;
  depth = omega (arith, rd, h.depth, o.depth);
  effects = omega (arith, re, h.effects, o.effects);
  size = let jumps = jump_is body inside.goes_on jump j h.goes_on in omega (arith, jumps, t, rs, h.size, o.size);
  goes_on = rg ∙ ap (λ x. x || others.goes_on) h.goes_on ∙ ap (λ x. goes_on body || x) o.goes_on;
}

-- ---- lists

-- The list from one place earlier: the statement at that place, followed by the rest.
drop_at : {A : Type 0} (xs : List A) (i : ℕ) (d : A) → i < length xs → drop i xs ≡ get_or xs i d ∷ drop (suc i) xs
drop_at [] i d h = absurd (omega (arith, h))
drop_at (x ∷ xs) zero d h = refl
drop_at (x ∷ xs) (suc i) d h = drop_at xs i d (omega (arith, h))

pub statement_first : (ss : List Statement) (i : ℕ) (s : Statement) (t : Text) → i < length ss → s ≡ get_or ss i s
    → statements_before (drop i ss) t ≡ statement_of s (statements_before (drop (suc i) ss) t)
statement_first ss i s t within is =
    ap (λ l. statements_before l t) (drop_at ss i s within) ∙ ap (λ x. statement_of x (statements_before (drop (suc i) ss) t)) (sym is)

pub answer_first : (xs : List Answer) (i : ℕ) (a : Answer) (c : Choice) → i < length xs → a ≡ get_or xs i a
    → answers_before (drop i xs) c ≡ answer_of a (answers_before (drop (suc i) xs) c)
answer_first xs i a c within is =
    ap (λ l. answers_before l c) (drop_at xs i a within) ∙ ap (λ x. answer_of x (answers_before (drop (suc i) xs) c)) (sym is)

some_range : (ranges : List Range) (i : ℕ) → i < length ranges → Range
some_range [] i h = absurd (omega (arith, h))
some_range (r ∷ ranges) i h = r

pub tests_more_by : (ranges : List Range) (i b o : ℕ) → i < length ranges → tests_budget (take (i + 1) ranges) b o ≡ 1 + max b (tests_budget (take i ranges) b o)
tests_more_by ranges i b o within = tests_more ranges i (some_range ranges i within) b o within

pub drop_past : {A : Type 0} (xs : List A) (i : ℕ) → length xs ≤ i → drop i xs ≡ []
drop_past [] zero h = refl
drop_past [] (suc i) h = refl
drop_past (x ∷ xs) zero h = absurd (omega (arith, h))
drop_past (x ∷ xs) (suc i) h = drop_past xs i (omega (arith, h))

pub drop_none : {A : Type 0} (xs : List A) (i : ℕ) → i ≤ 0 → drop i xs ≡ xs
drop_none xs zero h = refl
drop_none xs (suc i) h = absurd (omega (arith, h))
