-- The measures of a text depend only on the measures of its JOINs.
use Rattle.std.proofs.Common.{◌≡◌, ℕ, ◌+◌, max, Bool, true, false, cond, List, refl, ap, ◌∙◌, arith}
use Rattle.sdl_ast.specs.declared.tree.Join as tree_join
use Rattle.sdl_ast.specs.declared.tree.Range.{Range}
use Rattle.sdl_ast.specs.declared.tree.End.{End}
use Rattle.sdl_ast.specs.declared.tree.End.TheVariants.{NextState, Stop, Join}
use Rattle.sdl_ast.specs.Plain.{Text, falls, ends, does, decides, Choice, nothing_else, otherwise, answer}
use Rattle.sdl_tables.specs.Names.{Variable}
use Rattle.sdl_sound.specs.Sorts.{is_truth as in_truth}
use Rattle.sdl_sound.specs.Longest.{action_cost, action_depth, action_effects, cost_of, end_cost, end_count, tests_budget, budget, case_budget, pick_budget, depth, choice_depth, effects, choice_effects}
use Rattle.sdl_meaning.proofs.Branches.{EachEnd, EachJoin, ChoiceJoin}

-- ---- the measures depend only on the JOINs of a text

same_end : (f g : List ℕ → ℕ) (e : End) → EachEnd (λ (j : tree_join.Join). f j.connector.name ≡ g j.connector.name) e → end_count f e ≡ end_count g e
same_end f g (NextState n) h = refl
same_end f g (Stop at) h = refl
same_end f g (Join j) h = h

same_tests : (rs : List Range) (x y u z : ℕ) → x ≡ y → u ≡ z → tests_budget rs x u ≡ tests_budget rs y z
same_tests rs x y u z e f = ap (λ n. tests_budget rs n u) e ∙ ap (tests_budget rs y) f

same_cond : (b : Bool) (x y u z : ℕ) → x ≡ y → u ≡ z → cond b (1 + x) u ≡ cond b (1 + y) z
same_cond true x y u z e f = ap (λ n. 1 + n) e
same_cond false x y u z e f = f

module _ (vs : List Variable) (f g : List ℕ → ℕ) where
  abbrev Same : tree_join.Join → Type 0
  Same j = f j.connector.name ≡ g j.connector.name

  mutual
    pub budget_same : (t : Text) (k m : ℕ) → EachJoin Same t → k ≡ m → budget vs f t k ≡ budget vs g t m
    budget_same falls k m h e = e
    budget_same (ends t) k m h e = ap (λ n. end_cost t + n) (same_end f g t h)
    budget_same (does a rest) k m h e = ap (λ n. action_cost a + n) (budget_same rest k m h e)
    budget_same (decides at q choice rest) k m h e =
        let r = budget_same rest k m h.1 e in
        ap (λ n. cost_of q + n)
        (same_cond (in_truth vs q) (pick_budget vs f choice (budget vs f rest k)) (pick_budget vs g choice (budget vs g rest m)) (case_budget vs f choice (budget vs f rest k)) (case_budget vs g choice (budget vs g rest m))
        (pick_same choice (budget vs f rest k) (budget vs g rest m) h.0 r) (case_same choice (budget vs f rest k) (budget vs g rest m) h.0 r))

    case_same : (choice : Choice) (k m : ℕ) → ChoiceJoin Same choice → k ≡ m → case_budget vs f choice k ≡ case_budget vs g choice m
    case_same nothing_else k m h e = refl
    case_same (otherwise body) k m h e = ap (λ n. 1 + n) (budget_same body (1 + k) (1 + m) h (ap (λ n. 1 + n) e))
    case_same (answer at rs body others) k m h e =
        same_tests rs (budget vs f body (1 + k)) (budget vs g body (1 + m)) (case_budget vs f others k) (case_budget vs g others m)
        (budget_same body (1 + k) (1 + m) h.0 (ap (λ n. 1 + n) e)) (case_same others k m h.1 e)

    pick_same : (choice : Choice) (k m : ℕ) → ChoiceJoin Same choice → k ≡ m → pick_budget vs f choice k ≡ pick_budget vs g choice m
    pick_same nothing_else k m h e = refl
    pick_same (otherwise body) k m h e = budget_same body (1 + k) (1 + m) h (ap (λ n. 1 + n) e)
    pick_same (answer at rs body others) k m h e =
        let a = budget_same body (1 + k) (1 + m) h.0 (ap (λ n. 1 + n) e) in
        let b = pick_same others k m h.1 e in
        omega (arith, a, b)

  mutual
    pub effects_same : (t : Text) (k m : ℕ) → EachJoin Same t → k ≡ m → effects f t k ≡ effects g t m
    effects_same falls k m h e = e
    effects_same (ends t) k m h e = same_end f g t h
    effects_same (does a rest) k m h e = ap (λ n. action_effects a + n) (effects_same rest k m h e)
    effects_same (decides at q choice rest) k m h e = choice_effects_same choice (effects f rest k) (effects g rest m) h.0 (effects_same rest k m h.1 e)

    choice_effects_same : (choice : Choice) (k m : ℕ) → ChoiceJoin Same choice → k ≡ m → choice_effects f choice k ≡ choice_effects g choice m
    choice_effects_same nothing_else k m h e = refl
    choice_effects_same (otherwise body) k m h e = effects_same body k m h e
    choice_effects_same (answer at rs body others) k m h e =
        let a = effects_same body k m h.0 e in
        let b = choice_effects_same others k m h.1 e in
        omega (arith, a, b)

  mutual
    pub depth_same : (t : Text) → EachJoin Same t → depth f t ≡ depth g t
    depth_same falls h = refl
    depth_same (ends t) h = same_end f g t h
    depth_same (does a rest) h = ap (max (action_depth a)) (depth_same rest h)
    depth_same (decides at q choice rest) h =
        let a = choice_depth_same choice h.0 in
        let b = depth_same rest h.1 in
        omega (arith, a, b)

    choice_depth_same : (choice : Choice) → ChoiceJoin Same choice → choice_depth f choice ≡ choice_depth g choice
    choice_depth_same nothing_else h = refl
    choice_depth_same (otherwise body) h = depth_same body h
    choice_depth_same (answer at rs body others) h =
        let a = depth_same body h.0 in
        let b = choice_depth_same others h.1 in
        omega (arith, a, b)
