-- The measure of a connection is that of its text, in which a JOIN has the measure of the connection it leads to.
use Rattle.std.proofs.Common.{◌≡◌, ℕ, zero, suc, ◌+◌, ◌<◌, ◌≤◌, max, ⊎_elim, Bool, true, false, cond, ◌||◌, List, [], ◌∷◌, ◌++◌, length, map, take, Option, Some, IsSome, refl, sym, ap, ◌∙◌, subst, arith}
use Rattle.std.specs.Prelude.{slice_get, get_or, nat_lt, Contains}
use Rattle.std.proofs.lemmas.Bool.Decides.{nat_tests}
use Rattle.std.specs.List.{flat_map}
use Rattle.std.specs.Option.{option_map_or}
use Rattle.std.proofs.lemmas.List.Elements.{Contains-append_cases}
use Rattle.std.proofs.lemmas.Option.{slice_get-get_or}
use Rattle.sdl_ast.specs.declared.tree.Join as tree_join
use Rattle.sdl_ast.specs.declared.tree.Range.{Range}
use Rattle.sdl_ast.specs.declared.tree.End.{End}
use Rattle.sdl_ast.specs.declared.tree.End.TheVariants.{NextState, Stop, Join}
use Rattle.sdl_ast.specs.Plain.{Tree, Text, falls, ends, does, decides, Choice, nothing_else, otherwise, answer, PlainConnection}
use Rattle.sdl_tables.specs.Names.{Variable, variables_of, connection_named}
use Rattle.sdl_sound.specs.Sorts.{is_truth as in_truth}
use Rattle.sdl_sound.specs.Statements.{end_joins}
use Rattle.sdl_sound.specs.Going.{goes_on as may_go_on, choice_goes_on}
use Rattle.sdl_sound.specs.Decisions.{has_values, has_else, answers_both}
use Rattle.sdl_sound.specs.Longest.{end_count, tests_budget, budget, case_budget, pick_budget, depth, choice_depth, effects, choice_effects, joined_by, joined as measure_joined}
use Rattle.sdl_meaning.specs.Act.{is_truth}
use Rattle.sdl_meaning.specs.Outcomes.{Scope, connector_at}
use Rattle.sdl_meaning.specs.Named.{NamedText, NamedChoice, NamedConnections}
use Rattle.sdl_meaning.specs.Code.{number_or_zero, code_joins, else_joins, answers_joins, bodies_joins, joined, text_at, ArePlaced}
use Rattle.sdl_meaning.proofs.Branches.{EachEnd, EachJoin, ChoiceJoin}
use Rattle.sdl_meaning.proofs.Joining.{has_connection, each_join}
use Rattle.turn_code.proofs.Lists.{first_of as contains_first, within as none_past}
use Rattle.plain_laws.proofs.Truths.{and_second, and_first}

-- ---- the count of a JOIN is part of the count of the text

in_tests : (rs : List Range) (x y : ℕ) → y ≤ tests_budget rs x y
in_tests [] x y = omega arith
in_tests (r ∷ rs) x y = let h = in_tests rs x y in omega (arith, h)

in_first_test : (rs : List Range) (x y : ℕ) → 1 ≤ length rs → x ≤ tests_budget rs x y
in_first_test [] x y h = absurd (omega (arith, h))
in_first_test (r ∷ rs) x y h = omega arith

pub some_values : (n : ℕ) → nat_lt 0 n ≡ true → 1 ≤ n
some_values n e = grind (arith, nat_tests)

each_end_more : (P Q : tree_join.Join → Type 0) (e : End) → ((j : tree_join.Join) → P j → Q j) → EachEnd P e → EachEnd Q e
each_end_more P Q (NextState n) f h = tt
each_end_more P Q (Stop at) f h = tt
each_end_more P Q (Join j) f h = f j h

mutual
  pub each_more : (P Q : tree_join.Join → Type 0) (t : Text) → ((j : tree_join.Join) → P j → Q j) → EachJoin P t → EachJoin Q t
  each_more P Q falls f h = tt
  each_more P Q (ends e) f h = each_end_more P Q e f h
  each_more P Q (does a rest) f h = each_more P Q rest f h
  each_more P Q (decides at q choice rest) f h = (choice_more P Q choice f h.0, each_more P Q rest f h.1)

  choice_more : (P Q : tree_join.Join → Type 0) (choice : Choice) → ((j : tree_join.Join) → P j → Q j) → ChoiceJoin P choice → ChoiceJoin Q choice
  choice_more P Q nothing_else f h = tt
  choice_more P Q (otherwise body) f h = each_more P Q body f h
  choice_more P Q (answer at rs body others) f h = (each_more P Q body f h.0, choice_more P Q others f h.1)

-- What holds of each JOIN holds of the JOINs in the order of the code.
end_each : (P : tree_join.Join → Type 0) (e : End) (j : tree_join.Join) → EachEnd P e → Contains (end_joins e) j → P j
end_each P (NextState n) j h at = absurd (omega (arith, at.1))
end_each P (Stop at) j h there = absurd (omega (arith, there.1))
end_each P (Join i) j h at = by_place at.0 at.1 at.2
  where
    by_place : (k : ℕ) → k < 1 → get_or (i ∷ []) k j ≡ j → P j
    by_place zero lt e = subst P e h
    by_place (suc k) lt e = absurd (omega (arith, lt))

pub contains_later : {A : Type 0} (y : A) (xs : List A) (x : A) → Contains xs x → Contains (y ∷ xs) x
contains_later y xs x h = (suc h.0, omega (arith, h.1), h.2)

none_in : {A : Type 0} {B : Type 0} (x : A) → Contains [] x → B
none_in x h = absurd (omega (arith, h.1))

module _ (c : Scope) (P : tree_join.Join → Type 0) where
  sorted : (b : Bool) (xs ys : List tree_join.Join) (j : tree_join.Join) → Contains (cond b xs ys) j → (Contains xs j → P j) → (Contains ys j → P j) → P j
  sorted true xs ys j at f g = f at
  sorted false xs ys j at f g = g at

  mutual
    pub each_of : (t : Text) (j : tree_join.Join) → EachJoin P t → Contains (code_joins c t) j → P j
    each_of falls j h at = none_in j at
    each_of (ends e) j h at = end_each P e j h at
    each_of (does a rest) j h at = each_of rest j h at
    each_of (decides k q choice rest) j h at =
        ⊎_elim
        (λ at. sorted (is_truth c q) (bodies_joins c choice) (else_joins c choice ++ answers_joins c choice) j at (λ at. bodies_of choice j h.0 at)
        (λ at. ⊎_elim (λ at. else_of choice j h.0 at) (λ at. answers_of choice j h.0 at) (Contains-append_cases (else_joins c choice) (answers_joins c choice) j at)))
        (λ at. each_of rest j h.1 at)
        (Contains-append_cases (cond (is_truth c q) (bodies_joins c choice) (else_joins c choice ++ answers_joins c choice)) (code_joins c rest) j at)

    bodies_of : (choice : Choice) (j : tree_join.Join) → ChoiceJoin P choice → Contains (bodies_joins c choice) j → P j
    bodies_of nothing_else j h at = none_in j at
    bodies_of (otherwise body) j h at = each_of body j h at
    bodies_of (answer k rs body others) j h at =
        ⊎_elim (λ at. each_of body j h.0 at) (λ at. bodies_of others j h.1 at) (Contains-append_cases (code_joins c body) (bodies_joins c others) j at)

    else_of : (choice : Choice) (j : tree_join.Join) → ChoiceJoin P choice → Contains (else_joins c choice) j → P j
    else_of nothing_else j h at = none_in j at
    else_of (otherwise body) j h at = each_of body j h at
    else_of (answer k rs body others) j h at = else_of others j h.1 at

    answers_of : (choice : Choice) (j : tree_join.Join) → ChoiceJoin P choice → Contains (answers_joins c choice) j → P j
    answers_of nothing_else j h at = none_in j at
    answers_of (otherwise body) j h at = none_in j at
    answers_of (answer k rs body others) j h at =
        ⊎_elim (λ at. each_of body j h.0 at) (λ at. answers_of others j h.1 at) (Contains-append_cases (code_joins c body) (answers_joins c others) j at)

-- Each JOIN of a named text leads to a connection.
abbrev HasNumber : Scope → tree_join.Join → Type 0
HasNumber c j = IsSome (connector_at c j.connector)

end_named : (c : Scope) (e : End) → NamedText c (ends e) → EachEnd (HasNumber c) e
end_named c (NextState n) h = tt
end_named c (Stop at) h = tt
end_named c (Join j) h = h

mutual
  pub each_named : (c : Scope) (t : Text) → NamedText c t → EachJoin (HasNumber c) t
  each_named c falls h = tt
  each_named c (ends e) h = end_named c e h
  each_named c (does a rest) h = each_named c rest h.1
  each_named c (decides at q choice rest) h = (choice_named c q choice h.1, each_named c rest h.2)

  choice_named : (c : Scope) (q : Tree) (choice : Choice) → NamedChoice c q choice → ChoiceJoin (HasNumber c) choice
  choice_named c q nothing_else h = tt
  choice_named c q (otherwise body) h = each_named c body h
  choice_named c q (answer at rs body others) h = (each_named c body h.1, choice_named c q others h.2)

-- ---- the count of a JOIN is within the count of the text

module _ (c : Scope) (join : List ℕ → ℕ) where
  abbrev pub Below : ℕ → tree_join.Join → Type 0
  Below b j = join j.connector.name ≤ b

  abbrev vs : List Variable
  vs = variables_of c.process

  end_below : (e : End) (b : ℕ) → end_count join e ≤ b → EachEnd (Below b) e
  end_below (NextState n) b le = tt
  end_below (Stop at) b le = tt
  end_below (Join j) b le = le

  sorts_within : (t : Bool) (x y n b : ℕ) → n ≤ x → n ≤ y → cond t (1 + x) y ≤ b → n ≤ b
  sorts_within true x y n b h k le = omega (arith, h, le)
  sorts_within false x y n b h k le = omega (arith, k, le)

  mutual
    -- A text that goes on counts what follows it.
    budget_through : (t : Text) (k : ℕ) → NamedText c t → may_go_on t ≡ true → k ≤ budget vs join t k
    budget_through falls k named e = omega arith
    budget_through (ends x) k named e = absurd (let h : ⊥ = cc in h)
    budget_through (does a rest) k named e = let h = budget_through rest k named.1 e in omega (arith, h)
    budget_through (decides at q choice rest) k named e =
        let h = budget_through rest k named.2 (and_second (choice_goes_on choice) (may_go_on rest) e) in
        let goes = and_first (choice_goes_on choice) (may_go_on rest) e in
        let values = and_first (has_values choice) (cond (in_truth vs q) (answers_both choice) (has_else choice)) named.0.answered in
        let n = budget vs join rest k in
        let x = cond (in_truth vs q) (1 + pick_budget vs join choice n) (case_budget vs join choice n) in
        let f : n ≤ x = sorts_within (in_truth vs q) (pick_budget vs join choice n) (case_budget vs join choice n) n x (pick_through choice q n named.1 goes) (case_through choice q n named.1 values goes) (omega arith) in
        omega (arith, h, f)

    case_through : (choice : Choice) (q : Tree) (k : ℕ) → NamedChoice c q choice → has_values choice ≡ true → choice_goes_on choice ≡ true → k ≤ case_budget vs join choice k
    case_through nothing_else q k named v e = absurd (let h : ⊥ = cc in h)
    case_through (otherwise body) q k named v e = let h = budget_through body (1 + k) named e in omega (arith, h)
    case_through (answer at rs body others) q k named v e = by_body (may_go_on body) refl e (λ f. budget_through body (1 + k) named.1 f) (λ f. case_through others q k named.2 (and_second (nat_lt 0 (length rs)) (has_values others) v) f)
      where
        by_body : (b : Bool) → may_go_on body ≡ b → b || choice_goes_on others ≡ true → (may_go_on body ≡ true → 1 + k ≤ budget vs join body (1 + k)) → (choice_goes_on others ≡ true → k ≤ case_budget vs join others k)
            → k ≤ tests_budget rs (budget vs join body (1 + k)) (case_budget vs join others k)
        by_body true f e first later =
            let h = first f in
            let g = in_first_test rs (budget vs join body (1 + k)) (case_budget vs join others k) (some_values (length rs) (and_first (nat_lt 0 (length rs)) (has_values others) v)) in
            omega (arith, h, g)
        by_body false f e first later = let h = later e in let g = in_tests rs (budget vs join body (1 + k)) (case_budget vs join others k) in omega (arith, h, g)

    pick_through : (choice : Choice) (q : Tree) (k : ℕ) → NamedChoice c q choice → choice_goes_on choice ≡ true → k ≤ pick_budget vs join choice k
    pick_through nothing_else q k named e = absurd (let h : ⊥ = cc in h)
    pick_through (otherwise body) q k named e = let h = budget_through body (1 + k) named e in omega (arith, h)
    pick_through (answer at rs body others) q k named e = by_body (may_go_on body) refl e (λ f. budget_through body (1 + k) named.1 f) (λ f. pick_through others q k named.2 f)
      where
        by_body : (b : Bool) → may_go_on body ≡ b → b || choice_goes_on others ≡ true → (may_go_on body ≡ true → 1 + k ≤ budget vs join body (1 + k)) → (choice_goes_on others ≡ true → k ≤ pick_budget vs join others k)
            → k ≤ max (budget vs join body (1 + k)) (pick_budget vs join others k)
        by_body true f e first later = let h = first f in omega (arith, h)
        by_body false f e first later = let h = later e in omega (arith, h)

  either : {A : Type 0} (b : Bool) → (b ≡ true → A) → (b ≡ false → A) → A
  either true f g = f refl
  either false f g = g refl

  mutual
    pub budget_below : (t : Text) (k b : ℕ) → NamedText c t → budget vs join t k ≤ b → EachJoin (Below b) t
    budget_below falls k b named le = tt
    budget_below (ends e) k b named le = end_below e b (omega (arith, le))
    budget_below (does a rest) k b named le = budget_below rest k b named.1 (omega (arith, le))
    budget_below (decides at q choice rest) k b named le =
        let n = budget vs join rest k in
        let values = and_first (has_values choice) (cond (in_truth vs q) (answers_both choice) (has_else choice)) named.0.answered in (
          by_sort (in_truth vs q) (omega (arith, le)) (λ le. pick_below choice q n b named.1 le) (λ le. case_below choice q n b named.1 values le),
          either (choice_goes_on choice)
              (λ e. budget_below rest k b named.2
              (sorts_within (in_truth vs q) (pick_budget vs join choice n) (case_budget vs join choice n) n b (pick_through choice q n named.1 e) (case_through choice q n named.1 values e) (omega (arith, le))))
              (λ e. subst (EachJoin (Below b)) (sym (named.0.reached e)) tt),
        )
      where
        by_sort : (t : Bool) → cond t (1 + pick_budget vs join choice (budget vs join rest k)) (case_budget vs join choice (budget vs join rest k)) ≤ b
            → (pick_budget vs join choice (budget vs join rest k) ≤ b → ChoiceJoin (Below b) choice) → (case_budget vs join choice (budget vs join rest k) ≤ b → ChoiceJoin (Below b) choice) → ChoiceJoin (Below b) choice
        by_sort true le f g = f (omega (arith, le))
        by_sort false le f g = g le

    case_below : (choice : Choice) (q : Tree) (k b : ℕ) → NamedChoice c q choice → has_values choice ≡ true → case_budget vs join choice k ≤ b → ChoiceJoin (Below b) choice
    case_below nothing_else q k b named v le = tt
    case_below (otherwise body) q k b named v le = budget_below body (1 + k) b named (omega (arith, le))
    case_below (answer at rs body others) q k b named v le =
        let x = budget vs join body (1 + k) in
        let y = case_budget vs join others k in
        let first = in_first_test rs x y (some_values (length rs) (and_first (nat_lt 0 (length rs)) (has_values others) v)) in
        let later = in_tests rs x y in
        (budget_below body (1 + k) b named.1 (omega (arith, le, first)), case_below others q k b named.2 (and_second (nat_lt 0 (length rs)) (has_values others) v) (omega (arith, le, later)))

    pick_below : (choice : Choice) (q : Tree) (k b : ℕ) → NamedChoice c q choice → pick_budget vs join choice k ≤ b → ChoiceJoin (Below b) choice
    pick_below nothing_else q k b named le = tt
    pick_below (otherwise body) q k b named le = budget_below body (1 + k) b named le
    pick_below (answer at rs body others) q k b named le = (budget_below body (1 + k) b named.1 (omega (arith, le)), pick_below others q k b named.2 (omega (arith, le)))

  mutual
    effects_through : (t : Text) (k : ℕ) → may_go_on t ≡ true → k ≤ effects join t k
    effects_through falls k e = omega arith
    effects_through (ends x) k e = absurd (let h : ⊥ = cc in h)
    effects_through (does a rest) k e = let h = effects_through rest k e in omega (arith, h)
    effects_through (decides at q choice rest) k e =
        let h = effects_through rest k (and_second (choice_goes_on choice) (may_go_on rest) e) in
        let f = choice_through choice (effects join rest k) (and_first (choice_goes_on choice) (may_go_on rest) e) in
        omega (arith, h, f)

    choice_through : (choice : Choice) (k : ℕ) → choice_goes_on choice ≡ true → k ≤ choice_effects join choice k
    choice_through nothing_else k e = absurd (let h : ⊥ = cc in h)
    choice_through (otherwise body) k e = effects_through body k e
    choice_through (answer at rs body others) k e = by_body (may_go_on body) refl e (λ f. effects_through body k f) (λ f. choice_through others k f)
      where
        by_body : (b : Bool) → may_go_on body ≡ b → b || choice_goes_on others ≡ true → (may_go_on body ≡ true → k ≤ effects join body k) → (choice_goes_on others ≡ true → k ≤ choice_effects join others k)
            → k ≤ max (effects join body k) (choice_effects join others k)
        by_body true f e first later = let h = first f in omega (arith, h)
        by_body false f e first later = let h = later e in omega (arith, h)

  mutual
    pub effects_below : (t : Text) (k b : ℕ) → NamedText c t → effects join t k ≤ b → EachJoin (Below b) t
    effects_below falls k b named le = tt
    effects_below (ends e) k b named le = end_below e b le
    effects_below (does a rest) k b named le = effects_below rest k b named.1 (omega (arith, le))
    effects_below (decides at q choice rest) k b named le = (
      choice_effects_below choice q (effects join rest k) b named.1 le,
      either (choice_goes_on choice)
          (λ e. let h = choice_through choice (effects join rest k) e in effects_below rest k b named.2 (omega (arith, le, h)))
          (λ e. subst (EachJoin (Below b)) (sym (named.0.reached e)) tt),
    )

    choice_effects_below : (choice : Choice) (q : Tree) (k b : ℕ) → NamedChoice c q choice → choice_effects join choice k ≤ b → ChoiceJoin (Below b) choice
    choice_effects_below nothing_else q k b named le = tt
    choice_effects_below (otherwise body) q k b named le = effects_below body k b named le
    choice_effects_below (answer at rs body others) q k b named le = (effects_below body k b named.1 (omega (arith, le)), choice_effects_below others q k b named.2 (omega (arith, le)))

  mutual
    pub depth_below : (t : Text) (b : ℕ) → depth join t ≤ b → EachJoin (Below b) t
    depth_below falls b le = tt
    depth_below (ends e) b le = end_below e b le
    depth_below (does a rest) b le = depth_below rest b (omega (arith, le))
    depth_below (decides at q choice rest) b le = (choice_depth_below choice b (omega (arith, le)), depth_below rest b (omega (arith, le)))

    choice_depth_below : (choice : Choice) (b : ℕ) → choice_depth join choice ≤ b → ChoiceJoin (Below b) choice
    choice_depth_below nothing_else b le = tt
    choice_depth_below (otherwise body) b le = depth_below body b le
    choice_depth_below (answer at rs body others) b le = (depth_below body b (omega (arith, le)), choice_depth_below others b (omega (arith, le)))

-- ---- a connection has the measure of its text

module _ (c : Scope) (connections : NamedConnections c) (measure : List Variable → (List ℕ → ℕ) → Text → ℕ)
    (same : (f g : List ℕ → ℕ) (t : Text) → EachJoin (λ (j : tree_join.Join). f j.connector.name ≡ g j.connector.name) t → measure (variables_of c.process) f t ≡ measure (variables_of c.process) g t) where
  abbrev by : ℕ → List ℕ → ℕ
  by n x = joined_by measure c.process n x

  abbrev of_text : ℕ → Option PlainConnection → ℕ
  of_text n o = option_map_or (λ (k : PlainConnection). measure (variables_of c.process) (by n) k.text) o 0

  -- More JOINs than the connection has steps make no difference.
  stable : (f g n : ℕ) (x : List ℕ) (k : PlainConnection) → slice_get c.process.connections n ≡ Some k → connection_named c.process x ≡ Some k → connections.steps n < f → connections.steps n < g → by f x ≡ by g x
  stable zero g n x k at named lt lt2 = absurd (omega (arith, lt))
  stable (suc f) zero n x k at named lt lt2 = absurd (omega (arith, lt2))
  stable (suc f) (suc g) n x k at named lt lt2 =
      let w = connections.texts n k at in
      let each = each_join c (λ (j : tree_join.Join). by f j.connector.name ≡ by g j.connector.name) k.text w.text
      (λ j a b some. let r = has_connection c j.connector some in
      let m = number_or_zero (connector_at c j.connector) in
      let less = connections.fewer n m k j at a r.number in
      stable f g m j.connector.name r.connection r.there r.named (omega (arith, less, lt)) (omega (arith, less, lt2))) in
      ap (of_text f) named ∙ same (by f) (by g) k.text each ∙ sym (ap (of_text g) named)

  pub fixed : (n : ℕ) (x : List ℕ) (k : PlainConnection) → slice_get c.process.connections n ≡ Some k → connection_named c.process x ≡ Some k
      → measure_joined measure c.process x ≡ measure (variables_of c.process) (measure_joined measure c.process) k.text
  fixed n x k at named =
      let l = length c.process.connections in
      let few = connections.few n (none_past c.process.connections n k at) in
      stable l (suc l) n x k at named few (omega (arith, few)) ∙ ap (of_text l) named

-- ---- what holds of the connections that a text joins, and of those that they join, holds of all that are placed

pub mapped_from : {A B : Type 0} (f : A → B) (xs : List A) (y : B) → Contains (map f xs) y → (x : A) × Contains xs x × (f x ≡ y)
mapped_from f xs y h = by_list xs h.0 h.1 h.2
  where
    by_list : (xs : List _) (k : ℕ) → k < length (map f xs) → get_or (map f xs) k y ≡ y → (x : _) × Contains xs x × (f x ≡ y)
    by_list [] k lt e = absurd (omega (arith, lt))
    by_list (x ∷ xs) zero lt e = (x, contains_first x xs, e)
    by_list (x ∷ xs) (suc k) lt e = let r = by_list xs k (omega (arith, lt)) e in (r.0, contains_later x xs r.0 r.1, r.2)

module _ {A : Type 0} (f : ℕ → List A) where
  -- An item of joined lists is in one of them.
  pub flat_from : (ns : List ℕ) (y : A) → Contains (flat_map f ns) y → (i : ℕ) × (n : ℕ) × (slice_get ns i ≡ Some n) × Contains (f n) y
  flat_from [] y h = none_in y h
  flat_from (n ∷ ns) y h =
      ⊎_elim (λ a. (0, n, refl, a)) (λ a. let r = flat_from ns y a in (suc r.0, r.1, r.2, r.3)) (Contains-append_cases (f n) (flat_map f ns) y h)

taken_at : (ns : List ℕ) (k i n : ℕ) → slice_get (take k ns) i ≡ Some n → (i < k) × (slice_get ns i ≡ Some n)
taken_at [] k i n e = absurd (let h : ⊥ = nothing_there k e in h)
  where
    nothing_there : (k : ℕ) → slice_get (take k []) i ≡ Some n → ⊥
    nothing_there zero e = cc
    nothing_there (suc k) e = cc
taken_at (m ∷ ns) zero i n e = absurd (let h : ⊥ = cc in h)
taken_at (m ∷ ns) (suc k) zero n e = (omega arith, e)
taken_at (m ∷ ns) (suc k) (suc i) n e = let r = taken_at ns k i n e in (omega (arith, r.0), r.1)

module _ (c : Scope) (t : Text) (ns : List ℕ) (placed : ArePlaced c t ns) (Q : ℕ → Type 0)
    (first : (j : tree_join.Join) → Contains (code_joins c t) j → Q (number_or_zero (connector_at c j.connector)))
    (later : (n : ℕ) → Q n → (j : tree_join.Join) → Contains (code_joins c (text_at c n)) j → Q (number_or_zero (connector_at c j.connector))) where
  up_to : (b k n : ℕ) → k < b → slice_get ns k ≡ Some n → Q n
  up_to zero k n lt at = absurd (omega (arith, lt))
  up_to (suc b) k n lt at =
      ⊎_elim
      (λ h. let r = mapped_from (λ (j : tree_join.Join). number_or_zero (connector_at c j.connector)) (code_joins c t) n h in subst Q r.2 (first r.0 r.1))
      (λ h. let r = flat_from (λ m. joined c (text_at c m)) (take k ns) n h in
      let s = taken_at ns k r.0 r.1 r.2 in
      let q = up_to b r.0 r.1 (omega (arith, s.0, lt)) s.1 in
      let j = mapped_from (λ (j : tree_join.Join). number_or_zero (connector_at c j.connector)) (code_joins c (text_at c r.1)) n r.3 in
      subst Q j.2 (later r.1 q j.0 j.1))
      (Contains-append_cases (joined c t) (flat_map (λ m. joined c (text_at c m)) (take k ns)) n (placed.before k n at))

  pub all_placed : (n : ℕ) → Contains ns n → Q n
  all_placed n h = up_to (length ns) h.0 n h.1 (slice_get-get_or ns h.0 n h.1 ∙ ap Some h.2)
