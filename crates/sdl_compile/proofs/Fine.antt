-- Each place of a text with DECISIONs is right: its instruction has what it requires, and what it leaves agrees with
-- the claims about each place where the code goes on.
use Rattle.std.proofs.Common.{◌≡◌, ℕ, ◌+◌, ◌<◌, Bool, true, false, cond, ◌||◌, List, [], ◌∷◌, ◌++◌, ◌⊎◌, inl, inr, ⊎_elim, length, Some, refl, sym, ap, ◌∙◌, subst, arith, length-append, append_assoc}
use Rattle.std.proofs.Math.Bool.{or-true}
use Rattle.std.specs.List.{list_any}
use Rattle.std.proofs.lemmas.List.Elements.{All-nil}
use Rattle.sdl_ast.specs.declared.tree.Sort as tree_sort
use Rattle.sdl_ast.specs.declared.tree.Sort.TheVariants as tree_sorts
use Rattle.sdl_ast.specs.declared.tree.Join as tree_join
use Rattle.sdl_ast.specs.declared.tree.Range.{Range}
use Rattle.sdl_ast.specs.declared.tree.Range.TheVariants as ranges
use Rattle.sdl_ast.specs.declared.tree.End.{End}
use Rattle.sdl_ast.specs.declared.tree.End.TheVariants.{NextState, Stop, Join}
use Rattle.sdl_ast.specs.Plain.{Tree, Text, falls, ends, does, decides, Choice, nothing_else, otherwise, answer}
use Rattle.turn_code.specs.declared.value.Sort.{Sort}
use Rattle.turn_code.specs.declared.value.Sort.TheVariants.{Integer, Boolean}
use Rattle.turn_code.specs.declared.instruction.Instruction.{Instruction}
use Rattle.turn_code.specs.declared.instruction.Instruction.TheVariants as i
use Rattle.turn_code.specs.declared.variable_set.VariableSet.{VariableSet}
use Rattle.turn_code.specs.declared.draft.Draft.{Draft}
use Rattle.turn_code.specs.Transitions.{Transition}
use Rattle.sdl_tables.specs.Names.{Variable, variables_of}
use Rattle.sdl_sound.specs.Actions.{Origin}
use Rattle.sdl_sound.specs.Going.{goes_on, choice_goes_on}
use Rattle.sdl_sound.specs.Sorts.{has_sort}
use Rattle.sdl_sound.specs.Decisions.{has_else, has_values, times_named, answers_both, is_answered}
use Rattle.sdl_sound.specs.Longest.{cost_of, depth_of, action_cost, action_depth, action_effects, jump_size, tests_size, size}
use Rattle.sdl_meaning.specs.Act.{is_truth}
use Rattle.sdl_meaning.specs.Outcomes.{Scope, state_at}
use Rattle.sdl_meaning.specs.Code.{number_or_zero, next, jump, tree_code, action_code, end_code, body_size, range_code, ranges_code, tests_code, names_truth, picked, pick_code, bodies_place, else_place, answers_place, after_choice}
use Rattle.sdl_meaning.specs.Named.{NamedTree, NamedText, NamedChoice}
use Rattle.sdl_meaning.specs.Declarations.{sort_of_tree}
use Rattle.sdl_compile.specs.Reads.{ReadTree, action_set, left, choice_left, ReadText, ReadChoice}
use Rattle.sdl_compile.specs.Entries.{entry_at}
use Rattle.sdl_meaning.proofs.Sorting.{tree_has_sort}
use Rattle.sdl_meaning.proofs.Sizes.{tree_size, action_size, tests_are}
use Rattle.sdl_compile.proofs.Straight.{AreRight}
use Rattle.sdl_compile.proofs.PlaceStretches.{Leads, left_shape}
use Rattle.sdl_compile.proofs.Shapes.{tree_leads, action_leads}
use Rattle.sdl_compile.proofs.Rights.{plain_right, tree_right, one_of as one_at}
use Rattle.sdl_compile.proofs.Actions.{Stands, Reaching, counted_action, action_right, next_right, stop_right}
use Rattle.sdl_meaning.proofs.Branches.{EachEnd, EachJoin, ChoiceJoin}
use Rattle.sdl_compile.proofs.UnsetLaws.{not_true}
use Rattle.sdl_compile.proofs.Entering.{number_at, TextFits, ChoiceFits}
use Rattle.sdl_compile.proofs.Spots.{Spot, leave_spots, text_spots, else_spots, answers_spots, bodies_spots}
use Rattle.plain_laws.proofs.Truths.{and_second}
use Rattle.std.proofs.lemmas.Bool.{and_from as both_true}
use Rattle.sdl_compile.proofs.RightTexts.{RightTree, RightText, RightChoice, two_at, Leaves, choice_leaves}
use Rattle.sdl_compile.proofs.ChoiceLaws.{none_named, both_named, truth_sort, number_sort, answered_truth, answered_number}
use Rattle.sdl_compile.proofs.Stretches.{jump_right, test_right, O, Enters, AllFine, HasSpots, Chain, has_front, has_back, fine_append, chain_append, enters_here, enters_more, Stretch, straight, single}
use Rattle.sdl_compile.proofs.TextLengths.{over_length, text_length, leave_length, else_length, middle_length}

module _ (d : Draft) (t : Transition) (all : List Spot) where
  -- ---- texts

  module _ (c : Scope) (stands : Stands c d t) (is : List Origin) (reaching : Reaching c d t is) (to : ℕ → ℕ) (es : List VariableSet) where
    abbrev T : ℕ → VariableSet → Text → List Spot
    T n m u = text_spots d.signals t.process.variables t.parameters c to n m u

    abbrev Leave : ℕ → VariableSet → Text → List Spot
    Leave n m u = leave_spots d.signals t.process.variables t.parameters c to n m u

    abbrev Answers : ℕ → ℕ → VariableSet → Choice → List Spot
    Answers n end m u = answers_spots d.signals t.process.variables t.parameters c to n end m u

    abbrev Else : ℕ → ℕ → VariableSet → Choice → List Spot
    Else n end m u = else_spots d.signals t.process.variables t.parameters c to n end m u

    abbrev Bodies : ℕ → ℕ → VariableSet → Choice → List Spot
    Bodies n end m u = bodies_spots d.signals t.process.variables t.parameters c to n end m u

    abbrev vs : List Variable
    vs = variables_of c.process

    -- The connection of a JOIN begins with its set.
    abbrev pub Begins : tree_join.Join → Type 0
    Begins j = Enters d t all [] (entry_at es (number_at c j.connector)) (to (number_at c j.connector))

    -- A jump.
    jumped : (n k : ℕ) (m : VariableSet) → HasSpots d t all k (O d t all [] m (jump n ∷ [])) → Enters d t all [] m n → Stretch d t all k [] m (O d t all [] m (jump n ∷ [])) []
    jumped n k m has enters = single d t all (jump n) [] m k (jump_right d t c stands n m) has (All-nil (Enters d t all [] m)) (one_at (Enters d t all [] m) n enters)

    end_fine : (e : End) (k : ℕ) (m : VariableSet) → HasSpots d t all k (O d t all [] m (end_code c to e)) → NamedText c (ends e) → ReadText c t.process.states m (ends e) → TextFits c es m (ends e) → EachEnd Begins e
        → Stretch d t all k [] m (O d t all [] m (end_code c to e)) []
    end_fine (NextState n) k m has named read fits joins =
        single d t all (next (number_or_zero (state_at c n.state))) [] m k (next_right c d t stands is reaching (number_or_zero (state_at c n.state)) m (stands.states n.state named) read).0 has (All-nil (Enters d t all [] m)) (All-nil (Enters d t all [] m))
    end_fine (Stop at) k m has named read fits joins = single d t all i.Stop [] m k (stop_right c d t stands is reaching m).0 has (All-nil (Enters d t all [] m)) (All-nil (Enters d t all [] m))
    end_fine (Join j) k m has named read fits joins =
        let n = number_at c j.connector in
        jumped (to n) k m has (enters_more d t all [] (entry_at es n) m (to n) fits joins)

    -- A body with the jump that ends it.
    body_fine : (body : Text) (k mid n end : ℕ) (m : VariableSet) → k + size vs body ≡ mid → mid + jump_size body ≡ n → HasSpots d t all k (T k m body ++ Leave end (left c m body) body)
        → (HasSpots d t all k (T k m body) → (goes_on body ≡ true → Enters d t all [] (left c m body) mid) → Stretch d t all k [] m (T k m body) [])
        → (goes_on body ≡ true → Enters d t all [] (left c m body) end)
        → Stretch d t all k [] m (T k m body ++ Leave end (left c m body) body) []
    body_fine body k mid n end m e f has inner enters =
        let a = T k m body in
        let b = Leave end (left c m body) body in
        let l : k + length a ≡ mid = let h = text_length d t c to k m body in omega (arith, e, h) in
        let last = by_going (goes_on body) refl (has_back d t all a b k mid l has) in
        let first = inner (has_front d t all a b k has) last.1 in
        record { fine = fine_append d t all a b k mid l first.fine last.0.0; enters = first.enters; chain = chain_append d t all a b [] [] [] first.chain last.0.1 }
      where
        by_going : (g : Bool) → goes_on body ≡ g → HasSpots d t all mid (O d t all [] (left c m body) (cond g (jump end ∷ []) []))
            → (AllFine d t all mid (O d t all [] (left c m body) (cond g (jump end ∷ []) [])) × Chain d t all [] (O d t all [] (left c m body) (cond g (jump end ∷ []) [])) []) × (goes_on body ≡ true → Enters d t all [] (left c m body) mid)
        by_going true g has = let s = jumped end mid (left c m body) has (enters g) in ((s.fine, s.chain), λ _. s.enters)
        by_going false g has = ((tt, refl), λ h. absurd (let k : ⊥ = cc in k))

    -- Straight code with known operands and sets after it.
    pub stretch : (code : List Instruction) (s s2 : List Sort) (m m2 : VariableSet) (k n dp co ef : ℕ) → Leads d.signals t.process.variables t.parameters s m code s2 m2 dp co ef → k + length code ≡ n → AreRight d t s m code → HasSpots d t all k (O d t all s m code)
        → Enters d t all s2 m2 n → Stretch d t all k s m (O d t all s m code) s2
    stretch code s s2 m m2 k n dp co ef leads e right has enters =
        let there = subst (λ m. Enters d t all (left_shape d.signals t.process.variables t.parameters s code) m n) (sym leads.sets_to) (subst (λ s. Enters d t all s m2 n) (sym leads.leaves) enters) in
        let h = straight d t all code s m k n e leads.steps right has there in
        record { fine = h.fine; enters = h.enters; chain = subst (λ s2. Chain d t all s (O d t all s m code) s2) leads.leaves h.chain }

    -- ---- the tests of an Integer DECISION

    -- The bodies of the answers, from place n on, begin with this set.
    abbrev AnswersEnter : VariableSet → ℕ → Choice → Type 0
    AnswersEnter m n nothing_else = Unit {0}
    AnswersEnter m n (otherwise body) = Unit {0}
    AnswersEnter m n (answer at rs body others) = Enters d t all [] m n × AnswersEnter m (n + body_size c body) others

    -- The bodies of all answers and of ELSE begin with this set.
    abbrev AllEnter : VariableSet → ℕ → Choice → Type 0
    AllEnter m n nothing_else = Unit {0}
    AllEnter m n (otherwise body) = Enters d t all [] m n
    AllEnter m n (answer at rs body others) = Enters d t all [] m n × AllEnter m (n + body_size c body) others

    abbrev Number : List Sort
    Number = Integer ∷ []

    -- A test before code that is right.
    test_fine : (r : Range) (k n : ℕ) (m : VariableSet) (code : List Instruction) → Enters d t all [] m n → HasSpots d t all k (O d t all Number m (range_code n r ∷ code)) → (HasSpots d t all (k + 1) (O d t all Number m code) → Stretch d t all (k + 1) Number m (O d t all Number m code) [])
        → Stretch d t all k Number m (O d t all Number m (range_code n r ∷ code)) []
    test_fine (ranges.Value v) k n m code enters has more =
        let x = range_code n (ranges.Value v) in
        let rest = more has.1 in
        record {
          fine = (record { right = test_right d t c stands x m n (ranges.Value v) refl; going = one_at (Enters d t all Number m) (k + 1) rest.enters; jumping = one_at (Enters d t all [] m) n enters }, rest.fine);
          enters = enters_here d t all k (record { instruction = x; shape = Number; set = m }) has.0;
          chain = (refl, rest.chain);
        }
    test_fine (ranges.Compared at r v) k n m code enters has more =
        let x = range_code n (ranges.Compared at r v) in
        let rest = more has.1 in
        record {
          fine = (record { right = test_right d t c stands x m n (ranges.Compared at r v) refl; going = one_at (Enters d t all Number m) (k + 1) rest.enters; jumping = one_at (Enters d t all [] m) n enters }, rest.fine);
          enters = enters_here d t all k (record { instruction = x; shape = Number; set = m }) has.0;
          chain = (refl, rest.chain);
        }
    test_fine (ranges.Between low high) k n m code enters has more =
        let x = range_code n (ranges.Between low high) in
        let rest = more has.1 in
        record {
          fine = (record { right = test_right d t c stands x m n (ranges.Between low high) refl; going = one_at (Enters d t all Number m) (k + 1) rest.enters; jumping = one_at (Enters d t all [] m) n enters }, rest.fine);
          enters = enters_here d t all k (record { instruction = x; shape = Number; set = m }) has.0;
          chain = (refl, rest.chain);
        }

    ranges_fine : (rs : List Range) (k n : ℕ) (m : VariableSet) (code : List Instruction) → Enters d t all [] m n → HasSpots d t all k (O d t all Number m (ranges_code n rs ++ code))
        → ((p : ℕ) → k + length rs ≡ p → HasSpots d t all p (O d t all Number m code) → Stretch d t all p Number m (O d t all Number m code) []) → Stretch d t all k Number m (O d t all Number m (ranges_code n rs ++ code)) []
    ranges_fine [] k n m code enters has more = more k (omega arith) has
    ranges_fine (r ∷ rs) k n m code enters has more =
        test_fine r k n m (ranges_code n rs ++ code) enters has (λ has. ranges_fine rs (k + 1) n m code enters has (λ p e has. more p (omega (arith, e)) has))

    tests_fine : (choice : Choice) (k n end : ℕ) (m : VariableSet) → k + tests_size choice ≡ end → has_else choice ≡ true → HasSpots d t all k (O d t all Number m (tests_code c n choice)) → AnswersEnter m n choice → Enters d t all [] m end
        → Stretch d t all k Number m (O d t all Number m (tests_code c n choice)) []
    tests_fine nothing_else k n end m e some has entered enters = absurd (let k : ⊥ = cc in k)
    tests_fine (otherwise body) k n end m e some has entered enters =
        let right = plain_right c d t stands.sorted stands.variables i.Drop Number m
        (record { reads_none = refl; sets_none = refl; states_none = refl; parameters_none = refl; timers_none = refl; divisors_none = refl; output_none = tt }) (omega arith) (refl, tt) in
        let f : end ≡ k + 1 = omega (arith, e) in
        single d t all i.Drop Number m k right has (one_at (Enters d t all [] m) (k + 1) (subst (Enters d t all [] m) f enters)) (All-nil (Enters d t all [] m))
    tests_fine (answer at rs body others) k n end m e some has entered enters =
        ranges_fine rs k n m (tests_code c (n + body_size c body) others) entered.0 has
        (λ p f has. tests_fine others p (n + body_size c body) end m (omega (arith, e, f)) some has entered.1 enters)

    -- ---- the choice of a Boolean one

    picked_enters : (choice : Choice) (n : ℕ) (m : VariableSet) (b : Bool) → (has_else choice ≡ true) ⊎ (0 < times_named b choice) → AllEnter m n choice → Enters d t all [] m (picked c n choice b)
    picked_enters nothing_else n m b (inl h) entered = absurd (let k : ⊥ = cc in k)
    picked_enters nothing_else n m b (inr h) entered = absurd (omega (arith, h))
    picked_enters (otherwise body) n m b h entered = entered
    picked_enters (answer at rs body others) n m b h entered =
        by_named (list_any (names_truth b) rs) refl (λ g. picked_enters others (n + body_size c body) m b g entered.1)
      where
        by_named : (x : Bool) → list_any (names_truth b) rs ≡ x → ((has_else others ≡ true) ⊎ (0 < times_named b others) → Enters d t all [] m (picked c (n + body_size c body) others b))
            → Enters d t all [] m (cond x n (picked c (n + body_size c body) others b))
        by_named true e more = entered.0
        by_named false e more = more (⊎_elim (λ a. inl a) (λ lt. let z = none_named b rs e in inr (omega (arith, lt, z))) h)

    pick_fine : (choice : Choice) (k n : ℕ) (m : VariableSet) → answers_both choice ≡ true → HasSpots d t all k (O d t all (Boolean ∷ []) m (pick_code c n choice ∷ [])) → AllEnter m n choice → Stretch d t all k (Boolean ∷ []) m (O d t all (Boolean ∷ []) m (pick_code c n choice ∷ [])) []
    pick_fine choice k n m answered has entered =
        let x = pick_code c n choice in
        let right = plain_right c d t stands.sorted stands.variables x (Boolean ∷ []) m
        (record { reads_none = refl; sets_none = refl; states_none = refl; parameters_none = refl; timers_none = refl; divisors_none = refl; output_none = tt }) (omega arith) (refl, tt) in
        single d t all x (Boolean ∷ []) m k right has (All-nil (Enters d t all [] m))
        (two_at (Enters d t all [] m) (picked c n choice false) (picked c n choice true) (picked_enters choice n m false (both_named choice false answered) entered) (picked_enters choice n m true (both_named choice true answered) entered))

    -- ---- a DECISION after its question

    abbrev Going : VariableSet → ℕ → Choice → Type 0
    Going m end choice = choice_goes_on choice ≡ true → Enters d t all [] (choice_left c m choice) end

    -- What follows a DECISION: nothing if no body goes on.
    after_fine : (choice : Choice) (rest : Text) (n : ℕ) (m : VariableSet) → (choice_goes_on choice ≡ false → rest ≡ falls) → (choice_goes_on choice ≡ true → Stretch d t all n [] (choice_left c m choice) (T n (choice_left c m choice) rest) [])
        → (AllFine d t all n (T n (choice_left c m choice) rest) × Chain d t all [] (T n (choice_left c m choice) rest) []) × Going m n choice
    after_fine choice rest n m none some = by_going (choice_goes_on choice) refl
      where
        by_going : (g : Bool) → choice_goes_on choice ≡ g → (AllFine d t all n (T n (choice_left c m choice) rest) × Chain d t all [] (T n (choice_left c m choice) rest) []) × Going m n choice
        by_going true e = let s = some e in ((s.fine, s.chain), λ _. s.enters)
        by_going false e = (
          subst (λ rest. AllFine d t all n (T n (choice_left c m choice) rest) × Chain d t all [] (T n (choice_left c m choice) rest) []) (sym (none e)) (tt, refl),
          λ h. not_true (choice_goes_on choice) h e,
        )

    -- Bodies one after another.
    record Parts (k : ℕ) (spots : List Spot) (E : Type 0) : Type 0 where
      fine : AllFine d t all k spots
      entered : E
      chain : Chain d t all [] spots []

    truth_fine : (choice : Choice) (k end : ℕ) (m : VariableSet) → answers_both choice ≡ true
        → HasSpots d t all k (O d t all (Boolean ∷ []) m (pick_code c (bodies_place k) choice ∷ []) ++ Bodies (bodies_place k) end m choice)
        → (HasSpots d t all (bodies_place k) (Bodies (bodies_place k) end m choice) → Parts (bodies_place k) (Bodies (bodies_place k) end m choice) (AllEnter m (bodies_place k) choice))
        → Stretch d t all k (Boolean ∷ []) m (O d t all (Boolean ∷ []) m (pick_code c (bodies_place k) choice ∷ []) ++ Bodies (bodies_place k) end m choice) []
    truth_fine choice k end m answered has bodies =
        let p = bodies_place k in
        let a = O d t all (Boolean ∷ []) m (pick_code c p choice ∷ []) in
        let b = Bodies p end m choice in
        let inner = bodies (has_back d t all a b k p refl has) in
        let first = pick_fine choice k p m answered (has_front d t all a b k has) inner.entered in
        record { fine = fine_append d t all a b k p refl first.fine inner.fine; enters = first.enters; chain = chain_append d t all a b (Boolean ∷ []) [] [] first.chain inner.chain }

    number_fine : (choice : Choice) (k end : ℕ) (m : VariableSet) → has_else choice ≡ true
        → HasSpots d t all k (O d t all Number m (tests_code c (answers_place c k choice) choice) ++ (Else (else_place k choice) end m choice ++ Answers (answers_place c k choice) end m choice))
        → (HasSpots d t all (else_place k choice) (Else (else_place k choice) end m choice) → Parts (else_place k choice) (Else (else_place k choice) end m choice) (Enters d t all [] m (else_place k choice)))
        → (HasSpots d t all (answers_place c k choice) (Answers (answers_place c k choice) end m choice) → Parts (answers_place c k choice) (Answers (answers_place c k choice) end m choice) (AnswersEnter m (answers_place c k choice) choice))
        → Stretch d t all k Number m (O d t all Number m (tests_code c (answers_place c k choice) choice) ++ (Else (else_place k choice) end m choice ++ Answers (answers_place c k choice) end m choice)) []
    number_fine choice k end m some has otherwise_one answered =
        let e = else_place k choice in
        let p = answers_place c k choice in
        let tests = O d t all Number m (tests_code c p choice) in
        let a = Else e end m choice in
        let b = Answers p end m choice in
        let long : k + length tests ≡ e = let x = over_length d t Number m (tests_code c p choice) in let y = tests_are c p choice in omega (arith, x, y) in
        let longer : e + length a ≡ p = let x = else_length d t c to e end m choice in omega (arith, x) in
        let behind_tests = has_back d t all tests (a ++ b) k e long has in
        let one = otherwise_one (has_front d t all a b e behind_tests) in
        let others = answered (has_back d t all a b e p longer behind_tests) in
        let first = tests_fine choice k p e m refl some (has_front d t all tests (a ++ b) k has) others.entered one.entered in
        record {
          fine = fine_append d t all tests (a ++ b) k e long first.fine (fine_append d t all a b e p longer one.fine others.fine);
          enters = first.enters;
          chain = chain_append d t all tests (a ++ b) Number [] [] first.chain (chain_append d t all a b [] [] [] one.chain others.chain);
        }

    -- A DECISION whose parts are right.
    decision_fine : (q : Tree) (choice : Choice) (rest : Text) (k p n : ℕ) (m : VariableSet) (a1 a2 : List Spot) → k + cost_of q ≡ p
        → NamedTree c q → is_answered vs q choice ≡ true → RightTree c q → ReadTree c m q
        → HasSpots d t all k (O d t all [] m (tree_code c q) ++ (cond (is_truth c q) a1 a2 ++ T n (choice_left c m choice) rest))
        → p + length (cond (is_truth c q) a1 a2) ≡ n
        → (AllFine d t all n (T n (choice_left c m choice) rest) × Chain d t all [] (T n (choice_left c m choice) rest) [])
        → (is_truth c q ≡ true → answers_both choice ≡ true → HasSpots d t all p a1 → Stretch d t all p (Boolean ∷ []) m a1 [])
        → (is_truth c q ≡ false → has_else choice ≡ true → HasSpots d t all p a2 → Stretch d t all p Number m a2 [])
        → Stretch d t all k [] m (O d t all [] m (tree_code c q) ++ (cond (is_truth c q) a1 a2 ++ T n (choice_left c m choice) rest)) []
    decision_fine q choice rest k p n m a1 a2 e named answered right read has long more truth numbers =
        let code = tree_code c q in
        let a = O d t all [] m code in
        let b = cond (is_truth c q) a1 a2 in
        let r = T n (choice_left c m choice) rest in
        let h = tree_has_sort c q named in
        let first : k + length a ≡ p = let x = over_length d t [] m code in let y = tree_size c q in omega (arith, x, y, e) in
        let behind_it = has_back d t all a (b ++ r) k p first has in
        let middle = by_sort (is_truth c q) refl h.sort (ap (has_sort tree_sorts.Boolean) h.is) (has_front d t all b r p behind_it) in
        let leads = tree_leads c d.signals t.process.variables t.parameters stands.sorted q h.sort [] m named h.is in
        let question = stretch code [] (sort_of_tree h.sort ∷ []) m m k p (0 + depth_of q) (cost_of q) 0 leads (let y = tree_size c q in omega (arith, y, e))
        (tree_right c d t stands.sorted stands.variables q [] m named right.0 right.1 read) (has_front d t all a (b ++ r) k has) middle.enters in
        record {
          fine = fine_append d t all a (b ++ r) k p first question.fine (fine_append d t all b r p n long middle.fine more.0);
          enters = question.enters;
          chain = chain_append d t all a (b ++ r) [] (sort_of_tree h.sort ∷ []) [] question.chain (chain_append d t all b r (sort_of_tree h.sort ∷ []) [] [] middle.chain more.1);
        }
      where
        by_sort : (x : Bool) → is_truth c q ≡ x → (s : tree_sort.Sort) → is_truth c q ≡ has_sort tree_sorts.Boolean (Some s) → HasSpots d t all p (cond x a1 a2) → Stretch d t all p (sort_of_tree s ∷ []) m (cond x a1 a2) []
        by_sort true f s g has =
            subst (λ r. Stretch d t all p (r ∷ []) m a1 []) (sym (truth_sort s (sym g ∙ f))) (truth f (answered_truth (is_truth c q) (answers_both choice) (has_else choice) f (and_second (has_values choice) (cond (is_truth c q) (answers_both choice) (has_else choice)) answered)) has)
        by_sort false f s g has =
            subst (λ r. Stretch d t all p (r ∷ []) m a2 []) (sym (number_sort s (sym g ∙ f))) (numbers f (answered_number (is_truth c q) (answers_both choice) (has_else choice) f (and_second (has_values choice) (cond (is_truth c q) (answers_both choice) (has_else choice)) answered)) has)

    mutual
      -- A text at place k, followed by code at place n.
      pub text_fine : (u : Text) (k n : ℕ) (m : VariableSet) → k + size vs u ≡ n → HasSpots d t all k (T k m u) → NamedText c u → RightText c is u → ReadText c t.process.states m u → TextFits c es m u → EachJoin Begins u
          → (goes_on u ≡ true → Enters d t all [] (left c m u) n) → Stretch d t all k [] m (T k m u) []
      text_fine falls k n m e has named right read fits joins enters = let f : n ≡ k = omega (arith, e) in record { fine = tt; enters = subst (Enters d t all [] m) f (enters refl); chain = refl }
      text_fine (ends end) k n m e has named right read fits joins enters = end_fine end k m has named read fits joins
      text_fine (does a rest) k n m e has named right read fits joins enters =
          let p = k + action_cost a in
          let m2 = action_set c m a in
          let code = action_code c a in
          let x = O d t all [] m code in
          let y = T p m2 rest in
          let long : k + length x ≡ p = let l = over_length d t [] m code in let s = action_size c a in omega (arith, l, s) in
          let more = text_fine rest p n m2 (omega (arith, e)) (has_back d t all x y k p long has) named.1 right.1 read.1 fits joins enters in
          let leads = action_leads c d.signals t.process.variables t.parameters stands.sorted a m named.0 (counted_action c d.signals stands.parameters a named.0 right.0.0) in
          let first = stretch code [] [] m m2 k p (action_depth a) (action_cost a) (action_effects a) leads (let s = action_size c a in omega (arith, s))
          (action_right c d t stands is reaching a m named.0 right.0.0 right.0.1 right.0.2 right.0.3 read.0) (has_front d t all x y k has) more.enters in
          record { fine = fine_append d t all x y k p long first.fine more.fine; enters = first.enters; chain = chain_append d t all x y [] [] [] first.chain more.chain }
      text_fine (decides at q choice rest) k n m e has named right read fits joins enters =
          let p = k + cost_of q in
          let b = is_truth c q in
          let next_place = after_choice c b p choice in
          let m2 = choice_left c m choice in
          let a1 = O d t all (Boolean ∷ []) m (pick_code c (bodies_place p) choice ∷ []) ++ Bodies (bodies_place p) (after_choice c true p choice) m choice in
          let a2 = O d t all Number m (tests_code c (answers_place c p choice) choice)
          ++ (Else (else_place p choice) (after_choice c false p choice) m choice ++ Answers (answers_place c p choice) (after_choice c false p choice) m choice) in
          let long = middle_length d t c to b choice p m in
          let a = O d t all [] m (tree_code c q) in
          let first : k + length a ≡ p = let x = over_length d t [] m (tree_code c q) in let y = tree_size c q in omega (arith, x, y) in
          let has_rest = has_back d t all (cond b a1 a2) (T next_place m2 rest) p next_place long (has_back d t all a (cond b a1 a2 ++ T next_place m2 rest) k p first has) in
          let more = after_fine choice rest next_place m named.0.reached
          (λ goes. text_fine rest next_place n m2 (omega (arith, e)) has_rest named.2 right.2 read.2 fits.1 joins.1 (λ on. enters (both_true (choice_goes_on choice) (goes_on rest) goes on))) in
          decision_fine q choice rest k p next_place m a1 a2 refl named.0.question named.0.answered right.0 read.0 has long more.0
          (λ f answered has.
          let end : Going m (after_choice c true p choice) choice = subst (λ b. Going m (after_choice c b p choice) choice) f more.1 in
          truth_fine choice p (after_choice c true p choice) m answered has
          (λ has. bodies_fine q choice (bodies_place p) (after_choice c true p choice) m m2 (choice_leaves c m choice) end has named.1 right.1 read.1 fits.0 joins.0))
          (λ f some has.
          let end : Going m (after_choice c false p choice) choice = subst (λ b. Going m (after_choice c b p choice) choice) f more.1 in
          number_fine choice p (after_choice c false p choice) m some has
          (λ has. else_fine q choice (else_place p choice) (after_choice c false p choice) m m2 some (choice_leaves c m choice) end has named.1 right.1 read.1 fits.0 joins.0)
          (λ has. answers_fine q choice (answers_place c p choice) (after_choice c false p choice) m m2 (choice_leaves c m choice) end has named.1 right.1 read.1 fits.0 joins.0))

      else_fine : (q : Tree) (choice : Choice) (k end : ℕ) (m x : VariableSet) → has_else choice ≡ true → Leaves c x m choice → (choice_goes_on choice ≡ true → Enters d t all [] x end) → HasSpots d t all k (Else k end m choice) → NamedChoice c q choice → RightChoice c is choice
          → ReadChoice c t.process.states m choice → ChoiceFits c es m choice → ChoiceJoin Begins choice → Parts k (Else k end m choice) (Enters d t all [] m k)
      else_fine q nothing_else k end m x some leaves enters has named right read fits joins = absurd (let k : ⊥ = cc in k)
      else_fine q (otherwise body) k end m x some leaves enters has named right read fits joins =
          let mid = k + size vs body in
          let s = body_fine body k mid (mid + jump_size body) end m refl refl has (λ has on. text_fine body k mid m refl has named right read fits joins on) (λ g. enters_more d t all [] x (left c m body) end leaves (enters g)) in
          record { fine = s.fine; entered = s.enters; chain = s.chain }
      else_fine q (answer at rs body others) k end m x some leaves enters has named right read fits joins =
          else_fine q others k end m x some leaves.1 (λ g. enters (ap (λ y. goes_on body || y) g ∙ or-true (goes_on body))) has named.2 right.1 read.1 fits.1 joins.1

      answers_fine : (q : Tree) (choice : Choice) (k end : ℕ) (m x : VariableSet) → Leaves c x m choice → (choice_goes_on choice ≡ true → Enters d t all [] x end) → HasSpots d t all k (Answers k end m choice) → NamedChoice c q choice → RightChoice c is choice
          → ReadChoice c t.process.states m choice → ChoiceFits c es m choice → ChoiceJoin Begins choice → Parts k (Answers k end m choice) (AnswersEnter m k choice)
      answers_fine q nothing_else k end m x leaves enters has named right read fits joins = record { fine = tt; entered = tt; chain = refl }
      answers_fine q (otherwise body) k end m x leaves enters has named right read fits joins = record { fine = tt; entered = tt; chain = refl }
      answers_fine q (answer at rs body others) k end m x leaves enters has named right read fits joins =
          let mid = k + size vs body in
          let p = k + body_size c body in
          let a = T k m body in
          let b = Leave end (left c m body) body in
          let r = Answers p end m others in
          let long : k + length (a ++ b) ≡ p = let y = text_length d t c to k m body in let z = leave_length d t c to end (left c m body) body in omega (arith, y, z, length-append a b) in
          let has2 = subst (HasSpots d t all k) (sym (append_assoc a b r)) has in
          let s = body_fine body k mid p end m refl (omega arith) (has_front d t all (a ++ b) r k has2) (λ has on. text_fine body k mid m refl has named.1 right.0 read.0 fits.0 joins.0 on)
          (λ g. enters_more d t all [] x (left c m body) end leaves.0 (enters (ap (λ y. y || choice_goes_on others) g))) in
          let more = answers_fine q others p end m x leaves.1 (λ g. enters (ap (λ y. goes_on body || y) g ∙ or-true (goes_on body))) (has_back d t all (a ++ b) r k p long has2) named.2 right.1 read.1 fits.1 joins.1 in
          record {
            fine = subst (AllFine d t all k) (append_assoc a b r) (fine_append d t all (a ++ b) r k p long s.fine more.fine);
            entered = (s.enters, more.entered);
            chain = subst (λ l. Chain d t all [] l []) (append_assoc a b r) (chain_append d t all (a ++ b) r [] [] [] s.chain more.chain);
          }

      bodies_fine : (q : Tree) (choice : Choice) (k end : ℕ) (m x : VariableSet) → Leaves c x m choice → (choice_goes_on choice ≡ true → Enters d t all [] x end) → HasSpots d t all k (Bodies k end m choice) → NamedChoice c q choice → RightChoice c is choice
          → ReadChoice c t.process.states m choice → ChoiceFits c es m choice → ChoiceJoin Begins choice → Parts k (Bodies k end m choice) (AllEnter m k choice)
      bodies_fine q nothing_else k end m x leaves enters has named right read fits joins = record { fine = tt; entered = tt; chain = refl }
      bodies_fine q (otherwise body) k end m x leaves enters has named right read fits joins =
          let mid = k + size vs body in
          let s = body_fine body k mid (mid + jump_size body) end m refl refl has (λ has on. text_fine body k mid m refl has named right read fits joins on) (λ g. enters_more d t all [] x (left c m body) end leaves (enters g)) in
          record { fine = s.fine; entered = s.enters; chain = s.chain }
      bodies_fine q (answer at rs body others) k end m x leaves enters has named right read fits joins =
          let mid = k + size vs body in
          let p = k + body_size c body in
          let a = T k m body in
          let b = Leave end (left c m body) body in
          let r = Bodies p end m others in
          let long : k + length (a ++ b) ≡ p = let y = text_length d t c to k m body in let z = leave_length d t c to end (left c m body) body in omega (arith, y, z, length-append a b) in
          let has2 = subst (HasSpots d t all k) (sym (append_assoc a b r)) has in
          let s = body_fine body k mid p end m refl (omega arith) (has_front d t all (a ++ b) r k has2) (λ has on. text_fine body k mid m refl has named.1 right.0 read.0 fits.0 joins.0 on)
          (λ g. enters_more d t all [] x (left c m body) end leaves.0 (enters (ap (λ y. y || choice_goes_on others) g))) in
          let more = bodies_fine q others p end m x leaves.1 (λ g. enters (ap (λ y. goes_on body || y) g ∙ or-true (goes_on body))) (has_back d t all (a ++ b) r k p long has2) named.2 right.1 read.1 fits.1 joins.1 in
          record {
            fine = subst (AllFine d t all k) (append_assoc a b r) (fine_append d t all (a ++ b) r k p long s.fine more.fine);
            entered = (s.enters, more.entered);
            chain = subst (λ l. Chain d t all [] l []) (append_assoc a b r) (chain_append d t all (a ++ b) r [] [] [] s.chain more.chain);
          }
