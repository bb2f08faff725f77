-- If a variable isn't claimed as set at a place, no walk from there reads it or ends in a state that has it as set.
use Rattle.std.proofs.Common.{◌≡◌, ℕ, zero, suc, ◌+◌, ◌-◌, ◌<◌, ◌≤◌, Bool, true, false, not, cond, ◌==◌, ◌||◌, ◌&&◌, List, [], ◌∷◌, ◌++◌, ◌⊎◌, inl, inr, ⊎_elim, length, get_or, map, Option, Some, None, IsSome, refl, sym, ap, ◌∙◌, subst, arith}
use Rattle.std.specs.Prelude.{slice_get, slice_set, nat_eq}
use Rattle.std.specs.Int.{bit_at}
use Rattle.std.specs.List.{flat_map}
use Rattle.std.specs.Option.{option_map_or}
use Rattle.std.proofs.lemmas.List.{append-nil}
use Rattle.std.proofs.lemmas.Bool.Decides.{nat_tests}
use Rattle.std.proofs.lemmas.Option.{slice_get-get_or}
use Rattle.sdl_ast.specs.declared.expression.Identifier.{Identifier}
use Rattle.sdl_ast.specs.declared.tree.Join as tree_join
use Rattle.sdl_ast.specs.declared.tree.End.TheVariants.{NextState, Stop, Join}
use Rattle.sdl_ast.specs.Plain.{Tree, PlainAssignment, PlainAction, task, output, set_timer, reset_timer, Text, falls, ends, does, decides, Choice, nothing_else, otherwise, answer, PlainConnection}
use Rattle.turn_code.specs.declared.variable_set.VariableSet.{VariableSet}
use Rattle.turn_code.specs.declared.draft.DraftState.{DraftState}
use Rattle.turn_code.specs.Sets.{Has, IsWithin, with_variable}
use Rattle.sdl_tables.specs.Names.{same_name, number_of, is_state, variable_names, states_of, connection_named}
use Rattle.sdl_sound.specs.Paths.{Event, sets, tree_events, assignment_events, sending_events, action_events, reads_first, sets_in}
use Rattle.sdl_sound.specs.Chances.{Chances, no_chances, event_chances, behind, beside, last_chances, chances, choice_chances, chances_by}
use Rattle.sdl_sound.specs.Names.{tree_names}
use Rattle.sdl_meaning.specs.Act.{is_truth}
use Rattle.sdl_meaning.specs.Outcomes.{Scope, variable_at, state_at, connector_at}
use Rattle.sdl_meaning.specs.Code.{number_or_zero}
use Rattle.sdl_meaning.specs.Named.{NamedTree, NamedAction, NamedText, NamedChoice}
use Rattle.sdl_compile.specs.Reads.{ReadTree, ReadAction, tasks_set, action_set, everything, meet, left, answers_left, else_left, choice_left, ReadText, ReadChoice}
use Rattle.sdl_compile.specs.Entries.{entry_at, met_at, met, answers_met, else_met, connection_met, connections_met}
use Rattle.sdl_meaning.proofs.Branches.{EachJoin, ChoiceJoin}
use Rattle.sdl_meaning.proofs.Numbers.{AreNumbered}
use Rattle.sdl_meaning.proofs.Sorting.{place_in, first_of_some, found_at}
use Rattle.sdl_compile.proofs.Walks.{by_bool, has_new, sets_append, reads_set_none, one_read, action_read}
use Rattle.plain_laws.proofs.Truths.{neither_first as or_front, neither_second as or_back}
use Rattle.sdl_sound.proofs.Numbered.{number_alike}
use Rattle.sdl_compile.proofs.UnsetLaws.{and_back, not_true, not_false, has_everything, has_meet, text_less, joins_less, sendings_set_none, tasks_keep, action_keep, left_keep, choice_keep}

module _ (c : Scope) (numbered : AreNumbered (variable_names c.process)) (few : length (variable_names c.process) ≤ 32) where
  abbrev Named : ℕ → Identifier → Type 0
  Named v id = slice_get (variable_names c.process) v ≡ Some id

  within : {A : Type 0} (xs : List A) (v : ℕ) (x : A) → slice_get xs v ≡ Some x → v < length xs
  within [] v x e = absurd (let k : ⊥ = cc in k)
  within (y ∷ xs) zero x e = omega arith
  within (y ∷ xs) (suc v) x e = let h = within xs v x e in omega (arith, h)

  named_small : (v : ℕ) (id : Identifier) → Named v id → v < 32
  named_small v id at = let h = within (variable_names c.process) v id at in omega (arith, h, few)

  everything_at : (v : ℕ) (id : Identifier) → Named v id → Has everything v
  everything_at v id at = has_everything v (named_small v id at)

  -- ---- what is set on each way

  tasks_add : (ts : List PlainAssignment) (m : VariableSet) (v : ℕ) (id : Identifier) → Named v id → sets_in (flat_map assignment_events ts) id.name ≡ true → Has (tasks_set c m ts) v
  tasks_add [] m v id at h = absurd (let k : ⊥ = cc in k)
  tasks_add (a ∷ ts) m v id at h =
      let x = id.name in
      let rs = tree_events a.value in
      let s = sets a.variable.name ∷ [] in
      let n = number_or_zero (variable_at c a.variable) in
      let m2 = with_variable m n in
      let more = flat_map assignment_events ts in
      let e = sets_append (rs ++ s) more x in
      let f = sets_append rs s x in
      let g = reads_set_none (tree_names a.value) x in
      let split : (sets_in s x || sets_in more x) ≡ true = ap (λ b. (b || sets_in s x) || sets_in more x) (sym g) ∙ ap (λ b. b || sets_in more x) (sym f) ∙ sym e ∙ h in
      by_bool (same_name x a.variable.name)
      (λ same.
      let number : number_of (variable_names c.process) a.variable.name ≡ Some v = sym (number_alike (variable_names c.process) x a.variable.name same) ∙ numbered v id at in
      tasks_keep c ts m2 v (subst (Has m2) (ap number_or_zero number) (has_new m n)))
      (λ other. tasks_add ts m2 v id at (ap (λ b. (b || false) || sets_in more x) (sym other) ∙ split))

  action_add : (a : PlainAction) (m : VariableSet) (v : ℕ) (id : Identifier) → Named v id → sets_in (action_events a) id.name ≡ true → Has (action_set c m a) v
  action_add (task at ts) m v id at2 h = tasks_add ts m v id at2 h
  action_add (output at list to) m v id at2 h = not_true (sets_in (flat_map sending_events list) id.name) h (sendings_set_none list id.name)
  action_add (set_timer at u n) m v id at2 h = not_true (sets_in (tree_events u) id.name) h (reads_set_none (tree_names u) id.name)
  action_add (reset_timer at n) m v id at2 h = absurd (let k : ⊥ = cc in k)

  -- A variable that isn't left unset is left set.
  mutual
    left_set : (states : List Identifier) (join : List ℕ → Chances) (q : ℕ) (t : Text) (m : VariableSet) (v : ℕ) (id : Identifier) → Named v id → (chances states join id.name q t).leaves ≡ false → Has (left c m t) v
    left_set states join q falls m v id at e = absurd (let k : ⊥ = cc in k)
    left_set states join q (ends e) m v id at f = everything_at v id at
    left_set states join q (does a rest) m v id at e =
        by_bool (sets_in (action_events a) id.name)
        (λ s. left_keep c rest (action_set c m a) v (named_small v id at) (action_add a m v id at s))
        (λ s. left_set states join q rest (action_set c m a) v id at (and_back (not (sets_in (action_events a) id.name)) (chances states join id.name q rest).leaves e (not_false (sets_in (action_events a) id.name) s)))
    left_set states join q (decides place u choice rest) m v id at e =
        let x = id.name in
        let s = not_false (sets_in (tree_events u) x) (reads_set_none (tree_names u) x) in
        let body = choice_chances states join x q choice in
        let more = chances states join x q rest in
        let both = and_back (not (sets_in (tree_events u) x)) (body.leaves && more.leaves) e s in
        by_bool body.leaves
        (λ f. left_set states join q rest (choice_left c m choice) v id at (and_back body.leaves more.leaves both f))
        (λ f.
        left_keep c rest (choice_left c m choice) v (named_small v id at)
        (has_meet (answers_left c m everything choice) (else_left c m choice) v (answers_set states join q choice m everything v id at (everything_at v id at) f) (else_set states join q choice m v id at f)))

    answers_set : (states : List Identifier) (join : List ℕ → Chances) (q : ℕ) (choice : Choice) (m all : VariableSet) (v : ℕ) (id : Identifier) → Named v id → Has all v → (choice_chances states join id.name q choice).leaves ≡ false → Has (answers_left c m all choice) v
    answers_set states join q nothing_else m all v id at h e = h
    answers_set states join q (otherwise body) m all v id at h e = h
    answers_set states join q (answer place ranges body others) m all v id at h e =
        let one = chances states join id.name q body in
        let more = choice_chances states join id.name q others in
        answers_set states join q others m (meet all (left c m body)) v id at
        (has_meet all (left c m body) v h (left_set states join q body m v id at (or_front one.leaves more.leaves e))) (or_back one.leaves more.leaves e)

    else_set : (states : List Identifier) (join : List ℕ → Chances) (q : ℕ) (choice : Choice) (m : VariableSet) (v : ℕ) (id : Identifier) → Named v id → (choice_chances states join id.name q choice).leaves ≡ false → Has (else_left c m choice) v
    else_set states join q nothing_else m v id at e = everything_at v id at
    else_set states join q (otherwise body) m v id at e = left_set states join q body m v id at e
    else_set states join q (answer place ranges body others) m v id at e =
        else_set states join q others m v id at (or_back (chances states join id.name q body).leaves (choice_chances states join id.name q others).leaves e)

  choice_set : (states : List Identifier) (join : List ℕ → Chances) (q : ℕ) (choice : Choice) (m : VariableSet) (v : ℕ) (id : Identifier) → Named v id → (choice_chances states join id.name q choice).leaves ≡ false → Has (choice_left c m choice) v
  choice_set states join q choice m v id at e =
      has_meet (answers_left c m everything choice) (else_left c m choice) v (answers_set states join q choice m everything v id at (everything_at v id at) e) (else_set states join q choice m v id at e)

  -- ---- what reaches each place

  module _ (ranges : List ℕ) (ss : List DraftState)
      (declared : (q set v : ℕ) → slice_get ranges q ≡ Some set → bit_at set v ≡ 1 → v < length (variable_names c.process))
      (same : (q : ℕ) (s : DraftState) → slice_get ss q ≡ Some s → slice_get ranges q ≡ Some s.set.0) where
    -- Nothing reads variable v, and no state that has it as set is entered.
    pub record Calm (h : Chances) (q v : ℕ) : Type 0 where
      pub reads : h.reads ≡ false
      pub enters : (set : ℕ) → slice_get ranges q ≡ Some set → bit_at set v ≡ 1 → h.enters ≡ false

    -- Each variable is set, or what follows doesn't need it.
    abbrev pub Safe : VariableSet → (List ℕ → ℕ → Chances) → Type 0
    Safe m f = (v q : ℕ) (id : Identifier) → Named v id → Has m v ⊎ Calm (f id.name q) q v

    reads_when_safe : (events : List Event) (m : VariableSet) (f : List ℕ → ℕ → Chances) → Safe m (λ x q. behind (event_chances events x) (f x q))
        → (v : ℕ) (id : Identifier) → Named v id → reads_first events id.name ≡ true → Has m v
    reads_when_safe events m f safe v id at first =
        let x = id.name in
        ⊎_elim (λ has. has) (λ calm. not_true (reads_first events x) first (or_front (reads_first events x) (not (sets_in events x) && (f x 0).reads) calm.reads)) (safe v 0 id at)

    safe_behind : (events : List Event) (m m2 : VariableSet) (f : List ℕ → ℕ → Chances)
        → ((v : ℕ) → Has m v → Has m2 v) → ((v : ℕ) (id : Identifier) → Named v id → sets_in events id.name ≡ true → Has m2 v)
        → Safe m (λ x q. behind (event_chances events x) (f x q)) → Safe m2 f
    safe_behind events m m2 f keeps adds safe v q id at =
        let x = id.name in
        let h = f x q in
        ⊎_elim (λ has. inl (keeps v has))
        (λ calm.
        by_bool (sets_in events x)
        (λ s. inl (adds v id at s))
        (λ s. inr (record {
          reads = and_back (not (sets_in events x)) h.reads (or_back (reads_first events x) (not (sets_in events x) && h.reads) calm.reads) (not_false (sets_in events x) s);
          enters = λ set is has. and_back (not (sets_in events x)) h.enters (or_back false (not (sets_in events x) && h.enters) (calm.enters set is has)) (not_false (sets_in events x) s);
        })))
        (safe v q id at)

    action_reads : (a : PlainAction) (m : VariableSet) (f : List ℕ → ℕ → Chances) → NamedAction c a → Safe m (λ x q. behind (event_chances (action_events a) x) (f x q)) → ReadAction c m a
    action_reads a m f named safe =
        (action_read c m.0 numbered a [] [] m named (λ x v at known. ⊎_elim (λ a. a) (λ b. absurd (let k : ⊥ = cc in k)) known)
        (λ v id at first. reads_when_safe (action_events a) m f safe v id at (ap (λ l. reads_first l id.name) (sym (append-nil (action_events a))) ∙ first))).0

    tree_reads : (u : Tree) (m : VariableSet) (f : List ℕ → ℕ → Chances) → NamedTree c u → Safe m (λ x q. behind (event_chances (tree_events u) x) (f x q)) → ReadTree c m u
    tree_reads u m f named safe =
        one_read c m.0 numbered u [] [] m named (λ x v at known. ⊎_elim (λ a. a) (λ b. absurd (let k : ⊥ = cc in k)) known)
        (λ v id at first. reads_when_safe (tree_events u) m f safe v id at (ap (λ l. reads_first l id.name) (sym (append-nil (tree_events u))) ∙ first))

    after_tree : (u : Tree) (m : VariableSet) (f : List ℕ → ℕ → Chances) → Safe m (λ x q. behind (event_chances (tree_events u) x) (f x q)) → Safe m f
    after_tree u m f safe = safe_behind (tree_events u) m m f (λ v h. h) (λ v id at s. not_true (sets_in (tree_events u) id.name) s (reads_set_none (tree_names u) id.name)) safe

    -- If some bodies leave a variable unset, what follows doesn't need it.
    safe_front : (m : VariableSet) (f g : List ℕ → ℕ → Chances) → Safe m (λ x q. behind (f x q) (g x q)) → Safe m f
    safe_front m f g safe v q id at =
        let h = f id.name q in
        let k = g id.name q in
        ⊎_elim (λ has. inl has)
        (λ calm. inr (record { reads = or_front h.reads (h.leaves && k.reads) calm.reads; enters = λ set is has. or_front h.enters (h.leaves && k.enters) (calm.enters set is has) }))
        (safe v q id at)

    safe_back : (m m2 : VariableSet) (f g : List ℕ → ℕ → Chances)
        → ((v : ℕ) → v < 32 → Has m v → Has m2 v) → ((v q : ℕ) (id : Identifier) → Named v id → (f id.name q).leaves ≡ false → Has m2 v)
        → Safe m (λ x q. behind (f x q) (g x q)) → Safe m2 g
    safe_back m m2 f g keeps adds safe v q id at =
        let h = f id.name q in
        let k = g id.name q in
        ⊎_elim (λ has. inl (keeps v (named_small v id at) has))
        (λ calm.
        by_bool h.leaves
        (λ l. inr (record {
          reads = and_back h.leaves k.reads (or_back h.reads (h.leaves && k.reads) calm.reads) l;
          enters = λ set is has. and_back h.leaves k.enters (or_back h.enters (h.leaves && k.enters) (calm.enters set is has)) l;
        }))
        (λ l. inl (adds v q id at l)))
        (safe v q id at)

    safe_left : (m : VariableSet) (f g : List ℕ → ℕ → Chances) → Safe m (λ x q. beside (f x q) (g x q)) → Safe m f
    safe_left m f g safe v q id at =
        let h = f id.name q in
        let k = g id.name q in
        ⊎_elim (λ has. inl has)
        (λ calm. inr (record { reads = or_front h.reads k.reads calm.reads; enters = λ set is has. or_front h.enters k.enters (calm.enters set is has) }))
        (safe v q id at)

    safe_right : (m : VariableSet) (f g : List ℕ → ℕ → Chances) → Safe m (λ x q. beside (f x q) (g x q)) → Safe m g
    safe_right m f g safe v q id at =
        let h = f id.name q in
        let k = g id.name q in
        ⊎_elim (λ has. inl has)
        (λ calm. inr (record { reads = or_back h.reads k.reads calm.reads; enters = λ set is has. or_back h.enters k.enters (calm.enters set is has) }))
        (safe v q id at)

    equal_self : (q : ℕ) → nat_eq q q ≡ true
    equal_self q = grind (arith, nat_tests)

    end_reads : (n : Identifier) (m : VariableSet) → IsSome (state_at c n) → Safe m (λ x q. record { reads = false; leaves = false; enters = is_state (states_of c.process) q n.name })
        → (s : DraftState) → slice_get ss (number_or_zero (state_at c n)) ≡ Some s → IsWithin s.set m
    end_reads n m named safe s = by_number (state_at c n) refl named
      where
        by_number : (o : Option ℕ) → state_at c n ≡ o → IsSome o → slice_get ss (number_or_zero o) ≡ Some s → IsWithin s.set m
        by_number None e k at = absurd (let k : ⊥ = cc in k)
        by_number (Some q) e k at = λ v has.
            let set = same q s at in
            let lt = declared q s.set.0 v set has in
            let id = get_or (variable_names c.process) v n in
            let there = slice_get-get_or (variable_names c.process) v n lt in
            let is : is_state (states_of c.process) q n.name ≡ true = ap (λ o. option_map_or (λ n. n == q) o false) e ∙ equal_self q in
            ⊎_elim (λ has. has) (λ calm. not_true (is_state (states_of c.process) q n.name) is (calm.enters s.set.0 set has)) (safe v q id there)

    module _ (join : List ℕ → ℕ → List ℕ → Chances) where
      abbrev pub of_text : Text → List ℕ → ℕ → Chances
      of_text t x q = chances (states_of c.process) (join x q) x q t

      abbrev of_choice : Choice → List ℕ → ℕ → Chances
      of_choice t x q = choice_chances (states_of c.process) (join x q) x q t

      mutual
        pub text_reads : (t : Text) (m : VariableSet) → NamedText c t → Safe m (of_text t) → ReadText c ss m t
        text_reads falls m named safe = tt
        text_reads (ends (NextState n)) m named safe = end_reads n.state m named safe
        text_reads (ends (Stop at)) m named safe = tt
        text_reads (ends (Join j)) m named safe = tt
        text_reads (does a rest) m named safe = (
          action_reads a m (of_text rest) named.0 safe,
          text_reads rest (action_set c m a) named.1 (safe_behind (action_events a) m (action_set c m a) (of_text rest) (action_keep c a m) (action_add a m) safe),
        )
        text_reads (decides at u choice rest) m named safe =
            let all = after_tree u m (λ x q. behind (of_choice choice x q) (of_text rest x q)) safe in (
              tree_reads u m (λ x q. behind (of_choice choice x q) (of_text rest x q)) named.0.question safe,
              choice_reads u choice m named.1 (safe_front m (of_choice choice) (of_text rest) all),
              text_reads rest (choice_left c m choice) named.2
                  (safe_back m (choice_left c m choice) (of_choice choice) (of_text rest) (choice_keep c choice m) (λ v q id at e. choice_set (states_of c.process) (join id.name q) q choice m v id at e) all),
            )

        choice_reads : (u : Tree) (choice : Choice) (m : VariableSet) → NamedChoice c u choice → Safe m (of_choice choice) → ReadChoice c ss m choice
        choice_reads u nothing_else m named safe = tt
        choice_reads u (otherwise body) m named safe = text_reads body m named safe
        choice_reads u (answer at ranges body others) m named safe = (
          text_reads body m named.1 (safe_left m (of_text body) (of_choice others) safe),
          choice_reads u others m named.2 (safe_right m (of_text body) (of_choice others) safe),
        )

    -- ---- the sets with which connections begin

    set_entry : (es : List VariableSet) (n k v : ℕ) (e : VariableSet) → (k ≡ n → Has e v) → Has (entry_at es k) v → Has (entry_at (slice_set es n e) k) v
    set_entry [] n k v e new old = old
    set_entry (x ∷ es) zero zero v e new old = new refl
    set_entry (x ∷ es) zero (suc k) v e new old = old
    set_entry (x ∷ es) (suc n) zero v e new old = old
    set_entry (x ∷ es) (suc n) (suc k) v e new old = set_entry es n k v e (λ f. new (ap suc f)) old

    -- The chances of the text of a connection, if at most n JOINs are followed.
    abbrev pub inside_by : ℕ → List ℕ → ℕ → PlainConnection → Chances
    inside_by n x q k = chances (states_of c.process) (chances_by c.process n x q) x q k.text

    plain : (h : Chances) (q v : ℕ) → Calm (last_chances h) q v → Calm h q v
    plain h q v calm = record { reads = calm.reads; enters = calm.enters }

    lower : (n q v : ℕ) (x : List ℕ) (k : PlainConnection) → Calm (inside_by (suc n) x q k) q v → Calm (inside_by n x q k) q v
    lower n q v x k calm =
        let less = text_less (states_of c.process) (chances_by c.process n x q) (chances_by c.process (suc n) x q) (λ y. joins_less c.process n x q y) x q k.text in
        record { reads = less.reads calm.reads; enters = λ set is has. less.enters (calm.enters set is has) }

    lower_to : (d n m q v : ℕ) (x : List ℕ) (k : PlainConnection) → n ≡ m + d → Calm (inside_by n x q k) q v → Calm (inside_by m x q k) q v
    lower_to zero n m q v x k e calm = let f : n ≡ m = omega (arith, e) in subst (λ n. Calm (inside_by n x q k) q v) f calm
    lower_to (suc d) zero m q v x k e calm = absurd (omega (arith, e))
    lower_to (suc d) (suc n) m q v x k e calm = lower_to d n m q v x k (omega (arith, e)) (lower n q v x k calm)

    abbrev connection_name : PlainConnection → Identifier
    connection_name k = k.name

    -- Each JOIN in a connection leads to one with fewer steps.
    module _ (steps : ℕ → ℕ) where
      abbrev pub AllSafe : List VariableSet → Type 0
      AllSafe es = (n : ℕ) (k : PlainConnection) → slice_get c.process.connections n ≡ Some k → Safe (entry_at es n) (λ x q. inside_by (steps n) x q k)

      -- A JOIN to a connection with fewer than n steps.
      abbrev pub IsFewer : ℕ → tree_join.Join → Type 0
      IsFewer n j = steps (number_or_zero (connector_at c j.connector)) < n

      calm_inside : (n number q v : ℕ) (x : List ℕ) (k : PlainConnection) (o : Option PlainConnection) → o ≡ Some k → steps number < suc n
          → Calm (option_map_or (λ k. last_chances (inside_by n x q k)) o no_chances) q v → Calm (inside_by (steps number) x q k) q v
      calm_inside n number q v x k o e lt calm =
          lower_to (n - steps number) n (steps number) q v x k (omega (arith, lt)) (plain (inside_by n x q k) q v (subst (λ o. Calm (option_map_or (λ k. last_chances (inside_by n x q k)) o no_chances) q v) e calm))

      join_safe : (n : ℕ) (j : tree_join.Join) (m : VariableSet) (es : List VariableSet) → IsFewer n j → IsSome (connector_at c j.connector) → Safe m (λ x q. chances_by c.process n x q j.connector.name) → AllSafe es
          → AllSafe (met_at es (number_or_zero (connector_at c j.connector)) m)
      join_safe zero j m es lt named safe all n k at v q var there = absurd (omega (arith, lt))
      join_safe (suc f) j m es lt named safe all n k at v q var there =
          let id = j.connector in
          let number = number_or_zero (connector_at c id) in
          let place : number ≡ place_in connection_name id.name c.process.connections = first_of_some (λ (i : Identifier). same_name id.name i.name) (map connection_name c.process.connections) named in
          let found : connection_named c.process id.name ≡ slice_get c.process.connections number = found_at connection_name id.name c.process.connections ∙ ap (slice_get c.process.connections) (sym place) in
          ⊎_elim
          (λ has.
          by_bool (nat_eq n number)
          (λ e.
          let g : n ≡ number = grind (arith, nat_tests) in
          let here : connection_named c.process id.name ≡ Some k = found ∙ ap (slice_get c.process.connections) (sym g) ∙ at in
          ⊎_elim
          (λ set. inl (set_entry es number n v (meet (entry_at es number) m) (λ same. has_meet (entry_at es number) m v (subst (λ n. Has (entry_at es n) v) g has) set) has))
          (λ calm. inr (subst (λ n. Calm (inside_by (steps n) var.name q k) q v) (sym g) (calm_inside f number q v var.name k (connection_named c.process id.name) here lt calm)))
          (safe v q var there))
          (λ e. inl (set_entry es number n v (meet (entry_at es number) m) (λ g. not_true (nat_eq n number) (subst (λ k. nat_eq n k ≡ true) g (equal_self n)) e) has)))
          (λ calm. inr calm)
          (all n k at v q var there)

      by_sort : (b : Bool) (es fs : List VariableSet) → AllSafe es → AllSafe fs → AllSafe (cond b es fs)
      by_sort true es fs h k = h
      by_sort false es fs h k = k

      module _ (n : ℕ) where
        abbrev joined : List ℕ → ℕ → List ℕ → Chances
        joined x q y = chances_by c.process n x q y

        mutual
          pub text_safe : (t : Text) (m : VariableSet) (es : List VariableSet) → EachJoin (IsFewer n) t → NamedText c t → Safe m (of_text joined t) → AllSafe es → AllSafe (met c m t es)
          text_safe falls m es fewer named safe all = all
          text_safe (ends (NextState e)) m es fewer named safe all = all
          text_safe (ends (Stop at)) m es fewer named safe all = all
          text_safe (ends (Join j)) m es fewer named safe all = join_safe n j m es fewer named safe all
          text_safe (does a rest) m es fewer named safe all =
              text_safe rest (action_set c m a) es fewer named.1 (safe_behind (action_events a) m (action_set c m a) (of_text joined rest) (action_keep c a m) (action_add a m) safe) all
          text_safe (decides at u choice rest) m es fewer named safe all =
              let behind_it = after_tree u m (λ x q. behind (of_choice joined choice x q) (of_text joined rest x q)) safe in
              let inner = safe_front m (of_choice joined choice) (of_text joined rest) behind_it in
              let after = cond (is_truth c u) (else_met c m choice (answers_met c m choice es)) (answers_met c m choice (else_met c m choice es)) in
              text_safe rest (choice_left c m choice) after fewer.1 named.2
              (safe_back m (choice_left c m choice) (of_choice joined choice) (of_text joined rest) (choice_keep c choice m) (λ v q id at e. choice_set (states_of c.process) (joined id.name q) q choice m v id at e) behind_it)
              (by_sort (is_truth c u) (else_met c m choice (answers_met c m choice es)) (answers_met c m choice (else_met c m choice es))
              (else_safe u choice m (answers_met c m choice es) fewer.0 named.1 inner (answers_safe u choice m es fewer.0 named.1 inner all))
              (answers_safe u choice m (else_met c m choice es) fewer.0 named.1 inner (else_safe u choice m es fewer.0 named.1 inner all)))

          answers_safe : (u : Tree) (choice : Choice) (m : VariableSet) (es : List VariableSet) → ChoiceJoin (IsFewer n) choice → NamedChoice c u choice → Safe m (of_choice joined choice) → AllSafe es → AllSafe (answers_met c m choice es)
          answers_safe u nothing_else m es fewer named safe all = all
          answers_safe u (otherwise body) m es fewer named safe all = all
          answers_safe u (answer at ranges body others) m es fewer named safe all =
              answers_safe u others m (met c m body es) fewer.1 named.2 (safe_right m (of_text joined body) (of_choice joined others) safe)
              (text_safe body m es fewer.0 named.1 (safe_left m (of_text joined body) (of_choice joined others) safe) all)

          else_safe : (u : Tree) (choice : Choice) (m : VariableSet) (es : List VariableSet) → ChoiceJoin (IsFewer n) choice → NamedChoice c u choice → Safe m (of_choice joined choice) → AllSafe es → AllSafe (else_met c m choice es)
          else_safe u nothing_else m es fewer named safe all = all
          else_safe u (otherwise body) m es fewer named safe all = text_safe body m es fewer named safe all
          else_safe u (answer at ranges body others) m es fewer named safe all = else_safe u others m es fewer.1 named.2 (safe_right m (of_text joined body) (of_choice joined others) safe) all

      -- ---- one connection after another

      module _ (texts : (i : ℕ) (k : PlainConnection) → slice_get c.process.connections i ≡ Some k → NamedText c k.text)
          (fewer : (i : ℕ) (k : PlainConnection) → slice_get c.process.connections i ≡ Some k → EachJoin (IsFewer (steps i)) k.text) where
        connection_safe : (i : ℕ) (es : List VariableSet) → AllSafe es → AllSafe (connection_met c i es)
        connection_safe i es all = by_found (slice_get c.process.connections i) refl
          where
            by_found : (o : Option PlainConnection) → slice_get c.process.connections i ≡ o → AllSafe (option_map_or (λ (x : PlainConnection). met c (entry_at es i) x.text es) o es)
            by_found None e = all
            by_found (Some k) e = text_safe (steps i) k.text (entry_at es i) es (fewer i k e) (texts i k e) (all i k e) all

        connections_safe : (order : List ℕ) (es : List VariableSet) → AllSafe es → AllSafe (connections_met c order es)
        connections_safe [] es all = all
        connections_safe (i ∷ order) es all = connection_safe i (connections_met c order es) (connections_safe order es all)

        all_everything : (ks : List PlainConnection) (i v : ℕ) → v < 32 → Has (entry_at (map (λ (x : PlainConnection). everything) ks) i) v
        all_everything [] i v lt = has_everything v lt
        all_everything (k ∷ ks) zero v lt = has_everything v lt
        all_everything (k ∷ ks) (suc i) v lt = all_everything ks i v lt

        -- A piece: if its text is safe, it and each connection read only what is set, given their first sets.
        pub piece_reads : (n : ℕ) (t : Text) (m : VariableSet) (order : List ℕ) → NamedText c t → EachJoin (IsFewer n) t → Safe m (of_text (λ x q. chances_by c.process n x q) t)
            → ReadText c ss m t × ((i : ℕ) (k : PlainConnection) → slice_get c.process.connections i ≡ Some k → ReadText c ss (entry_at (connections_met c order (met c m t (map (λ (x : PlainConnection). everything) c.process.connections))) i) k.text)
        piece_reads n t m order named joins safe =
            let es = map (λ (x : PlainConnection). everything) c.process.connections in
            let start : AllSafe es = λ i k at v q id there. inl (all_everything c.process.connections i v (named_small v id there)) in
            let all = connections_safe order (met c m t es) (text_safe n t m es joins named safe start) in (
              text_reads (λ x q. chances_by c.process n x q) t m named safe,
              λ i k at. text_reads (λ x q. chances_by c.process (steps i) x q) k.text (entry_at (connections_met c order (met c m t es)) i) (texts i k at) (all i k at),
            )
