-- A text with known names, right sorts and receivers, and no open end has all that the compiler requires of names.
use Rattle.std.proofs.Common.{◌≡◌, ℕ, ◌+◌, ◌<◌, ◌≤◌, Bool, true, false, not, cond, ◌||◌, ◌&&◌, List, [], ◌∷◌, ◌++◌, length, Option, Some, None, IsSome, refl, sym, ap, ◌∙◌, subst, arith, nat_lt}
use Rattle.std.specs.Prelude.{zip}
use Rattle.std.specs.List.{list_any, flat_map, position, position_or_len, prefix_len}
use Rattle.std.proofs.lemmas.Bool.Decides.{nat_tests}
use Rattle.std.proofs.lemmas.List.Folds.{list_any-append}
use Rattle.sdl_ast.specs.declared.expression.Identifier.{Identifier}
use Rattle.sdl_ast.specs.declared.tree.Destination.{Destination}
use Rattle.sdl_ast.specs.declared.tree.Destination.TheVariants as address
use Rattle.sdl_ast.specs.declared.tree.End.{End}
use Rattle.sdl_ast.specs.declared.tree.End.TheVariants.{NextState, Stop, Join}
use Rattle.sdl_ast.specs.declared.tree.Range.{Range}
use Rattle.sdl_ast.specs.Plain.{Tree, number, truth, variable, unary, binary, PlainAssignment, PlainSending, PlainAction, task, output, set_timer, reset_timer, Text, falls, ends, does, decides, Choice, nothing_else, otherwise, answer}
use Rattle.turn_code.specs.declared.input.Address.{Address}
use Rattle.sdl_tables.specs.Names.{same_name, is_in, number_of, variables_of, variable_names, timers_of, connector_names, states_of, signal_names, process_names}
use Rattle.sdl_sound.specs.Statements.{Statement, finishes, statements_of, choice_statements}
use Rattle.sdl_sound.specs.Actions.{Origin}
use Rattle.sdl_sound.specs.Going.{goes_on, choice_goes_on}
use Rattle.sdl_sound.specs.Decisions.{is_answered, statement_unanswered}
use Rattle.sdl_sound.specs.Divisors.{statement_divisors}
use Rattle.sdl_sound.specs.Names.{unknown, tree_names, assignment_names, sending_unknown, destination_names, action_unknown, statement_unknown, trigger_names, place_names}
use Rattle.sdl_sound.specs.Ends.{first_place, stray_end, strays, choice_strays}
use Rattle.sdl_sound.specs.Sorts.{wrong_in, parameter_sorts, wrong_parameter, wrong_number, wrong_sending, wrong_action, wrong_statement, wrong_answer, answers_question, range_place}
use Rattle.sdl_sound.specs.Receivers.{arrives, answers_all, lost_sending, lost_action, lost_statement, is_doubtful, doubtful_sending, doubtful_action, doubtful_statement}
use Rattle.sdl_meaning.specs.Act.{to_sender}
use Rattle.sdl_meaning.specs.Outcomes.{Scope, variable_at}
use Rattle.sdl_meaning.specs.Named.{NamedTree, NamedTrees, NamedTasks, HasReceiver, NamedSendings, NamedAction, NamedEnd, NamedText, NamedChoice, AnswerTo, NamedPlaces, IsSentTo, AnswerAll, AnswersTo, AnswersAction, AnswersSenders, ChoiceAnswers}
use Rattle.sdl_compile.specs.Drafts.{IsTrigger}
use Rattle.sdl_sound.proofs.Items.{Each, each_front, each_back}
use Rattle.sdl_meaning.proofs.Sorting.{passed}
use Rattle.sdl_compile.proofs.Actions.{as_many}
use Rattle.plain_laws.proofs.Lists.{append-nil_left as nil_front, append-nil_right as nil_back}

-- If a list has an item that passes, the first such item has a place.
before_end : {A : Type 0} (p : A → Bool) (xs : List A) → list_any p xs ≡ true → prefix_len (λ x. not (p x)) xs < length xs
before_end p [] e = absurd (let k : ⊥ = cc in k)
before_end p (x ∷ xs) e = by_first (p x) e (before_end p xs)
  where
    by_first : (b : Bool) → b || list_any p xs ≡ true → (list_any p xs ≡ true → prefix_len (λ x. not (p x)) xs < length xs) → cond (not b) (1 + prefix_len (λ x. not (p x)) xs) 0 < length (x ∷ xs)
    by_first true e more = omega arith
    by_first false e more = let h = more e in omega (arith, h)

has_place : {A : Type 0} (p : A → Bool) (xs : List A) → list_any p xs ≡ true → IsSome (position p xs)
has_place p xs e =
    let lt = before_end p xs e in
    let t : nat_lt (position_or_len p xs) (length xs) ≡ true = grind (arith, nat_tests) in
    subst (λ b. IsSome (cond b (Some (position_or_len p xs)) None)) (sym t) refl

pub has_number : (ids : List Identifier) (x : List ℕ) → is_in ids x ≡ true → IsSome (number_of ids x)
has_number ids x e = has_place (λ (n : Identifier). same_name x n.name) ids e

pub known_in : (among ids : List Identifier) → unknown among ids ≡ [] → Each (λ (id : Identifier). is_in among id.name ≡ true) ids
known_in among [] e = tt
known_in among (id ∷ ids) e =
    let f : Identifier → List ℕ = λ id. cond (is_in among id.name) [] (id.at ∷ []) in (
      passed (is_in among id.name) id.at (nil_front (f id) (unknown among ids) e),
      known_in among ids (nil_back (f id) (unknown among ids) e),
    )

pub known : (among ids : List Identifier) → unknown among ids ≡ [] → Each (λ (id : Identifier). IsSome (number_of among id.name)) ids
known among [] e = tt
known among (id ∷ ids) e =
    let f : Identifier → List ℕ = λ id. cond (is_in among id.name) [] (id.at ∷ []) in (
      has_number among id.name (passed (is_in among id.name) id.at (nil_front (f id) (unknown among ids) e)),
      known among ids (nil_back (f id) (unknown among ids) e),
    )

none_some : (o : Option ℕ) → o ≡ None → IsSome o → ⊥
none_some None e h = let k : ⊥ = cc in k
none_some (Some v) e h = let k : ⊥ = cc in k

-- A name among the signals and timers.
pub trigger_known : (c : Scope) (id : Identifier) → is_in (trigger_names c.block c.process) id.name ≡ true → IsTrigger c id
trigger_known c id e none =
    by_signal (is_in (signal_names c.block) id.name) refl (sym (list_any-append (λ (n : Identifier). same_name id.name n.name) (signal_names c.block) (timers_of c.process)) ∙ e)
  where
    by_signal : (b : Bool) → is_in (signal_names c.block) id.name ≡ b → b || is_in (timers_of c.process) id.name ≡ true → IsSome (number_of (timers_of c.process) id.name)
    by_signal true f h = absurd (none_some (number_of (signal_names c.block) id.name) none (has_number (signal_names c.block) id.name f))
    by_signal false f h = has_number (timers_of c.process) id.name h

-- A statement with these origins breaks no rule.
pub record FineStatement (c : Scope) (is : List Origin) (s : Statement) : Type 0 where
  pub named : statement_unknown c.block c.process s ≡ []
  pub sorted : wrong_statement c.block (variables_of c.process) s ≡ []
  pub received : lost_statement c.block c.process is s ≡ []
  pub single : doubtful_statement c.block c.process s ≡ []
  pub answered : statement_unanswered (variables_of c.process) s ≡ []
  pub divided : statement_divisors s ≡ []

-- If the rule reports no place for the end of a text, the text doesn't run off its end.
pub text_ends : (states : List Identifier) (at : ℕ) (t : Text) → strays states (at ∷ []) t ≡ [] → goes_on t ≡ false
text_ends states at falls e = absurd (let k : ⊥ = cc in k)
text_ends states at (ends t) e = refl
text_ends states at (does a rest) e = text_ends states at rest e
text_ends states at (decides place q choice rest) e =
    let first = choice_strays states choice in
    let last = cond (choice_goes_on choice) (strays states (at ∷ []) rest) (first_place rest ++ strays states [] rest) in
    by_choice (choice_goes_on choice) (nil_back first last e) (text_ends states at rest)
  where
    by_choice : (t : Bool) → cond t (strays states (at ∷ []) rest) (first_place rest ++ strays states [] rest) ≡ [] → (strays states (at ∷ []) rest ≡ [] → goes_on rest ≡ false) → t && goes_on rest ≡ false
    by_choice true e f = f e
    by_choice false e f = refl

module _ (c : Scope) where
  abbrev IsKnown : Identifier → Type 0
  IsKnown id = IsSome (variable_at c id)

  named_tree : (t : Tree) → Each IsKnown (tree_names t) → NamedTree c t
  named_tree (number at k) h = tt
  named_tree (truth at b) h = tt
  named_tree (variable at n) h = h.0
  named_tree (unary at op t) h = named_tree t h
  named_tree (binary at op t u) h = (named_tree t (each_front IsKnown (tree_names t) (tree_names u) h), named_tree u (each_back IsKnown (tree_names t) (tree_names u) h))

  named_trees : (ts : List Tree) → Each IsKnown (flat_map tree_names ts) → NamedTrees c ts
  named_trees [] h = tt
  named_trees (t ∷ ts) h =
      (named_tree t (each_front IsKnown (tree_names t) (flat_map tree_names ts) h), named_trees ts (each_back IsKnown (tree_names t) (flat_map tree_names ts) h))

  named_tasks : (ts : List PlainAssignment) → Each IsKnown (flat_map assignment_names ts) → NamedTasks c ts
  named_tasks [] h = tt
  named_tasks (a ∷ ts) h =
      let rest = flat_map assignment_names ts in
      (named_tree a.value (each_front IsKnown (tree_names a.value) rest h.1), h.0, named_tasks ts (each_back IsKnown (tree_names a.value) rest h.1))

  pub named_places : (places : List (Option Identifier)) → Each IsKnown (place_names places) → NamedPlaces c places
  named_places [] h = tt
  named_places (None ∷ places) h = named_places places h
  named_places (Some n ∷ places) h = (h.0, named_places places h.1)

  module _ (is : List Origin) (few : (x : List ℕ) → length (parameter_sorts c.block x) ≤ 4)
      (receives : (to : Option Destination) (x : Identifier) → arrives c.block c.process is to x.name ≡ true → is_doubtful c.block c.process to x.name ≡ false → HasReceiver c to x) where
    sure : (b : Bool) (at : ℕ) → cond b (at ∷ []) [] ≡ [] → b ≡ false
    sure true at e = absurd (let k : ⊥ = cc in k)
    sure false at e = refl

    named_sendings : (to : Option Destination) (list : List PlainSending) → flat_map (sending_unknown c.block c.process) list ≡ [] → flat_map (wrong_sending c.block (variables_of c.process)) list ≡ []
        → flat_map (lost_sending c.block c.process is to) list ≡ [] → flat_map (doubtful_sending c.block c.process to) list ≡ [] → NamedSendings c to list
    named_sendings to [] u w l d = tt
    named_sendings to (x ∷ rest) u w l d =
        let vs = variables_of c.process in
        let sorts = parameter_sorts c.block x.signal.name in
        let names = sending_unknown c.block c.process in
        let wrong = wrong_sending c.block vs in
        let lost = lost_sending c.block c.process is to in
        let doubt = doubtful_sending c.block c.process to in
        let first = nil_front (names x) (flat_map names rest) u in
        let signal = unknown (signal_names c.block) (x.signal ∷ []) in
        let params = unknown (variable_names c.process) (flat_map tree_names x.parameters) in
        let others = flat_map (wrong_in vs) x.parameters ++ flat_map (wrong_parameter vs) (zip sorts x.parameters) in
        let many = as_many sorts x (nil_front (wrong_number sorts x) others (nil_front (wrong x) (flat_map wrong rest) w)) in
        let four = few x.signal.name in (
          record {
            parameters = named_trees x.parameters (known (variable_names c.process) (flat_map tree_names x.parameters) (nil_back signal params first));
            few = omega (arith, many, four);
            signal = (known (signal_names c.block) (x.signal ∷ []) (nil_front signal params first)).0;
            receiver = receives to x.signal (passed (arrives c.block c.process is to x.signal.name) x.signal.at (nil_front (lost x) (flat_map lost rest) l))
                (sure (is_doubtful c.block c.process to x.signal.name) x.signal.at (nil_front (doubt x) (flat_map doubt rest) d));
          },
          named_sendings to rest (nil_back (names x) (flat_map names rest) u) (nil_back (wrong x) (flat_map wrong rest) w) (nil_back (lost x) (flat_map lost rest) l) (nil_back (doubt x) (flat_map doubt rest) d),
        )

    named_action : (a : PlainAction) → action_unknown c.block c.process a ≡ [] → wrong_action c.block (variables_of c.process) a ≡ [] → lost_action c.block c.process is a ≡ [] → doubtful_action c.block c.process a ≡ [] → NamedAction c a
    named_action (task at ts) u w l d = named_tasks ts (known (variable_names c.process) (flat_map assignment_names ts) u)
    named_action (output at list to) u w l d =
        named_sendings to list (nil_front (flat_map (sending_unknown c.block c.process) list) (unknown (process_names c.block) (destination_names to)) u) w l d
    named_action (set_timer at t n) u w l d =
        let a = unknown (variable_names c.process) (tree_names t) in
        let b = unknown (timers_of c.process) (n ∷ []) in
        (named_tree t (known (variable_names c.process) (tree_names t) (nil_front a b u)), (known (timers_of c.process) (n ∷ []) (nil_back a b u)).0)
    named_action (reset_timer at n) u w l d = (known (timers_of c.process) (n ∷ []) u).0

    -- A statement breaks no rule, for its origins.
    named_end : (e : End) → statement_unknown c.block c.process (finishes e) ≡ [] → stray_end (states_of c.process) e ≡ [] → NamedEnd c e
    named_end (NextState n) u s = has_number (states_of c.process) n.state.name (passed (is_in (states_of c.process) n.state.name) n.at s)
    named_end (Stop at) u s = tt
    named_end (Join j) u s = (known (connector_names c.process) (j.connector ∷ []) u).0

    answer_to : (q : Tree) (rs : List Range) → flat_map (wrong_answer (variables_of c.process) q) rs ≡ [] → AnswerTo c q rs
    answer_to q [] e = tt
    answer_to q (r ∷ rs) e =
        let wrong = wrong_answer (variables_of c.process) q in
        (passed (answers_question (variables_of c.process) q r) (range_place r) (nil_front (wrong r) (flat_map wrong rs) e), answer_to q rs (nil_back (wrong r) (flat_map wrong rs) e))

    nothing_first : (rest : Text) → first_place rest ≡ [] → rest ≡ falls
    nothing_first falls e = refl
    nothing_first (ends t) e = absurd (let k : ⊥ = cc in k)
    nothing_first (does a rest) e = absurd (let k : ⊥ = cc in k)
    nothing_first (decides at q choice rest) e = absurd (let k : ⊥ = cc in k)

    -- What follows a DECISION.
    behind_reached : (off : List ℕ) (choice : Choice) (rest : Text) → cond (choice_goes_on choice) (strays (states_of c.process) off rest) (first_place rest ++ strays (states_of c.process) [] rest) ≡ [] → choice_goes_on choice ≡ false → rest ≡ falls
    behind_reached off choice rest e f =
        let states = states_of c.process in
        nothing_first rest (nil_front (first_place rest) (strays states [] rest) (sym (ap (λ t. cond t (strays states off rest) (first_place rest ++ strays states [] rest)) f) ∙ e))

    behind_strays : {A : Type 0} (off : List ℕ) (t : Bool) (rest : Text) → cond t (strays (states_of c.process) off rest) (first_place rest ++ strays (states_of c.process) [] rest) ≡ [] → ((off : List ℕ) → strays (states_of c.process) off rest ≡ [] → A) → A
    behind_strays off true rest e f = f off e
    behind_strays off false rest e f = f [] (nil_back (first_place rest) (strays (states_of c.process) [] rest) e)

    mutual
      pub named_text : (off : List ℕ) (t : Text) → Each (FineStatement c is) (statements_of t) → strays (states_of c.process) off t ≡ [] → NamedText c t
      named_text off falls fine s = tt
      named_text off (ends e) fine s = named_end e fine.0.named s
      named_text off (does a rest) fine s =
          (named_action a fine.0.named fine.0.sorted fine.0.received fine.0.single, named_text off rest fine.1 s)
      named_text off (decides at q choice rest) fine s =
          let states = states_of c.process in
          let P = FineStatement c is in
          let first = choice_strays states choice in
          let last = cond (choice_goes_on choice) (strays states off rest) (first_place rest ++ strays states [] rest) in
          let more = nil_back first last s in (
            record {
              question = named_tree q (known (variable_names c.process) (tree_names q) fine.0.named);
              answered = passed (is_answered (variables_of c.process) q choice) at fine.0.answered;
              reached = behind_reached off choice rest more;
            },
            named_choice q choice (each_front P (choice_statements q choice) (statements_of rest) fine.1) (nil_front first last s),
            behind_strays off (choice_goes_on choice) rest more (λ off e. named_text off rest (each_back P (choice_statements q choice) (statements_of rest) fine.1) e),
          )

      named_choice : (q : Tree) (choice : Choice) → Each (FineStatement c is) (choice_statements q choice) → choice_strays (states_of c.process) choice ≡ [] → NamedChoice c q choice
      named_choice q nothing_else fine s = tt
      named_choice q (otherwise body) fine s = named_text [] body fine s
      named_choice q (answer at rs body others) fine s =
          let states = states_of c.process in
          let P = FineStatement c is in (
            answer_to q rs fine.0.sorted,
            named_text [] body (each_front P (statements_of body) (choice_statements q others) fine.1) (nil_front (strays states [] body) (choice_strays states others) s),
            named_choice q others (each_back P (statements_of body) (choice_statements q others) fine.1) (nil_back (strays states [] body) (choice_strays states others) s),
          )

  -- ---- answers to the sender

  module _ (is : List Origin) (from : Option Identifier)
      (gets : (x : Identifier) → answers_all c.block c.process is x.name ≡ true → (sender : Option Address) → IsSentTo c from sender → IsSome (to_sender c x sender)) where
    answer_all : (at : ℕ) (list : List PlainSending) → flat_map (lost_sending c.block c.process is (Some (address.Sender at))) list ≡ [] → AnswerAll c from list
    answer_all at [] l = tt
    answer_all at (x ∷ rest) l =
        let lost = lost_sending c.block c.process is (Some (address.Sender at)) in (
          gets x.signal (passed (answers_all c.block c.process is x.signal.name) x.signal.at (nil_front (lost x) (flat_map lost rest) l)),
          answer_all at rest (nil_back (lost x) (flat_map lost rest) l),
        )

    answers_to : (to : Option Destination) (list : List PlainSending) → flat_map (lost_sending c.block c.process is to) list ≡ [] → AnswersTo c from to list
    answers_to None list l = tt
    answers_to (Some (address.Process id)) list l = tt
    answers_to (Some (address.Sender at)) list l = answer_all at list l

    answers_action : (a : PlainAction) → lost_action c.block c.process is a ≡ [] → AnswersAction c from a
    answers_action (task at ts) l = tt
    answers_action (output at list to) l = answers_to to list l
    answers_action (set_timer at t n) l = tt
    answers_action (reset_timer at n) l = tt

    mutual
      pub answers_text : (t : Text) → Each (FineStatement c is) (statements_of t) → AnswersSenders c from t
      answers_text falls fine = tt
      answers_text (ends e) fine = tt
      answers_text (does a rest) fine = (answers_action a fine.0.received, answers_text rest fine.1)
      answers_text (decides at q choice rest) fine =
          let P = FineStatement c is in
          (answers_choice q choice (each_front P (choice_statements q choice) (statements_of rest) fine.1), answers_text rest (each_back P (choice_statements q choice) (statements_of rest) fine.1))

      answers_choice : (q : Tree) (choice : Choice) → Each (FineStatement c is) (choice_statements q choice) → ChoiceAnswers c from choice
      answers_choice q nothing_else fine = tt
      answers_choice q (otherwise body) fine = answers_text body fine
      answers_choice q (answer at rs body others) fine =
          let P = FineStatement c is in
          (answers_text body (each_front P (statements_of body) (choice_statements q others) fine.1), answers_choice q others (each_back P (statements_of body) (choice_statements q others) fine.1))
