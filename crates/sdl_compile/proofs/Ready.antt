-- The processes of a sound block are ready to be compiled.
use Rattle.std.proofs.Common.{◌≡◌, ℕ, zero, suc, ◌+◌, ◌<◌, ◌≤◌, Bool, true, false, not, cond, List, [], ◌∷◌, ◌++◌, length, map, Option, Some, None, IsSome, refl, ap, ◌∙◌, arith, nat_lt}
use Rattle.std.specs.Prelude.{slice_get, zip, nat_eq}
use Rattle.std.specs.List.{flat_map, list_all, filter, enumerate_from, position_or_len}
use Rattle.std.specs.Option.{option_map}
use Rattle.std.proofs.lemmas.List.{length-map}
use Rattle.sdl_ast.specs.declared.expression.Identifier.{Identifier}
use Rattle.sdl_ast.specs.Plain.{Text, PlainStimulus, PlainInput, PlainClause, input, save, PlainState, PlainConnection, PlainProcess, PlainBlock}
use Rattle.turn_code.specs.declared.input.Address.{Address}
use Rattle.sdl_tables.specs.Names.{is_in, Variable, Input, signal_names, process_names, variables_of, variable_names, timers_of, connector_names, states_of, clause_parts, clause_inputs, part_inputs, part_saves, given_to, of_state, by_state, is_state, input_parts, inputs_by_state, saves_by_state}
use Rattle.sdl_tables.specs.Scopes.{repeats}
use Rattle.sdl_sound.specs.Statements.{Statement, statements_of}
use Rattle.sdl_sound.specs.Actions.{Origin, begins, takes, input_origins, start_origins, joining_origins, connection_origins, in_input, in_connection, in_statements}
use Rattle.sdl_sound.specs.Joins.{reaches}
use Rattle.sdl_sound.specs.Orders.{IsOrder}
use Rattle.sdl_sound.specs.Limits.{wrong_instances}
use Rattle.sdl_sound.specs.Longest.{input_piece, pieces_of}
use Rattle.sdl_sound.specs.Names.{unknown, statement_unknown, trigger_names, place_names, stimulus_unknown, input_unknown, saves_unknown, process_unknown}
use Rattle.sdl_sound.specs.Ends.{strays, input_strays, connection_strays, process_strays}
use Rattle.sdl_sound.specs.Sorts.{wrong_statement, wrong_stimulus, wrong_input, too_many_places, wrong_place, wrong_initial, wrong_declarations, parameter_sorts}
use Rattle.sdl_sound.specs.Divisors.{statement_divisors}
use Rattle.sdl_sound.specs.Decisions.{statement_unanswered}
use Rattle.sdl_sound.specs.Receivers.{paths_of, answers, answers_origin, answers_all, lost_statement, doubtful_statement}
use Rattle.sdl_meaning.specs.Act.{to_sender}
use Rattle.sdl_meaning.specs.Outcomes.{Scope}
use Rattle.sdl_compile.specs.Made.{IsSmall}
use Rattle.sdl_meaning.specs.Named.{NamedWhole, NamedConnections, IsSentTo, AnswersSenders, AnswersAll}
use Rattle.sdl_meaning.specs.Declarations.{sort_of_tree}
use Rattle.sdl_compile.specs.Drafts.{IsTrigger, IsReadyInput, AreReady, AllReady, AreTriggers, AllTriggers, IsReadyProcess}
use Rattle.sdl_compile.specs.Routes.{IsKnownPath}
use Rattle.sdl_compile.proofs.Knowing.{FineStatement, text_ends, known, known_in, trigger_known, named_text, named_places, answers_text}
use Rattle.sdl_meaning.proofs.Numbers.{AreNumbered, are_numbered, not_marked as not_flagged}
use Rattle.sdl_compile.proofs.Receiving.{has_receiver, answers_sender, all_front, all_back}
use Rattle.std.proofs.lemmas.Option.{slice_get-map as slice_map}
use Rattle.sdl_sound.proofs.Items.{Each, each_front, each_back, each_append, each_always, each_with, each_map, each_flat, each_unflat, all_items, each_nil, each_at_place as each_at}
use Rattle.turn_code.proofs.Lists.{within as in_list}
use Rattle.std.proofs.lemmas.Bool.{eqb-true as equal_number, ltb-false as at_most}
use Rattle.plain_laws.proofs.Truths.{and_second as and_right, and_first as and_left, neither_first, neither_second}
use Rattle.plain_laws.proofs.Lists.{append-nil_left as nil_front, append-nil_right as nil_back}
use Rattle.sdl_compile.proofs.FineTexts.{unequal_number, FineText, FineReached, FineWhole, FineInput, FineProcess, fine_statements, all_sorted, statements_single}

-- ---- the inputs of a process

-- What holds of each part of a state holds of the state.
module _ {X : Type 0} (P : X → Type 0) (in_part : PlainState → List X) (p : PlainProcess) where
  if_given : (t : Bool) (xs : List X) → Each P xs → Each P (cond t xs [])
  if_given true xs h = h
  if_given false xs h = tt

  given_each : (s : ℕ) (part : PlainState) → Each P (in_part part) → Each P (given_to in_part (states_of p) s part)
  given_each s part h =
      let test : Identifier → Bool = λ id. is_state (states_of p) s id.name in
      each_flat P (λ (id : Identifier). cond (test id) (in_part part) []) part.names
      (each_always (λ (id : Identifier). Each P (cond (test id) (in_part part) [])) (λ (id : Identifier). if_given (test id) (in_part part) h) part.names)

  state_each : (s : ℕ) → Each (λ part. Each P (in_part part)) p.states → Each P (of_state in_part p s)
  state_each s h =
      each_flat P (given_to in_part (states_of p) s) p.states
      (each_with (λ part. Each P (in_part part)) (λ part. Each P (given_to in_part (states_of p) s part)) (given_each s) p.states h)

  pub states_each : Each (λ part. Each P (in_part part)) p.states → Each (Each P) (by_state in_part p)
  states_each h =
      each_map (Each P) (λ (s : ℕ × Identifier). of_state in_part p s.0) (enumerate_from 0 (states_of p))
      (each_always (λ (s : ℕ × Identifier). Each P (of_state in_part p s.0)) (λ (s : ℕ × Identifier). state_each s.0 h) (enumerate_from 0 (states_of p)))

abbrev input_with : ℕ → Text → PlainStimulus → Input
input_with at t s = record { at = at; stimulus = s; text = t }

all_if : {A : Type 0} (f : A → Bool) (t : Bool) (xs : List A) → t ≡ true → list_all f (cond t xs []) ≡ true → list_all f xs ≡ true
all_if f true xs e h = h
all_if f false xs e h = absurd (let k : ⊥ = cc in k)

module _ (c : Scope) where
  abbrev b : PlainBlock
  b = c.block

  abbrev p : PlainProcess
  p = c.process

  abbrev vs : List Variable
  vs = variables_of c.process

  -- ---- what a rule on statements requires of each transition

  module _ (ask : List Origin → Statement → List ℕ) (none : in_statements ask p ≡ []) where
    abbrev at_start : List ℕ
    at_start = flat_map (ask (begins ∷ [])) (statements_of p.start.text)

    abbrev in_parts : List ℕ
    in_parts = flat_map (in_input ask) (input_parts p)

    abbrev in_others : List ℕ
    in_others = flat_map (in_connection ask p) p.connections

    start_none : at_start ≡ []
    start_none = nil_front at_start (in_parts ++ in_others) none

    parts_none : Each (λ (i : PlainInput). flat_map (ask (input_origins i)) (statements_of i.text) ≡ []) (input_parts p)
    parts_none = each_nil (in_input ask) (input_parts p) (nil_front in_parts in_others (nil_back at_start (in_parts ++ in_others) none))

    others_none : Each (λ (k : PlainConnection). flat_map (ask (connection_origins p k)) (statements_of k.text) ≡ []) p.connections
    others_none = each_nil (in_connection ask p) p.connections (nil_back in_parts in_others (nil_back at_start (in_parts ++ in_others) none))

  fine_each : {A : Type 0} (from : A → List Origin) (text : A → Text) (xs : List A) → Each (λ x. flat_map (statement_unknown b p) (statements_of (text x)) ≡ []) xs → Each (λ x. flat_map (wrong_statement b vs) (statements_of (text x)) ≡ []) xs
      → Each (λ x. flat_map (lost_statement b p (from x)) (statements_of (text x)) ≡ []) xs → Each (λ x. flat_map (doubtful_statement b p) (statements_of (text x)) ≡ []) xs
      → Each (λ x. flat_map (statement_unanswered vs) (statements_of (text x)) ≡ []) xs → Each (λ x. flat_map statement_divisors (statements_of (text x)) ≡ []) xs → Each (λ x. Each (FineStatement c (from x)) (statements_of (text x))) xs
  fine_each from text [] u w l d a v = tt
  fine_each from text (x ∷ xs) u w l d a v =
      (fine_statements c (from x) (statements_of (text x)) u.0 w.0 l.0 d.0 a.0 v.0, fine_each from text xs u.1 w.1 l.1 d.1 a.1 v.1)

  -- ---- the connections to which a transition leads

  abbrev FineOther : PlainConnection → Type 0
  FineOther k = Each (FineStatement c (connection_origins p k)) (statements_of k.text)

  abbrev joining : PlainConnection → List PlainInput → List Origin
  joining k is = flat_map (joining_origins p k.name.name) is

  start_reached : (ks : List PlainConnection) → Each FineOther ks → Each (FineReached c begins p.start.text) ks
  start_reached [] fine = tt
  start_reached (k ∷ ks) fine =
      let x = k.name.name in (
        λ r. statements_single c (connection_origins p k) begins
            (λ s e. let f = answers_origin b p s in
            and_left (f begins) true (all_if f (reaches p p.start.text x) (begins ∷ []) r (all_front f (start_origins p x) (joining k (input_parts p)) e)))
            (statements_of k.text) fine.0,
        start_reached ks fine.1,
      )

  -- The connections to which part `i` of the INPUTs leads, where `is` are the parts after it.
  part_reached : (i : PlainInput) (is : List PlainInput) (y : PlainStimulus) → ((s : List ℕ) → list_all (answers_origin b p s) (input_origins i) ≡ true → answers_origin b p s (takes y) ≡ true)
      → ((k : PlainConnection) (s : List ℕ) → list_all (answers_origin b p s) (joining k (input_parts p)) ≡ true → list_all (answers_origin b p s) (joining k (i ∷ is)) ≡ true)
      → (ks : List PlainConnection) → Each FineOther ks → Each (FineReached c (takes y) i.text) ks
  part_reached i is y among among_parts [] fine = tt
  part_reached i is y among among_parts (k ∷ ks) fine =
      let x = k.name.name in (
        λ r. statements_single c (connection_origins p k) (takes y)
            (λ s e. let f = answers_origin b p s in
            let here = among_parts k s (all_back f (start_origins p x) (joining k (input_parts p)) e) in
            among s (all_if f (reaches p i.text x) (input_origins i) r (all_front f (joining_origins p x i) (joining k is) here)))
            (statements_of k.text) fine.0,
        part_reached i is y among among_parts ks fine.1,
      )

  -- ---- the stimuli of an INPUT, from one of them on

  stimuli_fine : (i : PlainInput) (is : List PlainInput) (ss : List PlainStimulus) → ((s : List ℕ) → list_all (answers_origin b p s) (input_origins i) ≡ true → list_all (answers_origin b p s) (map takes ss) ≡ true)
      → ((k : PlainConnection) (s : List ℕ) → list_all (answers_origin b p s) (joining k (input_parts p)) ≡ true → list_all (answers_origin b p s) (joining k (i ∷ is)) ≡ true)
      → Each FineOther p.connections → Each (FineStatement c (input_origins i)) (statements_of i.text) → strays (states_of p) (i.at ∷ []) i.text ≡ []
      → flat_map (stimulus_unknown b p) ss ≡ [] → flat_map (wrong_stimulus b vs) ss ≡ [] → Each (FineInput c) (map (input_with i.at i.text) ss)
  stimuli_fine i is [] among among_parts others fine ended u w = tt
  stimuli_fine i is (y ∷ ss) among among_parts others fine ended u w =
      let trigger = unknown (trigger_names b p) (y.name ∷ []) in
      let places = unknown (variable_names p) (place_names y.places) in
      let first : trigger ++ places ≡ [] = nil_front (stimulus_unknown b p y) (flat_map (stimulus_unknown b p) ss) u in
      let mine : (s : List ℕ) → list_all (answers_origin b p s) (input_origins i) ≡ true → answers_origin b p s (takes y) ≡ true = λ s e. and_left (answers_origin b p s (takes y)) (list_all (answers_origin b p s) (map takes ss)) (among s e) in (
        record {
          whole = record {
            text = record { statements = statements_single c (input_origins i) (takes y) mine (statements_of i.text) fine; ended = ended };
            reached = part_reached i is y mine among_parts p.connections others;
          };
          trigger = trigger_known c y.name (known_in (trigger_names b p) (y.name ∷ []) (nil_front trigger places first)).0;
          places = nil_back trigger places first;
          placed = nil_front (wrong_stimulus b vs y) (flat_map (wrong_stimulus b vs) ss) w;
        },
        stimuli_fine i is ss (λ s e. and_right (answers_origin b p s (takes y)) (list_all (answers_origin b p s) (map takes ss)) (among s e)) among_parts others fine ended
            (nil_back (stimulus_unknown b p y) (flat_map (stimulus_unknown b p) ss) u) (nil_back (wrong_stimulus b vs y) (flat_map (wrong_stimulus b vs) ss) w),
      )

  abbrev IsFinePart : PlainInput → Type 0
  IsFinePart i = Each (FineInput c) (clause_inputs (input i))

  parts_fine : (is : List PlainInput) → ((k : PlainConnection) (s : List ℕ) → list_all (answers_origin b p s) (joining k (input_parts p)) ≡ true → list_all (answers_origin b p s) (joining k is) ≡ true)
      → Each FineOther p.connections → Each (λ (i : PlainInput). Each (FineStatement c (input_origins i)) (statements_of i.text)) is
      → flat_map (input_unknown b p) is ≡ [] → flat_map (wrong_input b vs) is ≡ [] → flat_map (input_strays p) is ≡ [] → Each IsFinePart is
  parts_fine [] among others fine u w e = tt
  parts_fine (i ∷ is) among others fine u w e = (
    stimuli_fine i is i.stimuli (λ s e. e) among others fine.0 (nil_front (input_strays p i) (flat_map (input_strays p) is) e) (nil_front (input_unknown b p i) (flat_map (input_unknown b p) is) u) (nil_front (wrong_input b vs i) (flat_map (wrong_input b vs) is) w),
    parts_fine is (λ k s e. all_back (answers_origin b p s) (joining_origins p k.name.name i) (joining k is) (among k s e)) others fine.1
        (nil_back (input_unknown b p i) (flat_map (input_unknown b p) is) u) (nil_back (wrong_input b vs i) (flat_map (wrong_input b vs) is) w) (nil_back (input_strays p i) (flat_map (input_strays p) is) e),
  )

  clauses_fine : (cs : List PlainClause) → Each IsFinePart (flat_map clause_parts cs) → Each (FineInput c) (flat_map clause_inputs cs)
  clauses_fine [] h = tt
  clauses_fine (input i ∷ cs) h = each_append (FineInput c) (clause_inputs (input i)) (flat_map clause_inputs cs) h.0 (clauses_fine cs h.1)
  clauses_fine (save names ∷ cs) h = clauses_fine cs h

  inputs_fine : Each IsFinePart (input_parts p) → Each (Each (FineInput c)) (inputs_by_state p)
  inputs_fine h =
      let parts : PlainState → List PlainInput = λ part. flat_map clause_parts part.clauses in
      states_each (FineInput c) part_inputs p
      (each_with (λ (part : PlainState). Each IsFinePart (parts part)) (λ (part : PlainState). Each (FineInput c) (part_inputs part)) (λ (part : PlainState). clauses_fine part.clauses) p.states (each_unflat IsFinePart parts p.states h))

  saves_fine : flat_map (saves_unknown b p) p.states ≡ [] → Each (Each (IsTrigger c)) (saves_by_state p)
  saves_fine e =
      states_each (IsTrigger c) part_saves p
      (each_with (λ (part : PlainState). saves_unknown b p part ≡ []) (λ (part : PlainState). Each (IsTrigger c) (part_saves part))
      (λ (part : PlainState) e. each_with (λ (id : Identifier). is_in (trigger_names b p) id.name ≡ true) (IsTrigger c) (λ (id : Identifier). trigger_known c id) (part_saves part) (known_in (trigger_names b p) (part_saves part) e))
      p.states (each_nil (saves_unknown b p) p.states e))

  fine_texts : (ks : List PlainConnection) → Each FineOther ks → Each (λ (k : PlainConnection). connection_strays p k ≡ []) ks → Each (λ (k : PlainConnection). FineText c (connection_origins p k) k.at k.text) ks
  fine_texts [] fine e = tt
  fine_texts (k ∷ ks) fine e = (record { statements = fine.0; ended = e.0 }, fine_texts ks fine.1 e.1)

  pub process_fine : process_unknown b p ≡ [] → wrong_declarations b p ≡ [] → in_statements (λ from. wrong_statement b vs) p ≡ [] → in_statements (lost_statement b p) p ≡ [] → in_statements (λ from. doubtful_statement b p) p ≡ []
      → in_statements (λ from. statement_unanswered vs) p ≡ [] → in_statements (λ from. statement_divisors) p ≡ [] → process_strays p ≡ [] → nat_lt 64 (length (states_of p)) ≡ false → nat_lt 32 (length vs) ≡ false
      → nat_lt 8 (length (timers_of p)) ≡ false → wrong_instances p.instances ≡ false → Each (IsSmall c) (pieces_of p) → repeats [] (variable_names p) ≡ [] → repeats [] (connector_names p) ≡ [] → FineProcess c
  process_fine u w s l d a v e states variables timers instances small distinct connectors =
      let parts = flat_map (input_unknown b p) (input_parts p) in
      let saved = flat_map (saves_unknown b p) p.states in
      let inside = in_statements (λ from. statement_unknown b p) p in
      let names = λ (from : List Origin). statement_unknown b p in
      let sorts = λ (from : List Origin). wrong_statement b vs in
      let doubts = λ (from : List Origin). doubtful_statement b p in
      let answered = λ (from : List Origin). statement_unanswered vs in
      let divided = λ (from : List Origin). statement_divisors in
      let n : inside ≡ [] = nil_back saved inside (nil_back parts (saved ++ inside) u) in
      let initial = flat_map wrong_initial vs in
      let places = flat_map (wrong_input b vs) (input_parts p) in
      let stray = strays (states_of p) (p.start.at ∷ []) p.start.text in
      let strays_in = flat_map (input_strays p) (input_parts p) in
      let strays_there = flat_map (connection_strays p) p.connections in
      let others : Each FineOther p.connections = fine_each (connection_origins p) (λ (k : PlainConnection). k.text) p.connections (others_none names n) (others_none sorts s) (others_none (lost_statement b p) l) (others_none doubts d) (others_none answered a) (others_none divided v) in
      record {
        start = record {
          text = record {
            statements = fine_statements c (begins ∷ []) (statements_of p.start.text) (start_none names n) (start_none sorts s) (start_none (lost_statement b p) l) (start_none doubts d) (start_none answered a) (start_none divided v);
            ended = nil_front stray (strays_in ++ strays_there) e;
          };
          reached = start_reached p.connections others;
        };
        inputs = inputs_fine
            (parts_fine (input_parts p) (λ k s e. e) others
            (fine_each input_origins (λ (i : PlainInput). i.text) (input_parts p) (parts_none names n) (parts_none sorts s) (parts_none (lost_statement b p) l) (parts_none doubts d) (parts_none answered a) (parts_none divided v))
            (nil_front parts (saved ++ inside) u) (nil_back initial places w) (nil_front strays_in strays_there (nil_back stray (strays_in ++ strays_there) e)));
        saves = saves_fine (nil_front saved inside (nil_back parts (saved ++ inside) u));
        connections = fine_texts p.connections others (each_nil (connection_strays p) p.connections (nil_back strays_in strays_there (nil_back stray (strays_in ++ strays_there) e)));
        initial = nil_front initial places w;
        states = at_most 64 (length (states_of p)) states;
        variables = at_most 32 (length vs) variables;
        timers = at_most 8 (length (timers_of p)) timers;
        some = at_most p.instances 1 (neither_first (nat_lt p.instances 1) (nat_lt 8 p.instances) instances);
        instances = at_most 8 p.instances (neither_second (nat_lt p.instances 1) (nat_lt 8 p.instances) instances);
        small = small;
        distinct = distinct;
        connectors = connectors;
      }

  -- ---- what the compiler requires

  -- The number of steps from each connection, by an order of the connections.
  abbrev steps_in : List ℕ → ℕ → ℕ
  steps_in order n = position_or_len (λ (m : ℕ). nat_eq m n) order

  first_place_of : (order : List ℕ) (i n : ℕ) → slice_get order i ≡ Some n → (steps_in order n < length order) × (slice_get order (steps_in order n) ≡ Some n)
  first_place_of [] i n e = absurd (let k : ⊥ = cc in k)
  first_place_of (m ∷ order) i n e = by_test (nat_eq m n) refl i e (λ i e. first_place_of order i n e)
    where
      by_test : (t : Bool) → nat_eq m n ≡ t → (i : ℕ) → slice_get (m ∷ order) i ≡ Some n → ((i : ℕ) → slice_get order i ≡ Some n → (steps_in order n < length order) × (slice_get order (steps_in order n) ≡ Some n))
          → (cond (not t) (1 + steps_in order n) 0 < length (m ∷ order)) × (slice_get (m ∷ order) (cond (not t) (1 + steps_in order n) 0) ≡ Some n)
      by_test true f i e rest = (omega arith, ap Some (equal_number m n f))
      by_test false f zero e rest = absurd (let g : m ≡ n = cc in unequal_number m n f g)
      by_test false f (suc i) e rest =
          let r = rest i e in
          let g : 1 + steps_in order n ≡ suc (steps_in order n) = omega arith in
          (omega (arith, r.0), ap (λ k. slice_get (m ∷ order) k) g ∙ r.1)

  module _ (n : ℕ) (numbers : AreNumbered (process_names c.block)) (here : slice_get (process_names c.block) n ≡ Some c.process.name)
      (paths : Each (IsKnownPath c.block) (paths_of c.block)) (four : (x : List ℕ) → length (parameter_sorts c.block x) ≤ 4) (order : List ℕ) (ordered : IsOrder c.process order) where
    named_whole : (is : List Origin) (at : ℕ) (t : Text) → FineText c is at t → NamedWhole c t
    named_whole is at t fine = record {
      text = named_text c is four (has_receiver c n numbers here paths is) (at ∷ []) t fine.statements fine.ended;
      ended = text_ends (states_of p) at t fine.ended;
    }

    steps_are : (i m : ℕ) → slice_get order i ≡ Some m → steps_in order m ≡ i
    steps_are i m e = ordered.once (steps_in order m) i m (first_place_of order i m e).1 e

    named_connections : FineProcess c → NamedConnections c
    named_connections fine =
        let each = λ (m : ℕ) (k : PlainConnection) (e : slice_get p.connections m ≡ Some k). each_at (λ (k : PlainConnection). FineText c (connection_origins p k) k.at k.text) p.connections m k fine.connections e in
        record {
          texts = λ m k e. named_whole (connection_origins p k) k.at k.text (each m k e);
          sorted = λ m k e. all_sorted c (connection_origins p k) (statements_of k.text) (each m k e).statements;
          numbered = λ m k e. are_numbered (connector_names p) fine.connectors m k.name (slice_map (λ (k : PlainConnection). k.name) p.connections m ∙ ap (option_map (λ (k : PlainConnection). k.name)) e);
          steps = steps_in order;
          few = λ m lt. let w = ordered.each m lt in let r = first_place_of order w.0 m w.1 in omega (arith, r.0, ordered.count);
          fewer = λ m o k j at there is.
              let w = ordered.each m (in_list p.connections m k at) in
              let r = ordered.behind w.0 m o k j w.1 at there is in
              omega (arith, r.1, steps_are w.0 m w.1, steps_are r.0 o r.2);
        }

    answers_reached : (o : Origin) (from : Option Identifier) (t : Text) → ((x : Identifier) → answers_all c.block c.process (o ∷ []) x.name ≡ true → (sender : Option Address) → IsSentTo c from sender → IsSome (to_sender c x sender))
        → (ks : List PlainConnection) → Each (FineReached c o t) ks → Each (λ (k : PlainConnection). AnswersSenders c from k.text) (filter (λ (k : PlainConnection). reaches p t k.name.name) ks)
    answers_reached o from t gets [] fine = tt
    answers_reached o from t gets (k ∷ ks) fine = by_test (reaches p t k.name.name) refl (answers_reached o from t gets ks fine.1)
      where
        by_test : (r : Bool) → reaches p t k.name.name ≡ r → Each (λ (k : PlainConnection). AnswersSenders c from k.text) (filter (λ (k : PlainConnection). reaches p t k.name.name) ks)
            → Each (λ (k : PlainConnection). AnswersSenders c from k.text) (cond r (k ∷ filter (λ (k : PlainConnection). reaches p t k.name.name) ks) (filter (λ (k : PlainConnection). reaches p t k.name.name) ks))
        by_test true e rest = (answers_text c (o ∷ []) from gets k.text (fine.0 e), rest)
        by_test false e rest = rest

    answers_whole : (o : Origin) (from : Option Identifier) (at : ℕ) (t : Text) → ((x : Identifier) → answers_all c.block c.process (o ∷ []) x.name ≡ true → (sender : Option Address) → IsSentTo c from sender → IsSome (to_sender c x sender))
        → FineWhole c o at t → AnswersAll c from t
    answers_whole o from at t gets fine = record {
      text = answers_text c (o ∷ []) from gets t fine.text.statements;
      connections = all_items (λ (k : PlainConnection). AnswersSenders c from k.text) (filter (λ (k : PlainConnection). reaches p t k.name.name) p.connections) (answers_reached o from t gets p.connections fine.reached);
    }

    pub ready_input : FineProcess c → (i : Input) → FineInput c i → IsSmall c (input_piece i) → IsReadyInput c i
    ready_input process i fine small =
        let sorts = parameter_sorts c.block i.stimulus.name.name in
        let flagged = too_many_places sorts i.stimulus in
        let places = flat_map (wrong_place vs) (zip sorts i.stimulus.places) in
        let many = at_most (length sorts) (length i.stimulus.places) (not_flagged (nat_lt (length sorts) (length i.stimulus.places)) i.stimulus.name.at (nil_front flagged places fine.placed)) in
        let l = length-map sorts sort_of_tree in
        let k = four i.stimulus.name.name in
        record {
          named = record {
            places = named_places c i.stimulus.places (known (variable_names p) (place_names i.stimulus.places) fine.places);
            text = named_whole (takes i.stimulus ∷ []) i.at i.text fine.whole.text;
            connections = named_connections process;
          };
          answers = answers_whole (takes i.stimulus) (Some i.stimulus.name) i.at i.text
              (λ x e. answers_sender c n numbers here paths i.stimulus x fine.trigger (and_left (answers c.block c.process x.name i.stimulus.name.name) true e)) fine.whole;
          sorted = all_sorted c (takes i.stimulus ∷ []) (statements_of i.text) fine.whole.text.statements;
          small = small;
          trigger = fine.trigger;
          places = omega (arith, many, l);
          few = omega (arith, many, k);
        }

    ready_inputs : FineProcess c → (is : List Input) → Each (FineInput c) is → Each (IsSmall c) (map input_piece is) → AreReady c is
    ready_inputs process [] fine small = tt
    ready_inputs process (i ∷ is) fine small = (ready_input process i fine.0 small.0, ready_inputs process is fine.1 small.1)

    all_ready : FineProcess c → (iss : List (List Input)) → Each (Each (FineInput c)) iss → Each (IsSmall c) (flat_map (map input_piece) iss) → AllReady c iss
    all_ready process [] fine small = tt
    all_ready process (is ∷ iss) fine small =
        let first = map input_piece is in
        let rest = flat_map (map input_piece) iss in
        (ready_inputs process is fine.0 (each_front (IsSmall c) first rest small), all_ready process iss fine.1 (each_back (IsSmall c) first rest small))

    are_triggers : (ids : List Identifier) → Each (IsTrigger c) ids → AreTriggers c ids
    are_triggers [] h = tt
    are_triggers (id ∷ ids) h = (h.0, are_triggers ids h.1)

    all_triggers : (idss : List (List Identifier)) → Each (Each (IsTrigger c)) idss → AllTriggers c idss
    all_triggers [] h = tt
    all_triggers (ids ∷ idss) h = (are_triggers ids h.0, all_triggers idss h.1)

    pub ready_process : FineProcess c → length (signal_names c.block) ≤ 128 → IsReadyProcess c
    ready_process fine signals = record {
      variables = fine.variables;
      timers = fine.timers;
      states = fine.states;
      signals = signals;
      start = record { places = tt; text = named_whole (begins ∷ []) p.start.at p.start.text fine.start.text; connections = named_connections fine };
      answers = answers_whole begins None p.start.at p.start.text (λ x e. absurd (let k : ⊥ = cc in k)) fine.start;
      sorted = all_sorted c (begins ∷ []) (statements_of p.start.text) fine.start.text.statements;
      small = fine.small.0;
      inputs = all_ready fine (inputs_by_state p) fine.inputs fine.small.1;
      saves = all_triggers (saves_by_state p) fine.saves;
    }
