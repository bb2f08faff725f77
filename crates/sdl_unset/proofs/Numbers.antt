-- From paths by names to paths by numbers.
use Rattle.std.proofs.Common.{◌≡◌, ℕ, zero, suc, ◌<◌, true, false, List, [], ◌∷◌, ◌++◌, length, Option, None, Some, refl, sym, ap, ◌∙◌, subst, arith, true≢false, inl, inr}
use Rattle.std.specs.Prelude.{slice_get, Contains}
use Rattle.std.specs.List.{AllZip, flat_map}
use Rattle.std.specs.Option.{option_map_or}
use Rattle.sdl_lex.specs.Spelling.{folded}
use Rattle.sdl_unset.specs.declared.paths.Summary.{Summary}
use Rattle.sdl_unset.specs.declared.paths.Graph.{Graph}
use Rattle.sdl_unset.specs.declared.paths.Step as number
use Rattle.sdl_unset.specs.declared.paths.Step.TheVariants.{Start as First, Input as By}
use Rattle.sdl_unset.specs.Graph as graph
use Rattle.sdl_unset.specs.Graph.{has, input_at, Passes}
use Rattle.sdl_ast.specs.Plain.{Tree, Text, falls, ends, does, decides, Choice, nothing_else, otherwise, answer, PlainProcess, PlainBlock}
use Rattle.sdl_ast.specs.declared.tree.End.TheVariants.{NextState, Stop, Join}
use Rattle.sdl_ast.specs.declared.expression.Identifier.{Identifier}
use Rattle.sdl_tables.specs.Names.{same_name, is_in, number_of, variable_names, variables_of, states_of, Input, inputs_of, input_parts}
use Rattle.sdl_sound.specs.Names.{statement_unknown, place_names, input_unknown, saves_unknown, process_unknown}
use Rattle.sdl_sound.specs.Statements.{Statement, statements_of, choice_statements}
use Rattle.sdl_sound.specs.Actions.{in_statements}
use Rattle.sdl_sound.specs.Laws.{IsTextOf}
use Rattle.sdl_sound.specs.Paths.{Event, tree_events, action_events, Way, onward, stops, enters as into, GoesOn, Walks, IsChosen, Follows, IsWalk, Transition, Place, start_transition, input_transition, reads_first, sets_in, inputs_in, ReadsFrom, ReadsUnset, NeverReadsUnset}
use Rattle.sdl_unset.specs.Graphs.{IsSummaryOf, IsGraphOf}
use Rattle.sdl_sound.specs.declared.fault.Step.{Step}
use Rattle.sdl_sound.specs.declared.fault.Step.TheVariants.{Start, Input as Takes}
use Rattle.sdl_sound.proofs.Numbered.{same_folded, folded_same, number_names}
use Rattle.sdl_sound.specs.PathOrder.{StandsAt}
use Rattle.sdl_unset.proofs.TextOrder.{IsAt}
use Rattle.sdl_unset.proofs.PathNames.{input_in_graph}
use Rattle.sdl_sound.proofs.Items.{Each, each_front, each_back}
use Rattle.sdl_unset.proofs.Ranks.{HasNone, texts_none, connection_there}
use Rattle.std.proofs.lemmas.Bool.{or_cases}
use Rattle.plain_laws.proofs.Lists.{append-nil_left, append-nil_right}
use Rattle.plain_laws.proofs.Places.{among_at, at_among}
use Rattle.sdl_unset.proofs.DeclaredReads.{reads_first-same, sets_in-same, reads_some, reads_some-first, reads_some-append, sets_read_nothing, initial_reads_nothing, action_known, question_known, no_event}

-- If an action, a question or a connection reads only declared variables, so does a walk.
abbrev Declares : PlainProcess → List ℕ → (List Event → Way → Type 0) → Type 0
Declares p x walks = (events : List Event) (way : Way) → walks events way → reads_some events x ≡ true → is_in (variable_names p) x ≡ true

goes_known : (p : PlainProcess) (x : List ℕ) (rest : List Event → Way → Type 0) → Declares p x rest → (between : Way) (after : List Event) (way : Way)
    → GoesOn between rest after way → reads_some after x ≡ true → is_in (variable_names p) x ≡ true
goes_known p x rest told onward after way w h = told after way w h
goes_known p x rest told stops after way w h = absurd (no_event after x w.0 h)
goes_known p x rest told (into s) after way w h = absurd (no_event after x w.0 h)

mutual
  walks_known : (b : PlainBlock) (p : PlainProcess) (x : List ℕ) (join : List ℕ → List Event → Way → Type 0) → ((y : List ℕ) → Declares p x (join y))
      → (t : Text) → HasNone (statement_unknown b p) t → Declares p x (Walks join t)
  walks_known b p x join told falls known events way w h = absurd (no_event events x w.0 h)
  walks_known b p x join told (ends (NextState n)) known events way w h = absurd (no_event events x w.0 h)
  walks_known b p x join told (ends (Stop at)) known events way w h = absurd (no_event events x w.0 h)
  walks_known b p x join told (ends (Join j)) known events way w h = told j.connector.name events way w h
  walks_known b p x join told (does a rest) known events way (after, all, walk) h =
      elim (reads_some-append (action_events a) after x (ap (λ es. reads_some es x) (sym all) ∙ h)) [
        | inl here ↦ action_known b p a x known.0 here
        | inr there ↦ walks_known b p x join told rest known.1 after way walk there
      ]
  walks_known b p x join told (decides at t c rest) known events way (chosen, after, between, all, one, walk) h =
      let f = λ (s : Statement). statement_unknown b p s ≡ [] in
      elim (reads_some-append (tree_events t) (chosen ++ after) x (ap (λ es. reads_some es x) (sym all) ∙ h)) [
        | inl here ↦ question_known p t x known.0 here
        | inr there ↦ elim (reads_some-append chosen after x there) [
          | inl first ↦ chosen_known b p x join told t c (each_front f (choice_statements t c) (statements_of rest) known.1) chosen between one first
          | inr second ↦ goes_known p x (Walks join rest) (walks_known b p x join told rest (each_back f (choice_statements t c) (statements_of rest) known.1)) between after way walk second
        ]
      ]

  chosen_known : (b : PlainBlock) (p : PlainProcess) (x : List ℕ) (join : List ℕ → List Event → Way → Type 0) → ((y : List ℕ) → Declares p x (join y))
      → (t : Tree) (c : Choice) → Each (λ s. statement_unknown b p s ≡ []) (choice_statements t c) → Declares p x (IsChosen join c)
  chosen_known b p x join told t nothing_else known events way w h = absurd w
  chosen_known b p x join told t (otherwise body) known events way w h = walks_known b p x join told body known events way w h
  chosen_known b p x join told t (answer at ranges body others) known events way w h =
      let f = λ (s : Statement). statement_unknown b p s ≡ [] in
      elim w [
        | inl one ↦ walks_known b p x join told body (each_front f (statements_of body) (choice_statements t others) known.1) events way one h
        | inr other ↦ chosen_known b p x join told t others (each_back f (statements_of body) (choice_statements t others) known.1) events way other h
      ]

-- No text of a process names anything unknown.
abbrev AreKnown : PlainBlock → PlainProcess → Type 0
AreKnown b p = (t : Text) → IsTextOf p t → HasNone (statement_unknown b p) t

are_known : (b : PlainBlock) (p : PlainProcess) → process_unknown b p ≡ [] → AreKnown b p
are_known b p known =
    let inputs = flat_map (input_unknown b p) (input_parts p) in
    let saves = flat_map (saves_unknown b p) p.states in
    let all = in_statements (λ from. statement_unknown b p) p in
    texts_none (statement_unknown b p) p (append-nil_right saves all (append-nil_right inputs (saves ++ all) known))

follows_known : (b : PlainBlock) (p : PlainProcess) (x : List ℕ) → AreKnown b p → (n : ℕ) (y : List ℕ) → Declares p x (Follows p n y)
follows_known b p x known zero y events way w h = absurd w
follows_known b p x known (suc n) y events way (c, is, inner, w, last) h =
    walks_known b p x (Follows p n) (follows_known b p x known n) c.text (known c.text (inr (inr (c, connection_there p y c is, refl)))) events inner w h

-- Each variable that a walk of a text reads is declared.
walk_known : (b : PlainBlock) (p : PlainProcess) (t : Text) (events : List Event) (end : Option (List ℕ)) (x : List ℕ) → AreKnown b p → IsTextOf p t
    → IsWalk p t events end → reads_some events x ≡ true → is_in (variable_names p) x ≡ true
walk_known b p t events end x known text (n, way, w, e) h = walks_known b p x (Follows p n) (follows_known b p x known n) t (known t text) events way w h

-- a known name has a number
pub has_number : (ids : List Identifier) (x : List ℕ) → is_in ids x ≡ true
    → (v : ℕ) × (id : Identifier) × (slice_get ids v ≡ Some id) × (folded x ≡ folded id.name)
has_number [] x h = absurd (true≢false (sym h))
has_number (id ∷ ids) x h = elim (or_cases (same_name x id.name) (is_in ids x) h) [
  | inl here ↦ (zero, id, refl, same_folded x id.name here)
  | inr there ↦ let rest = has_number ids x there in (suc rest.0, rest.1, rest.2, rest.3)
]

pub none_at : {A : Type 0} (f : A → List ℕ) (xs : List A) (i : ℕ) (x : A) → flat_map f xs ≡ [] → slice_get xs i ≡ Some x → f x ≡ []
none_at f [] i x none e = let bad : None ≡ Some x = e in absurd (cc)
none_at {A = A} f (y ∷ xs) zero x none e =
    let same : y ≡ x = let s : Some y ≡ Some x = e in cc in
    subst (λ (z : A). f z ≡ []) same (append-nil_left (f y) _ none)
none_at f (y ∷ xs) (suc i) x none e = none_at f xs i x (append-nil_right (f y) _ none) e

-- ---- the variable that a path reads

abbrev IsDeclared : PlainProcess → List ℕ → Type 0
IsDeclared p x = is_in (variable_names p) x ≡ true

-- A step by names is one by numbers.
abbrev pub IsTaken : PlainProcess → List ℕ → Input → Type 0
IsTaken p s inp =
    (q : ℕ) × (id : Identifier) × (i : ℕ) × (number_of (states_of p) s ≡ Some q) × (slice_get (states_of p) q ≡ Some id)
    × (slice_get (inputs_of p q) i ≡ Some inp)

taken_at : (p : PlainProcess) (s : List ℕ) (inp : Input) (o : Option ℕ) → number_of (states_of p) s ≡ o → Contains (inputs_in p s) inp → IsTaken p s inp
taken_at p s inp None e among =
    let none : inputs_in p s ≡ [] = ap (λ o. option_map_or (inputs_of p) o []) e in
    let short : among.0 < 0 = subst (λ (l : List Input). among.0 < length l) none among.1 in absurd (omega (arith, short))
taken_at p s inp (Some q) e among =
    let same : inputs_in p s ≡ inputs_of p q = ap (λ o. option_map_or (inputs_of p) o []) e in
    let state = number_names (states_of p) s q e in
    let there = at_among (inputs_of p q) inp (subst (λ (l : List Input). Contains l inp) same among) in
    (q, state.0, there.0, e, state.1, there.1)

taken : (p : PlainProcess) (s : List ℕ) (inp : Input) → Contains (inputs_in p s) inp → IsTaken p s inp
taken p s inp among = taken_at p s inp (number_of (states_of p) s) refl among

start_declared : (b : PlainBlock) (p : PlainProcess) (t : Transition) (events : List Event) (end : Option (List ℕ)) (x : List ℕ)
    → AreKnown b p → t ≡ start_transition p → IsWalk p t.text events end → reads_first (t.first ++ events) x ≡ true → IsDeclared p x
start_declared b p t events end x known is walk first =
    let s = start_transition p in
    let text : IsWalk p p.start.text events end = subst (λ (u : Transition). IsWalk p u.text events end) is walk in
    let all : reads_first (s.first ++ events) x ≡ true = ap (λ (u : Transition). reads_first (u.first ++ events) x) (sym is) ∙ first in
    elim (reads_some-append s.first events x (reads_some-first (s.first ++ events) x all)) [
      | inl none ↦ absurd (initial_reads_nothing (variables_of p) x none)
      | inr there ↦ walk_known b p p.start.text events end x known (inl refl) text there
    ]

input_declared : (b : PlainBlock) (p : PlainProcess) (s : List ℕ) (inp : Input) (t : Transition) (events : List Event) (end : Option (List ℕ)) (x : List ℕ)
    → AreKnown b p → Contains (inputs_in p s) inp → t ≡ input_transition inp → IsWalk p t.text events end
    → reads_first (t.first ++ events) x ≡ true → IsDeclared p x
input_declared b p s inp t events end x known among is walk first =
    let u = input_transition inp in
    let here = taken p s inp among in
    let text : IsWalk p inp.text events end = subst (λ (w : Transition). IsWalk p w.text events end) is walk in
    let all : reads_first (u.first ++ events) x ≡ true = ap (λ (w : Transition). reads_first (w.first ++ events) x) (sym is) ∙ first in
    elim (reads_some-append u.first events x (reads_some-first (u.first ++ events) x all)) [
      | inl none ↦ absurd (sets_read_nothing (place_names inp.stimulus.places) x none)
      | inr there ↦ walk_known b p inp.text events end x known (inr (inl (here.0, inp, among_at (inputs_of p here.0) here.2 inp here.5, refl))) text there
    ]

-- The variable that is read at the end of a path is declared.
read_declared : (b : PlainBlock) (p : PlainProcess) → AreKnown b p → (steps : List Step) (place : Place) (x : List ℕ)
    → ReadsFrom p place steps x → IsDeclared p x
read_declared b p known [] place x r = absurd r
read_declared b p known (Start ∷ []) None x (t, leads, events, end, walk, first) = start_declared b p t events end x known leads walk first
read_declared b p known (Takes state signal ∷ []) None x (t, leads, events, end, walk, first) = absurd leads
read_declared b p known (Start ∷ []) (Some s) x (t, leads, events, end, walk, first) = absurd leads
read_declared b p known (Takes state signal ∷ []) (Some s) x (t, (same, inp, among, heard, is), events, end, walk, first) =
    input_declared b p s inp t events end x known among is walk first
read_declared b p known (step ∷ next ∷ steps) place x (t, leads, events, s, walk, unset, rest) = read_declared b p known (next ∷ steps) (Some s) x rest

-- ---- the path by numbers

-- One more step at the front.
longer : (g : Graph) (v : ℕ) (place : graph.Place) (step : number.Step) (t : Summary) (r : ℕ) → graph.Leads g place step t → Passes t v r
    → (path : List number.Step) → graph.ReadsFrom g v (Some r) path → graph.ReadsFrom g v place (step ∷ path)
longer g v place step t r leads passes [] rest = absurd rest
longer g v place step t r leads passes (next ∷ path) rest = (t, r, leads, passes, rest)

-- The next step leads from a state that exists.
state_there : (p : PlainProcess) (s : List ℕ) (steps : List Step) (x : List ℕ) → ReadsFrom p (Some s) steps x → (q : ℕ) × (number_of (states_of p) s ≡ Some q)
state_there p s [] x r = absurd r
state_there p s (Start ∷ []) x r = absurd r.1
state_there p s (Start ∷ next ∷ steps) x r = absurd r.1
state_there p s (Takes state signal ∷ []) x r = let here = taken p s r.1.1 r.1.2 in (here.0, here.3)
state_there p s (Takes state signal ∷ next ∷ steps) x r = let here = taken p s r.1.1 r.1.2 in (here.0, here.3)

-- A walk that reads x unset.
read_by : (p : PlainProcess) (u t : Transition) (sum : Summary) (v : ℕ) (id : Identifier) (x : List ℕ) (events : List Event) (end : Option (List ℕ))
    → IsSummaryOf p u sum → slice_get (variable_names p) v ≡ Some id → folded x ≡ folded id.name → t ≡ u → IsWalk p t.text events end
    → reads_first (t.first ++ events) x ≡ true → has sum.reads v ≡ true
read_by p u t sum v id x events end is var same e walk first =
    (is.reads v id var).1 (record {
      events = events;
      end = end;
      walk = subst (λ (w : Transition). IsWalk p w.text events end) e walk;
      first =
          sym (reads_first-same (u.first ++ events) x id.name same)
          ∙ ap (λ (w : Transition). reads_first (w.first ++ events) x) (sym e) ∙ first;
    })

-- A walk that leaves x unset.
passes_by : (p : PlainProcess) (u t : Transition) (sum : Summary) (v : ℕ) (id : Identifier) (x : List ℕ) (events : List Event) (s : List ℕ) (q : ℕ)
    → IsSummaryOf p u sum → slice_get (variable_names p) v ≡ Some id → folded x ≡ folded id.name → t ≡ u → IsWalk p t.text events (Some s)
    → number_of (states_of p) s ≡ Some q → sets_in (t.first ++ events) x ≡ false → Passes sum v q
passes_by p u t sum v id x events s q is var same e walk state unset =
    (is.passes v q id var).1 (record {
      events = events;
      state = s;
      walk = subst (λ (w : Transition). IsWalk p w.text events (Some s)) e walk;
      number = state;
      keeps =
          sym (sets_in-same (u.first ++ events) x id.name same)
          ∙ ap (λ (w : Transition). sets_in (w.first ++ events) x) (sym e) ∙ unset;
    })

-- The place of a step by names.
stands : (p : PlainProcess) (s name signal : List ℕ) (q i : ℕ) (id : Identifier) (inp : Input) → number_of (states_of p) s ≡ Some q → slice_get (states_of p) q ≡ Some id
    → slice_get (inputs_of p q) i ≡ Some inp → same_name s name ≡ true → same_name signal inp.stimulus.name.name ≡ true → StandsAt p (Takes name signal) q i
stands p s name signal q i id inp number there input spelled heard =
    let found = number_names (states_of p) s q number in
    let one : found.0 ≡ id = let e : Some found.0 ≡ Some id = sym found.1 ∙ there in cc in
    let same : same_name s id.name ≡ true = ap (λ (d : Identifier). same_name s d.name) (sym one) ∙ found.2 in
    (id, there, folded_same name id.name (sym (same_folded s name spelled) ∙ same_folded s id.name same), inp, input, heard)

numbers_from : (p : PlainProcess) (g : Graph) (v : ℕ) (id : Identifier) (x : List ℕ) → IsGraphOf p g → slice_get (variable_names p) v ≡ Some id
    → folded x ≡ folded id.name → (steps : List Step) (s : List ℕ) (q : ℕ) → number_of (states_of p) s ≡ Some q → ReadsFrom p (Some s) steps x
    → (path : List number.Step) × graph.ReadsFrom g v (Some q) path × (length path ≡ length steps) × AllZip (IsAt p) path steps
numbers_from p g v id x is var same [] s q state r = absurd r
numbers_from p g v id x is var same (Start ∷ []) s q state r = absurd r.1
numbers_from p g v id x is var same (Start ∷ next ∷ steps) s q state r = absurd r.1
numbers_from p g v id x is var same (Takes name signal ∷ []) s q state (t, (spelled, inp, among, heard, e), events, end, walk, first) =
    let here = taken p s inp among in
    let at : here.0 ≡ q = let h : Some here.0 ≡ Some q = sym here.3 ∙ state in cc in
    let input = input_in_graph p g here.0 here.2 here.1 inp is here.4 here.5 in
    let told = read_by p (input_transition inp) t input.0 v id x events end input.2 var same e walk first in
    (By here.0 here.2 ∷ [], (input.0, (at, ap (λ m. input_at g m here.2) (sym at) ∙ input.1), told), refl, (stands p s name signal here.0 here.2 here.1 inp here.3 here.4 here.5 spelled heard, tt))
numbers_from p g v id x is var same (Takes name signal ∷ next ∷ steps) s q state (t, (spelled, inp, among, heard, e), events, s2, walk, unset, rest) =
    let here = taken p s inp among in
    let at : here.0 ≡ q = let h : Some here.0 ≡ Some q = sym here.3 ∙ state in cc in
    let input = input_in_graph p g here.0 here.2 here.1 inp is here.4 here.5 in
    let after = state_there p s2 (next ∷ steps) x rest in
    let passes = passes_by p (input_transition inp) t input.0 v id x events s2 after.0 input.2 var same e walk after.1 unset in
    let path = numbers_from p g v id x is var same (next ∷ steps) s2 after.0 after.1 rest in (
      By here.0 here.2 ∷ path.0,
      longer g v (Some q) (By here.0 here.2) input.0 after.0 (at, ap (λ m. input_at g m here.2) (sym at) ∙ input.1) passes path.0 path.1,
      ap suc path.2,
      (stands p s name signal here.0 here.2 here.1 inp here.3 here.4 here.5 spelled heard, path.3),
    )

-- A path by names that reads a declared variable unset is a path by numbers of the same length.
numbers_of : (p : PlainProcess) (g : Graph) (v : ℕ) (id : Identifier) (x : List ℕ) → IsGraphOf p g → slice_get (variable_names p) v ≡ Some id
    → folded x ≡ folded id.name → (steps : List Step) → ReadsUnset p steps x
    → (path : List number.Step) × graph.ReadsUnset g v path × (length path ≡ length steps) × AllZip (IsAt p) path steps
numbers_of p g v id x is var same [] r = absurd r
numbers_of p g v id x is var same (Takes name signal ∷ []) r = absurd r.1
numbers_of p g v id x is var same (Takes name signal ∷ next ∷ steps) r = absurd r.1
numbers_of p g v id x is var same (Start ∷ []) (t, leads, events, end, walk, first) =
    let told = read_by p (start_transition p) t g.start v id x events end is.start var same leads walk first in
    (First ∷ [], (g.start, refl, told), refl, (refl, tt))
numbers_of p g v id x is var same (Start ∷ next ∷ steps) (t, leads, events, s2, walk, unset, rest) =
    let after = state_there p s2 (next ∷ steps) x rest in
    let passes = passes_by p (start_transition p) t g.start v id x events s2 after.0 is.start var same leads walk after.1 unset in
    let path = numbers_from p g v id x is var same (next ∷ steps) s2 after.0 after.1 rest in
    (First ∷ path.0, longer g v None First g.start after.0 refl passes path.0 path.1, ap suc path.2, (refl, path.3))

-- A path by names that reads some variable unset is a path by numbers for a declared variable.
pub numbered_path : (b : PlainBlock) (p : PlainProcess) (g : Graph) → process_unknown b p ≡ [] → IsGraphOf p g → (steps : List Step) (x : List ℕ)
    → ReadsUnset p steps x
    → (v : ℕ) × (id : Identifier) × (slice_get (variable_names p) v ≡ Some id) × (path : List number.Step) × graph.ReadsUnset g v path
    × (length path ≡ length steps) × AllZip (IsAt p) path steps
numbered_path b p g known is steps x r =
    let named = has_number (variable_names p) x (read_declared b p (are_known b p known) steps None x r) in
    let path = numbers_of p g named.0 named.1 x is named.2 named.3 steps r in
    (named.0, named.1, named.2, path.0, path.1, path.2, path.3)

-- If no path by numbers reads a variable unset, no path by names does.
pub never_reads : (b : PlainBlock) (p : PlainProcess) (g : Graph) → process_unknown b p ≡ [] → IsGraphOf p g
    → ((v : ℕ) (id : Identifier) → slice_get (variable_names p) v ≡ Some id → (path : List number.Step) → graph.ReadsUnset g v path → ⊥)
    → NeverReadsUnset p
never_reads b p g known is none steps x r =
    let there = numbered_path b p g known is steps x r in
    none there.0 there.1 there.2 there.3 there.4
