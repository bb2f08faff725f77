-- The texts of a sound process: each DECISION has a body, and an order ranks the connection to which each JOIN leads.
use Rattle.std.proofs.Common.{◌≡◌, ℕ, zero, suc, ◌<◌, ◌≤◌, Bool, true, false, ◌||◌, if◌then◌else◌, cond, List, [], ◌∷◌, ◌++◌, length, map, None, Some, find, position, refl, sym, ap, ◌∙◌, subst, arith, inl, inr}
use Rattle.std.specs.Prelude.{⊤, slice_get, Contains, nat_eq, nat_lt}
use Rattle.std.specs.List.{list_any, flat_map, position_or_len}
use Rattle.std.proofs.lemmas.Bool.{lt-ltb, eqb-true, eqb-false}
use Rattle.std.proofs.lemmas.List.Folds.{find_at}
use Rattle.std.proofs.lemmas.Option.{slice_get_within, get_or_from_slice_get, same_Some as some_same}
use Rattle.sdl_ast.specs.declared.expression.Identifier.{Identifier}
use Rattle.sdl_ast.specs.declared.tree.Join as tree
use Rattle.sdl_ast.specs.declared.tree.End.TheVariants.{NextState, Stop, Join}
use Rattle.sdl_ast.specs.Plain.{Tree, Text, falls, ends, does, decides, Choice, nothing_else, otherwise, answer, PlainConnection, PlainInput, PlainClause, input, save, PlainStimulus, PlainState, PlainProcess, PlainBlock}
use Rattle.sdl_tables.specs.Names.{same_name, is_in, number_of, Variable, variables_of, connector_names, connection_named, Input, inputs_of, input_parts, clause_parts, clause_inputs, part_inputs, given_to, is_state, states_of}
use Rattle.sdl_sound.specs.Statements.{Statement, acts, asks, covers, finishes, statements_of, choice_statements, statement_joins, joins_of}
use Rattle.sdl_sound.specs.Actions.{in_statements, in_input, in_connection}
use Rattle.sdl_sound.specs.Sorts.{is_truth}
use Rattle.sdl_sound.specs.Decisions.{is_answered, statement_unanswered}
use Rattle.sdl_sound.specs.Names.{statement_unknown}
use Rattle.sdl_sound.specs.Orders.{IsOrder}
use Rattle.sdl_sound.specs.Laws.{IsTextOf}
use Rattle.sdl_sound.proofs.Items.{Each, each_front, each_back, each_always, each_with, each_flat, each_unflat, each_map, each_nil, each_at, each_both as both_each}
use Rattle.sdl_unset.proofs.Chancing.{HasBody, EndsWell, IsWhole, AreWhole, IsBefore, AreRanked}
use Rattle.std.proofs.lemmas.List.Elements.{Contains-append_right}
use Rattle.plain_laws.proofs.Searches.{position-map}
use Rattle.plain_laws.proofs.Lists.{test_known as no_place, append-nil_left as nil_front, append-nil_right as nil_back}

-- ---- members

pub each_contains : {A : Type 0} (xs : List A) → Each (λ x. Contains xs x) xs
each_contains [] = tt
each_contains (x ∷ xs) = ((0, omega arith, refl), each_with (λ y. Contains xs y) (λ y. Contains (x ∷ xs) y) (λ y. Contains-append_right (x ∷ []) xs y) xs (each_contains xs))

-- ---- from the statements of a text to the text

abbrev pub StandsWell : (List ℕ → Type 0) → Statement → Type 0
StandsWell P (acts a) = ⊤
StandsWell P (asks at q c) = HasBody c
StandsWell P (covers q ranges) = ⊤
StandsWell P (finishes e) = EndsWell P e

mutual
  pub whole-by : (P : List ℕ → Type 0) (t : Text) → Each (StandsWell P) (statements_of t) → IsWhole P t
  whole-by P falls h = tt
  whole-by P (ends e) h = h.0
  whole-by P (does a rest) h = whole-by P rest h.1
  whole-by P (decides at q c rest) h = (
    h.0,
    choice-by P q c (each_front (StandsWell P) (choice_statements q c) (statements_of rest) h.1),
    whole-by P rest (each_back (StandsWell P) (choice_statements q c) (statements_of rest) h.1),
  )

  pub choice-by : (P : List ℕ → Type 0) (q : Tree) (c : Choice) → Each (StandsWell P) (choice_statements q c) → AreWhole P c
  choice-by P q nothing_else h = tt
  choice-by P q (otherwise body) h = whole-by P body h
  choice-by P q (answer at ranges body others) h = (
    whole-by P body (each_front (StandsWell P) (statements_of body) (choice_statements q others) h.1),
    choice-by P q others (each_back (StandsWell P) (statements_of body) (choice_statements q others) h.1),
  )

-- ---- what the rules require of a statement

-- The connectors of a statement are known, and if it is a DECISION, it has a body.
abbrev pub IsFine : PlainProcess → Statement → Type 0
IsFine p (acts a) = ⊤
IsFine p (asks at q c) = HasBody c
IsFine p (covers q ranges) = ⊤
IsFine p (finishes (NextState n)) = ⊤
IsFine p (finishes (Stop at)) = ⊤
IsFine p (finishes (Join j)) = (c : PlainConnection) × (connection_named p j.connector.name ≡ Some c)

no_places : (b : Bool) (at : ℕ) → (if b then [] else at ∷ []) ++ [] ≡ [] → b ≡ true
no_places true at h = refl
no_places false at h = let bad : at ∷ [] ≡ [] = h in absurd (let k : ⊥ = cc in k)

no_answer : (vs : List Variable) (q : Tree) (b : Bool) → is_truth vs q ≡ b → is_answered vs q nothing_else ≡ true → ⊥
no_answer vs q true is h = let bad : false ≡ true = ap (λ (u : Bool). if u then false else false) (sym is) ∙ h in cc
no_answer vs q false is h = let bad : false ≡ true = ap (λ (u : Bool). if u then false else false) (sym is) ∙ h in cc

has_body : (vs : List Variable) (at : ℕ) (q : Tree) (c : Choice) → statement_unanswered vs (asks at q c) ≡ [] → HasBody c
has_body vs at q nothing_else h = absurd (no_answer vs q (is_truth vs q) refl (no_place (is_answered vs q nothing_else) at h))
has_body vs at q (otherwise body) h = tt
has_body vs at q (answer a ranges body others) h = tt

-- The first of the connections that has this name.
found : (y : List ℕ) (cs : List PlainConnection) → list_any (λ (id : Identifier). same_name y id.name) (map (λ c. c.name) cs) ≡ true
    → (c : PlainConnection) × (find (λ c. same_name y c.name.name) cs ≡ Some c)
found y [] h = absurd (let bad : false ≡ true = h in let k : ⊥ = cc in k)
found y (c ∷ cs) h = by_test (same_name y c.name.name) h (found y cs)
  where
    by_test : (b : Bool) → (b || list_any (λ (id : Identifier). same_name y id.name) (map (λ c. c.name) cs)) ≡ true
        → (list_any (λ (id : Identifier). same_name y id.name) (map (λ c. c.name) cs) ≡ true → (d : PlainConnection) × (find (λ c. same_name y c.name.name) cs ≡ Some d))
        → (d : PlainConnection) × (cond b (Some c) (find (λ c. same_name y c.name.name) cs) ≡ Some d)
    by_test true e rest = (c, refl)
    by_test false e rest = rest e

pub fine_statement : (b : PlainBlock) (p : PlainProcess) (s : Statement) → statement_unknown b p s ≡ [] → statement_unanswered (variables_of p) s ≡ [] → IsFine p s
fine_statement b p (acts a) known answered = tt
fine_statement b p (asks at q c) known answered = has_body (variables_of p) at q c answered
fine_statement b p (covers q ranges) known answered = tt
fine_statement b p (finishes (NextState n)) known answered = tt
fine_statement b p (finishes (Stop at)) known answered = tt
fine_statement b p (finishes (Join j)) known answered =
    found j.connector.name p.connections (no_places (is_in (connector_names p) j.connector.name) j.connector.at known)

-- ---- ranks

-- The place of a number in an order.
abbrev pub place_in : List ℕ → ℕ → ℕ
place_in [] n = 0
place_in (m ∷ ms) n = if nat_eq m n then 0 else suc (place_in ms n)

abbrev pub rank_of : PlainProcess → List ℕ → List ℕ → ℕ
rank_of p order y = place_in order (position_or_len (λ (c : PlainConnection). same_name y c.name.name) p.connections)

pub other_place : (m n : ℕ) → nat_eq m n ≡ false → Some m ≡ Some n → ⊥
other_place m n e h = eqb-false m n e (some_same m n h)

pub place_there : (order : List ℕ) (n i : ℕ) → slice_get order i ≡ Some n → slice_get order (place_in order n) ≡ Some n
place_there [] n i h = h
place_there (m ∷ ms) n i h = by_test (nat_eq m n) refl i h (place_there ms n)
  where
    by_test : (b : Bool) → nat_eq m n ≡ b → (i : ℕ) → slice_get (m ∷ ms) i ≡ Some n
        → ((k : ℕ) → slice_get ms k ≡ Some n → slice_get ms (place_in ms n) ≡ Some n)
        → slice_get (m ∷ ms) (if b then 0 else suc (place_in ms n)) ≡ Some n
    by_test true e i h rest = ap Some (eqb-true m n e)
    by_test false e zero h rest = absurd (other_place m n e h)
    by_test false e (suc i) h rest = rest i h

place_least : (order : List ℕ) (n i : ℕ) → slice_get order i ≡ Some n → place_in order n ≤ i
place_least [] n i h = omega arith
place_least (m ∷ ms) n i h = by_test (nat_eq m n) refl i h (place_least ms n)
  where
    by_test : (b : Bool) → nat_eq m n ≡ b → (i : ℕ) → slice_get (m ∷ ms) i ≡ Some n → ((k : ℕ) → slice_get ms k ≡ Some n → place_in ms n ≤ k)
        → (if b then 0 else suc (place_in ms n)) ≤ i
    by_test true e i h rest = omega arith
    by_test false e zero h rest = absurd (other_place m n e h)
    by_test false e (suc i) h rest = omega (arith, rest i h)

-- The number of the first connection with this name.
abbrev pub number_at : PlainProcess → List ℕ → ℕ
number_at p y = position_or_len (λ (c : PlainConnection). same_name y c.name.name) p.connections

-- The number of the connection, and the rank as its place in the order.
pub record IsNumber (p : PlainProcess) (order : List ℕ) (y : List ℕ) (c : PlainConnection) : Type 0 where
  pub at : slice_get p.connections (number_at p y) ≡ Some c
  pub is : number_of (connector_names p) y ≡ Some (number_at p y)
  pub place : slice_get order (rank_of p order y) ≡ Some (number_at p y)

number_is : (y : List ℕ) (cs : List PlainConnection) (n : ℕ) → position_or_len (λ (c : PlainConnection). same_name y c.name.name) cs ≡ n → n < length cs
    → position (λ (id : Identifier). same_name y id.name) (map (λ c. c.name) cs) ≡ Some n
number_is y cs n is within =
    position-map (λ (id : Identifier). same_name y id.name) (λ (c : PlainConnection). c.name) cs
    ∙ (ap (λ k. cond (nat_lt k (length cs)) (Some k) None) is ∙ ap (λ (u : Bool). cond u (Some n) None) (lt-ltb n (length cs) within))

pub numbered : (p : PlainProcess) (order : List ℕ) (y : List ℕ) (c : PlainConnection) → IsOrder p order → connection_named p y ≡ Some c → IsNumber p order y c
numbered p order y c is named =
    let at : slice_get p.connections (number_at p y) ≡ Some c = sym (find_at (λ (d : PlainConnection). same_name y d.name.name) p.connections) ∙ named in
    let within = slice_get_within p.connections (number_at p y) c at in
    let there = is.each (number_at p y) within in
    record { at = at; is = number_is y p.connections (number_at p y) refl within; place = place_there order (number_at p y) there.0 there.1 }

-- A JOIN of a connection leads to one of lower rank.
lesser : (p : PlainProcess) (order : List ℕ) (y : List ℕ) (c : PlainConnection) (j : tree.Join) (d : PlainConnection) → IsOrder p order
    → connection_named p y ≡ Some c → Contains (joins_of c.text) j → connection_named p j.connector.name ≡ Some d
    → rank_of p order j.connector.name < rank_of p order y
lesser p order y c j d is named among leads =
    let one = numbered p order y c is named in
    let other = numbered p order j.connector.name d is leads in
    let before = is.behind (rank_of p order y) (number_at p y) (number_at p j.connector.name) c j one.place one.at among other.is in
    omega (arith, place_least order (number_at p j.connector.name) before.0 before.2, before.1)

pub below_all : (p : PlainProcess) (order : List ℕ) (y : List ℕ) (c : PlainConnection) → IsOrder p order → connection_named p y ≡ Some c
    → rank_of p order y < length p.connections
below_all p order y c is named =
    omega (arith, slice_get_within order (rank_of p order y) (number_at p y) (numbered p order y c is named).place, is.count)

-- ---- the statements of a sound process

-- `f` reports no place for any statement of a text.
abbrev pub HasNone : (Statement → List ℕ) → Text → Type 0
HasNone f t = Each (λ s. f s ≡ []) (statements_of t)

-- What holds of each signal of each INPUT holds of the inputs of the states.

clause_each : (Q : PlainInput → Type 0) (P : Input → Type 0) → ((i : PlainInput) → Q i → Each P (clause_inputs (input i))) → (c : PlainClause)
    → Each Q (clause_parts c) → Each P (clause_inputs c)
clause_each Q P f (input i) h = f i h.0
clause_each Q P f (save names) h = tt

part_each : (Q : PlainInput → Type 0) (P : Input → Type 0) → ((i : PlainInput) → Q i → Each P (clause_inputs (input i))) → (s : PlainState)
    → Each Q (flat_map clause_parts s.clauses) → Each P (part_inputs s)
part_each Q P f s h =
    each_flat P clause_inputs s.clauses
    (each_with (λ c. Each Q (clause_parts c)) (λ c. Each P (clause_inputs c)) (clause_each Q P f) s.clauses (each_unflat Q clause_parts s.clauses h))

given_each : {A : Type 0} (P : A → Type 0) (b : Bool) (xs : List A) → Each P xs → Each P (if b then xs else [])
given_each P true xs h = h
given_each P false xs h = tt

pub inputs_by : (Q : PlainInput → Type 0) (P : Input → Type 0) → ((i : PlainInput) → Q i → Each P (clause_inputs (input i))) → (p : PlainProcess) (s : ℕ)
    → Each Q (input_parts p) → Each P (inputs_of p s)
inputs_by Q P f p s h =
    each_flat P (given_to part_inputs (states_of p) s) p.states
    (each_with (λ (part : PlainState). Each Q (flat_map clause_parts part.clauses)) (λ (part : PlainState). Each P (given_to part_inputs (states_of p) s part))
    (λ part e. each_flat P (λ (id : Identifier). if is_state (states_of p) s id.name then part_inputs part else []) part.names
    (each_always (λ (id : Identifier). Each P (if is_state (states_of p) s id.name then part_inputs part else []))
    (λ id. given_each P (is_state (states_of p) s id.name) (part_inputs part) (part_each Q P f part e)) part.names)) p.states
    (each_unflat Q (λ (part : PlainState). flat_map clause_parts part.clauses) p.states h))

-- What holds of the text of each INPUT holds of the texts of the inputs of the states.
pub inputs_each : (P : Text → Type 0) (p : PlainProcess) (s : ℕ) → Each (λ (i : PlainInput). P i.text) (input_parts p) → Each (λ (i : Input). P i.text) (inputs_of p s)
inputs_each P =
    inputs_by (λ (i : PlainInput). P i.text) (λ (i : Input). P i.text)
    (λ i h. each_map (λ (u : Input). P u.text) (λ (s : PlainStimulus). record { at = i.at; stimulus = s; text = i.text }) i.stimuli
    (each_always (λ (s : PlainStimulus). P i.text) (λ s. h) i.stimuli))

pub texts_none : (f : Statement → List ℕ) (p : PlainProcess) → in_statements (λ from. f) p ≡ [] → (t : Text) → IsTextOf p t → HasNone f t
texts_none f p h t among =
    let start = flat_map f (statements_of p.start.text) in
    let inputs = flat_map (in_input (λ from. f)) (input_parts p) in
    let connections = flat_map (in_connection (λ from. f) p) p.connections in
    let behind = nil_back start (inputs ++ connections) h in
    elim among [
      | inl is ↦ subst (HasNone f) (sym is) (each_nil f (statements_of p.start.text) (nil_front start (inputs ++ connections) h))
      | inr rest ↦ elim rest [
        | inl here ↦
            let all = each_with (λ (i : PlainInput). in_input (λ from. f) i ≡ []) (λ (i : PlainInput). HasNone f i.text) (λ i e. each_nil f (statements_of i.text) e) (input_parts p)
            (each_nil (in_input (λ from. f)) (input_parts p) (nil_front inputs connections behind)) in
            subst (HasNone f) (sym here.3) (each_at (λ (i : Input). HasNone f i.text) (inputs_of p here.0) here.1 (inputs_each (HasNone f) p here.0 all) here.2)
        | inr here ↦
            let all = each_nil (in_connection (λ from. f) p) p.connections (nil_back inputs connections behind) in
            subst (HasNone f) (sym here.2) (each_nil f (statements_of here.0.text) (each_at (λ c. in_connection (λ from. f) p c ≡ []) p.connections here.0 all here.1))
      ]
    ]

-- Each statement of each text is fine.
pub record AreFine (p : PlainProcess) : Type 0 where
  pub of : (t : Text) → IsTextOf p t → Each (IsFine p) (statements_of t)

both_nil : (f g : Statement → List ℕ) (ss : List Statement) → Each (λ s. f s ≡ []) ss → Each (λ s. g s ≡ []) ss → Each (λ s. (f s ≡ []) × (g s ≡ [])) ss
both_nil f g [] h k = tt
both_nil f g (s ∷ ss) h k = ((h.0, k.0), both_nil f g ss h.1 k.1)

pub are_fine : (b : PlainBlock) (p : PlainProcess) → in_statements (λ from. statement_unknown b p) p ≡ []
    → in_statements (λ from. statement_unanswered (variables_of p)) p ≡ [] → AreFine p
are_fine b p known answered = record {
  of = λ t among.
      let f = statement_unknown b p in
      let g = statement_unanswered (variables_of p) in
      each_with (λ s. (f s ≡ []) × (g s ≡ [])) (IsFine p) (λ s h. fine_statement b p s h.0 h.1) (statements_of t)
      (both_nil f g (statements_of t) (texts_none f p known t among) (texts_none g p answered t among));
}

-- A statement of a text, with its JOINs among those of the text.
joined_well : (p : PlainProcess) (P : List ℕ → Type 0) (js : List tree.Join)
    → ((j : tree.Join) (c : PlainConnection) → Contains js j → connection_named p j.connector.name ≡ Some c → P j.connector.name)
    → (s : Statement) → IsFine p s → Each (λ j. Contains js j) (statement_joins s) → StandsWell P s
joined_well p P js f (acts a) fine among = tt
joined_well p P js f (asks at q c) fine among = fine
joined_well p P js f (covers q ranges) fine among = tt
joined_well p P js f (finishes (NextState n)) fine among = tt
joined_well p P js f (finishes (Stop at)) fine among = tt
joined_well p P js f (finishes (Join j)) fine among = f j fine.0 among.0 fine.1

text_whole : (p : PlainProcess) (P : List ℕ → Type 0) (t : Text)
    → ((j : tree.Join) (c : PlainConnection) → Contains (joins_of t) j → connection_named p j.connector.name ≡ Some c → P j.connector.name)
    → Each (IsFine p) (statements_of t) → IsWhole P t
text_whole p P t f fine =
    let among = each_unflat (λ j. Contains (joins_of t) j) statement_joins (statements_of t) (each_contains (joins_of t)) in
    whole-by P t (each_with (λ s. IsFine p s × Each (λ j. Contains (joins_of t) j) (statement_joins s)) (StandsWell P)
    (λ s h. joined_well p P (joins_of t) f s h.0 h.1) (statements_of t)
    (both_each (IsFine p) (λ s. Each (λ j. Contains (joins_of t) j) (statement_joins s)) (statements_of t) fine among))

pub connection_there : (p : PlainProcess) (y : List ℕ) (c : PlainConnection) → connection_named p y ≡ Some c → Contains p.connections c
connection_there p y c named =
    let at : slice_get p.connections (number_at p y) ≡ Some c = sym (find_at (λ (d : PlainConnection). same_name y d.name.name) p.connections) ∙ named in
    (number_at p y, slice_get_within p.connections (number_at p y) c at, get_or_from_slice_get p.connections (number_at p y) c c at)

-- An order ranks the connections, and each text joins only ranked connections.
pub are_ranked : (p : PlainProcess) (order : List ℕ) → AreFine p → IsOrder p order → AreRanked p (rank_of p order)
are_ranked p order fine is = λ y c named.
    text_whole p (IsBefore p (rank_of p order) (rank_of p order y)) c.text
    (λ j d among leads. (lesser p order y c j d is named among leads, d, leads)) (fine.of c.text (inr (inr (c, connection_there p y c named, refl))))

pub is_whole : (p : PlainProcess) (order : List ℕ) → AreFine p → IsOrder p order → (t : Text) → IsTextOf p t
    → IsWhole (IsBefore p (rank_of p order) (length p.connections)) t
is_whole p order fine is t among =
    text_whole p (IsBefore p (rank_of p order) (length p.connections)) t
    (λ j d there leads. (below_all p order j.connector.name d is leads, d, leads)) (fine.of t among)
