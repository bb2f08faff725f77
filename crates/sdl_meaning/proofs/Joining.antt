-- The JOINs of a text: each has a connection, and is in both lists of JOINs.
use Rattle.std.proofs.Common.{◌≡◌, ℕ, zero, suc, ◌⊎◌, inl, inr, ◌<◌, Bool, true, false, cond, List, [], ◌∷◌, ◌++◌, length, map, Option, Some, None, IsSome, refl, sym, ap, ◌∙◌, subst, arith}
use Rattle.std.specs.Prelude.{slice_get, get_or, Contains}
use Rattle.std.specs.List.{flat_map}
use Rattle.std.proofs.lemmas.List.{length-map}
use Rattle.std.proofs.lemmas.List.Concat.{flat_map-append}
use Rattle.std.proofs.lemmas.List.Elements.{Contains-append_left, Contains-append_right, Contains-append_cases}
use Rattle.sdl_ast.specs.declared.expression.Identifier.{Identifier}
use Rattle.sdl_ast.specs.declared.tree.Join as tree_join
use Rattle.sdl_ast.specs.declared.tree.End.{End}
use Rattle.sdl_ast.specs.declared.tree.End.TheVariants.{NextState, Stop, Join}
use Rattle.sdl_ast.specs.Plain.{Tree, Text, falls, ends, does, decides, Choice, nothing_else, otherwise, answer, PlainConnection}
use Rattle.sdl_tables.specs.Names.{same_name, connection_named}
use Rattle.sdl_sound.specs.Statements.{Statement, statements_of, choice_statements, statement_joins, joins_of}
use Rattle.sdl_meaning.specs.Act.{is_truth}
use Rattle.sdl_meaning.specs.Outcomes.{Scope, connector_at}
use Rattle.sdl_meaning.specs.Named.{NamedText, NamedChoice}
use Rattle.sdl_meaning.specs.Code.{number_or_zero, code_joins, else_joins, answers_joins, bodies_joins}
use Rattle.sdl_meaning.proofs.Sorting.{first_of_some, number_small, found_at}
use Rattle.sdl_meaning.proofs.Branches.{EachEnd, EachJoin, ChoiceJoin}
use Rattle.turn_code.proofs.Lists.{first_of as contains_first}

get_or_at : {A B : Type 0} (f : A → B) (xs : List A) (k : ℕ) (x : A) → k < length xs → get_or xs k x ≡ x → Contains (map f xs) (f x)
get_or_at f [] k x h e = absurd (omega arith)
get_or_at f (y ∷ xs) zero x h e = (0, omega arith, ap f e)
get_or_at f (y ∷ xs) (suc k) x h e = let r = get_or_at f xs k x (omega arith) e in (suc r.0, omega (arith, r.1), r.2)

pub contains_map : {A B : Type 0} (f : A → B) (xs : List A) (x : A) → Contains xs x → Contains (map f xs) (f x)
contains_map f xs x h = get_or_at f xs h.0 x h.1 h.2

-- The connection to which a JOIN leads.
pub record HasConnection (c : Scope) (id : Identifier) : Type 0 where
  pub connection : PlainConnection
  pub there : slice_get c.process.connections (number_or_zero (connector_at c id)) ≡ Some connection
  pub named : connection_named c.process id.name ≡ Some connection
  pub number : connector_at c id ≡ Some (number_or_zero (connector_at c id))

abbrev pub connection_name : PlainConnection → Identifier
connection_name k = k.name

some_number : (o : Option ℕ) → IsSome o → o ≡ Some (number_or_zero o)
some_number None h = absurd (let k : ⊥ = cc in k)
some_number (Some n) h = refl

record IsThere (cs : List PlainConnection) (n : ℕ) : Type 0 where
  connection : PlainConnection
  at : slice_get cs n ≡ Some connection

is_there : (cs : List PlainConnection) (n : ℕ) → n < length cs → IsThere cs n
is_there [] n h = absurd (omega arith)
is_there (k ∷ cs) zero h = record { connection = k; at = refl }
is_there (k ∷ cs) (suc n) h = let r = is_there cs n (omega arith) in record { connection = r.connection; at = r.at }

pub has_connection : (c : Scope) (id : Identifier) → IsSome (connector_at c id) → HasConnection c id
has_connection c id some =
    let cs = c.process.connections in
    let test = λ (x : Identifier). same_name id.name x.name in
    let n = number_or_zero (connector_at c id) in
    let lt = number_small test (map connection_name cs) some in
    let small : n < length cs = omega (arith, lt, length-map cs connection_name) in
    let r = is_there cs n small in
    record {
      connection = r.connection;
      there = r.at;
      named = found_at connection_name id.name cs ∙ ap (λ k. slice_get cs k) (sym (first_of_some test (map connection_name cs) some)) ∙ r.at;
      number = some_number (connector_at c id) some;
    }

-- ---- what holds of the JOINs that are in both lists holds of each

module _ (c : Scope) (P : tree_join.Join → Type 0) where
  abbrev Both : List tree_join.Join → List tree_join.Join → Type 0
  Both js ks = (j : tree_join.Join) → Contains js j → Contains ks j → IsSome (connector_at c j.connector) → P j

  end_each : (e : End) → NamedText c (ends e) → Both (joins_of (ends e)) (code_joins c (ends e)) → EachEnd P e
  end_each (NextState n) named h = tt
  end_each (Stop at) named h = tt
  end_each (Join j) named h = h j (contains_first j []) (contains_first j []) named

  in_first : (a b : List Statement) (j : tree_join.Join) → Contains (flat_map statement_joins a) j → Contains (flat_map statement_joins (a ++ b)) j
  in_first a b j h =
      subst (λ l. Contains l j) (sym (flat_map-append statement_joins a b)) (Contains-append_left (flat_map statement_joins a) (flat_map statement_joins b) j h)

  in_second : (a b : List Statement) (j : tree_join.Join) → Contains (flat_map statement_joins b) j → Contains (flat_map statement_joins (a ++ b)) j
  in_second a b j h =
      subst (λ l. Contains l j) (sym (flat_map-append statement_joins a b)) (Contains-append_right (flat_map statement_joins a) (flat_map statement_joins b) j h)

  -- The list with the JOINs of the bodies: that of a Boolean or of an Integer DECISION.
  abbrev choice_joins : Bool → Choice → List tree_join.Join
  choice_joins b choice = cond b (bodies_joins c choice) (else_joins c choice ++ answers_joins c choice)

  else_in : (b : Bool) (body : Text) (j : tree_join.Join) → Contains (code_joins c body) j → Contains (choice_joins b (otherwise body)) j
  else_in true body j h = h
  else_in false body j h = Contains-append_left (code_joins c body) [] j h

  answer_in : (b : Bool) (at : ℕ) (rs : List _) (body : Text) (others : Choice) (j : tree_join.Join) → Contains (code_joins c body) j → Contains (choice_joins b (answer at rs body others)) j
  answer_in true at rs body others j h = Contains-append_left (code_joins c body) (bodies_joins c others) j h
  answer_in false at rs body others j h =
      Contains-append_right (else_joins c others) (code_joins c body ++ answers_joins c others) j (Contains-append_left (code_joins c body) (answers_joins c others) j h)

  others_in : (b : Bool) (at : ℕ) (rs : List _) (body : Text) (others : Choice) (j : tree_join.Join) → Contains (choice_joins b others) j → Contains (choice_joins b (answer at rs body others)) j
  others_in true at rs body others j h = Contains-append_right (code_joins c body) (bodies_joins c others) j h
  others_in false at rs body others j h = by_side (Contains-append_cases (else_joins c others) (answers_joins c others) j h)
    where
      by_side : Contains (else_joins c others) j ⊎ Contains (answers_joins c others) j → Contains (else_joins c others ++ (code_joins c body ++ answers_joins c others)) j
      by_side (inl h) = Contains-append_left (else_joins c others) (code_joins c body ++ answers_joins c others) j h
      by_side (inr h) = Contains-append_right (else_joins c others) (code_joins c body ++ answers_joins c others) j (Contains-append_right (code_joins c body) (answers_joins c others) j h)

  mutual
    pub each_join : (t : Text) → NamedText c t → Both (joins_of t) (code_joins c t) → EachJoin P t
    each_join falls named h = tt
    each_join (ends e) named h = end_each e named h
    each_join (does a rest) named h = each_join rest named.1 h
    each_join (decides at q choice rest) named h = (
      choice_each (is_truth c q) choice q named.1
          (λ j a b. h j (in_first (choice_statements q choice) (statements_of rest) j a) (Contains-append_left (choice_joins (is_truth c q) choice) (code_joins c rest) j b)),
      each_join rest named.2
          (λ j a b. h j (in_second (choice_statements q choice) (statements_of rest) j a) (Contains-append_right (choice_joins (is_truth c q) choice) (code_joins c rest) j b)),
    )

    choice_each : (b : Bool) (choice : Choice) (q : Tree) → NamedChoice c q choice → Both (flat_map statement_joins (choice_statements q choice)) (choice_joins b choice) → ChoiceJoin P choice
    choice_each b nothing_else q named h = tt
    choice_each b (otherwise body) q named h = each_join body named (λ j x y. h j x (else_in b body j y))
    choice_each b (answer at rs body others) q named h = (
      each_join body named.1 (λ j x y. h j (in_first (statements_of body) (choice_statements q others) j x) (answer_in b at rs body others j y)),
      choice_each b others q named.2 (λ j x y. h j (in_second (statements_of body) (choice_statements q others) j x) (others_in b at rs body others j y)),
    )
