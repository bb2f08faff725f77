-- The text leads to each connection that is placed after it.
use Rattle.std.proofs.Common.{◌≡◌, ℕ, zero, suc, ◌≤◌, Bool, true, false, cond, ◌||◌, List, [], ◌∷◌, ◌++◌, length, Option, Some, None, IsSome, refl, sym, ap, ◌∙◌, subst, arith}
use Rattle.std.specs.Prelude.{slice_get, Contains}
use Rattle.std.specs.List.{list_any, flat_map}
use Rattle.std.specs.Option.{option_map, option_map_or}
use Rattle.std.proofs.lemmas.List.Concat.{flat_map-append}
use Rattle.sdl_ast.specs.declared.expression.Identifier.{Identifier}
use Rattle.sdl_ast.specs.declared.tree.Join as tree_join
use Rattle.sdl_ast.specs.declared.tree.End.TheVariants.{NextState, Stop, Join}
use Rattle.sdl_ast.specs.Plain.{Tree, Text, falls, ends, does, decides, Choice, nothing_else, otherwise, answer, PlainConnection, PlainProcess}
use Rattle.sdl_tables.specs.Names.{same_name, number_of, connector_names, connection_named}
use Rattle.sdl_sound.specs.Statements.{statements_of, choice_statements, statement_joins, joins_of}
use Rattle.sdl_sound.specs.Joins.{joins_at, comes_by, comes, reaches}
use Rattle.sdl_meaning.specs.Act.{is_truth}
use Rattle.sdl_meaning.specs.Outcomes.{Scope, connector_at}
use Rattle.sdl_meaning.specs.Named.{NamedText, NamedChoice, NamedConnections}
use Rattle.sdl_meaning.specs.Code.{number_or_zero, code_joins, else_joins, answers_joins, bodies_joins, text_at, joined, ArePlaced}
use Rattle.sdl_sound.proofs.Items.{Each, each_front, each_back, each_append, each_always, each_at as each_at_member}
use Rattle.sdl_meaning.proofs.Numbers.{number_there}
use Rattle.std.proofs.lemmas.Option.{slice_get-map as slice_map}
use Rattle.sdl_meaning.proofs.Joining.{has_connection, contains_map}
use Rattle.sdl_meaning.proofs.Measured.{all_placed, contains_later as later_there}
use Rattle.sdl_meaning.proofs.Acts.{joined_placed, placed_closed}
use Rattle.turn_code.proofs.Lists.{within}
use Rattle.std.proofs.lemmas.Bool.{or_left as or_one, or_right as or_other}
use Rattle.sdl_sound.proofs.Lists.{any_at as any_here}
use Rattle.sdl_sound.proofs.Numbered.{number_alike, same_back as same_other_way}

pub or_split : {A : Type 0} (a b : Bool) → a || b ≡ true → (a ≡ true → A) → (b ≡ true → A) → A
or_split true b e f g = f refl
or_split false b e f g = g e

each_holds : {A : Type 0} (P Q : A → Type 0) (xs : List A) → Each P xs → ((x : A) → P x → Q x) → Each Q xs
each_holds P Q [] h f = tt
each_holds P Q (x ∷ xs) h f = (f x h.0, each_holds P Q xs h.1 f)

each_itself : {A : Type 0} (xs : List A) → Each (Contains xs) xs
each_itself [] = tt
each_itself (x ∷ xs) = ((0, omega arith, refl), each_holds (Contains xs) (Contains (x ∷ xs)) xs (each_itself xs) (λ y h. later_there x xs y h))

-- If some item passes a test, it also passes a wider one.
any_wider : {A : Type 0} (p q : A → Bool) (xs : List A) → Each (λ x. p x ≡ true → q x ≡ true) xs → list_any p xs ≡ true → list_any q xs ≡ true
any_wider p q [] h e = e
any_wider p q (x ∷ xs) h e = or_split (p x) (list_any p xs) e (λ f. or_one (q x) (list_any q xs) (h.0 f)) (λ f. or_other (q x) (list_any q xs) (any_wider p q xs h.1 f))

any_then : {A B : Type 0} (p : A → Bool) (xs : List A) → Each (λ x. p x ≡ true → B) xs → list_any p xs ≡ true → B
any_then p [] h e = absurd (let k : ⊥ = cc in k)
any_then p (x ∷ xs) h e = or_split (p x) (list_any p xs) e h.0 (any_then p xs h.1)

module _ (c : Scope) where
  abbrev p : PlainProcess
  p = c.process

  -- ---- the JOINs of a text

  module _ (P : tree_join.Join → Type 0) where
    first_joins : (a b : List _) → Each P (flat_map statement_joins (a ++ b)) → Each P (flat_map statement_joins a)
    first_joins a b h = each_front P (flat_map statement_joins a) (flat_map statement_joins b) (subst (Each P) (flat_map-append statement_joins a b) h)

    other_joins : (a b : List _) → Each P (flat_map statement_joins (a ++ b)) → Each P (flat_map statement_joins b)
    other_joins a b h = each_back P (flat_map statement_joins a) (flat_map statement_joins b) (subst (Each P) (flat_map-append statement_joins a b) h)

    both_joins : (a b : List _) → Each P (flat_map statement_joins a) → Each P (flat_map statement_joins b) → Each P (flat_map statement_joins (a ++ b))
    both_joins a b h k = subst (Each P) (sym (flat_map-append statement_joins a b)) (each_append P (flat_map statement_joins a) (flat_map statement_joins b) h k)

    mutual
      -- What holds of the JOINs of a text holds of those of its code.
      code_each : (t : Text) → Each P (joins_of t) → Each P (code_joins c t)
      code_each falls h = tt
      code_each (ends (NextState n)) h = tt
      code_each (ends (Stop at)) h = tt
      code_each (ends (Join j)) h = h
      code_each (does a rest) h = code_each rest h
      code_each (decides at q choice rest) h =
          each_append P (cond (is_truth c q) (bodies_joins c choice) (else_joins c choice ++ answers_joins c choice)) (code_joins c rest)
          (by_sort (is_truth c q) (bodies_joins c choice) (else_joins c choice) (answers_joins c choice) (bodies_each choice q (first_joins (choice_statements q choice) (statements_of rest) h))
          (else_each choice q (first_joins (choice_statements q choice) (statements_of rest) h)) (answers_each choice q (first_joins (choice_statements q choice) (statements_of rest) h)))
          (code_each rest (other_joins (choice_statements q choice) (statements_of rest) h))
        where
          by_sort : (t : Bool) (x y z : List tree_join.Join) → Each P x → Each P y → Each P z → Each P (cond t x (y ++ z))
          by_sort true x y z a b d = a
          by_sort false x y z a b d = each_append P y z b d

      bodies_each : (choice : Choice) (q : Tree) → Each P (flat_map statement_joins (choice_statements q choice)) → Each P (bodies_joins c choice)
      bodies_each nothing_else q h = tt
      bodies_each (otherwise body) q h = code_each body h
      bodies_each (answer at rs body others) q h =
          each_append P (code_joins c body) (bodies_joins c others) (code_each body (first_joins (statements_of body) (choice_statements q others) h)) (bodies_each others q (other_joins (statements_of body) (choice_statements q others) h))

      else_each : (choice : Choice) (q : Tree) → Each P (flat_map statement_joins (choice_statements q choice)) → Each P (else_joins c choice)
      else_each nothing_else q h = tt
      else_each (otherwise body) q h = code_each body h
      else_each (answer at rs body others) q h = else_each others q (other_joins (statements_of body) (choice_statements q others) h)

      answers_each : (choice : Choice) (q : Tree) → Each P (flat_map statement_joins (choice_statements q choice)) → Each P (answers_joins c choice)
      answers_each nothing_else q h = tt
      answers_each (otherwise body) q h = tt
      answers_each (answer at rs body others) q h =
          each_append P (code_joins c body) (answers_joins c others) (code_each body (first_joins (statements_of body) (choice_statements q others) h)) (answers_each others q (other_joins (statements_of body) (choice_statements q others) h))

    -- What holds of the JOINs of the code of a text holds of those of the text.
    from_sort : (t : Bool) (x y z : List tree_join.Join) {A : Type 0} → Each P (cond t x (y ++ z)) → (Each P x → A) → (Each P y → Each P z → A) → A
    from_sort true x y z h f g = f h
    from_sort false x y z h f g = g (each_front P y z h) (each_back P y z h)

    mutual
      join_each : (t : Text) → Each P (code_joins c t) → Each P (joins_of t)
      join_each falls h = tt
      join_each (ends (NextState n)) h = tt
      join_each (ends (Stop at)) h = tt
      join_each (ends (Join j)) h = h
      join_each (does a rest) h = join_each rest h
      join_each (decides at q choice rest) h =
          let mine = cond (is_truth c q) (bodies_joins c choice) (else_joins c choice ++ answers_joins c choice) in
          both_joins (choice_statements q choice) (statements_of rest)
          (from_sort (is_truth c q) (bodies_joins c choice) (else_joins c choice) (answers_joins c choice) (each_front P mine (code_joins c rest) h) (from_bodies choice q) (from_answers choice q))
          (join_each rest (each_back P mine (code_joins c rest) h))

      from_bodies : (choice : Choice) (q : Tree) → Each P (bodies_joins c choice) → Each P (flat_map statement_joins (choice_statements q choice))
      from_bodies nothing_else q h = tt
      from_bodies (otherwise body) q h = join_each body h
      from_bodies (answer at rs body others) q h =
          both_joins (statements_of body) (choice_statements q others) (join_each body (each_front P (code_joins c body) (bodies_joins c others) h)) (from_bodies others q (each_back P (code_joins c body) (bodies_joins c others) h))

      from_answers : (choice : Choice) (q : Tree) → Each P (else_joins c choice) → Each P (answers_joins c choice) → Each P (flat_map statement_joins (choice_statements q choice))
      from_answers nothing_else q h k = tt
      from_answers (otherwise body) q h k = join_each body h
      from_answers (answer at rs body others) q h k =
          both_joins (statements_of body) (choice_statements q others) (join_each body (each_front P (code_joins c body) (answers_joins c others) k)) (from_answers others q h (each_back P (code_joins c body) (answers_joins c others) k))

  abbrev HasNumber : tree_join.Join → Type 0
  HasNumber j = IsSome (connector_at c j.connector)

  mutual
    named_joins : (t : Text) → NamedText c t → Each HasNumber (joins_of t)
    named_joins falls named = tt
    named_joins (ends (NextState n)) named = tt
    named_joins (ends (Stop at)) named = tt
    named_joins (ends (Join j)) named = (named, tt)
    named_joins (does a rest) named = named_joins rest named.1
    named_joins (decides at q choice rest) named = both_joins HasNumber (choice_statements q choice) (statements_of rest) (named_bodies choice q named.1) (named_joins rest named.2)

    named_bodies : (choice : Choice) (q : Tree) → NamedChoice c q choice → Each HasNumber (flat_map statement_joins (choice_statements q choice))
    named_bodies nothing_else q named = tt
    named_bodies (otherwise body) q named = named_joins body named
    named_bodies (answer at rs body others) q named = both_joins HasNumber (statements_of body) (choice_statements q others) (named_joins body named.1) (named_bodies others q named.2)

  pub code_join_in : (t : Text) (j : tree_join.Join) → Contains (code_joins c t) j → Contains (joins_of t) j
  code_join_in t j h = each_at_member (Contains (joins_of t)) (code_joins c t) j (code_each (Contains (joins_of t)) t (each_itself (joins_of t))) h

  join_in_code : (t : Text) (j : tree_join.Join) → Contains (joins_of t) j → Contains (code_joins c t) j
  join_in_code t j h = each_at_member (Contains (code_joins c t)) (joins_of t) j (join_each (Contains (code_joins c t)) t (each_itself (code_joins c t))) h

  module _ (connections : NamedConnections c) where
    -- The connection to which a JOIN leads has the name in the JOIN.
    named_so : (j : tree_join.Join) (k : PlainConnection) → HasNumber j → slice_get p.connections (number_or_zero (connector_at c j.connector)) ≡ Some k → same_name k.name.name j.connector.name ≡ true
    named_so j k some at =
        let r = has_connection c j.connector some in
        let n = number_or_zero (connector_at c j.connector) in
        let h = number_there (connector_names p) j.connector.name n r.number in
        let is : Some h.id ≡ Some k.name = sym h.there ∙ slice_map (λ (k : PlainConnection). k.name) p.connections n ∙ ap (option_map (λ (k : PlainConnection). k.name)) at in
        let same : h.id ≡ k.name = cc in
        same_other_way j.connector.name k.name.name (subst (λ (id : Identifier). same_name j.connector.name id.name ≡ true) same h.same)

    -- Each spelling of the name of a connection leads to it.
    called : (n : ℕ) (k : PlainConnection) (y : List ℕ) → slice_get p.connections n ≡ Some k → same_name k.name.name y ≡ true → connection_named p y ≡ Some k
    called n k y at same =
        let same_number : connector_at c (record { name = y; at = 0 }) ≡ Some n = sym (number_alike (connector_names p) k.name.name y same) ∙ connections.numbered n k at in
        let r = has_connection c (record { name = y; at = 0 }) (subst IsSome (sym same_number) refl) in
        let there : slice_get p.connections n ≡ Some r.connection = ap (λ o. slice_get p.connections (number_or_zero o)) (sym same_number) ∙ r.there in
        r.named ∙ sym there ∙ at

    joins_called : (y : List ℕ) (k : PlainConnection) → connection_named p y ≡ Some k → joins_at p y ≡ joins_of k.text
    joins_called y k e = ap (λ o. option_map_or (λ (k : PlainConnection). joins_of k.text) o []) e

    -- One more JOIN.
    module _ (m : ℕ) (k : PlainConnection) (j : tree_join.Join) (x : List ℕ) (at : slice_get p.connections m ≡ Some k) (there : Contains (joins_of k.text) j) (same : same_name x j.connector.name ≡ true) where
      at_once : (f : ℕ) → comes_by p f j.connector.name x ≡ true
      at_once zero = same
      at_once (suc f) = or_one (same_name x j.connector.name) (list_any (λ i. comes_by p f i.connector.name x) (joins_at p j.connector.name)) same

      steps_on : (f : ℕ) (y : List ℕ) → same_name k.name.name y ≡ true → comes_by p (suc f) y x ≡ true
      steps_on f y s =
          or_other (same_name x y) (list_any (λ j. comes_by p f j.connector.name x) (joins_at p y))
          (subst (λ js. list_any (λ (j : tree_join.Join). comes_by p f j.connector.name x) js ≡ true) (sym (joins_called y k (called m k y at s))) (any_here (λ (j : tree_join.Join). comes_by p f j.connector.name x) (joins_of k.text) j there (at_once f)))

      one_more : (f : ℕ) (y : List ℕ) → comes_by p f y k.name.name ≡ true → comes_by p (suc f) y x ≡ true
      one_more zero y e = steps_on zero y e
      one_more (suc f) y e =
          let wider = any_wider (λ (j : tree_join.Join). comes_by p f j.connector.name k.name.name) (λ (j : tree_join.Join). comes_by p (suc f) j.connector.name x) (joins_at p y)
          (each_always (λ (j : tree_join.Join). comes_by p f j.connector.name k.name.name ≡ true → comes_by p (suc f) j.connector.name x ≡ true) (λ j. one_more f j.connector.name) (joins_at p y)) in
          or_split (same_name k.name.name y) (list_any (λ j. comes_by p f j.connector.name k.name.name) (joins_at p y)) e
          (λ s. steps_on (suc f) y s)
          (λ s. or_other (same_name x y) (list_any (λ j. comes_by p (suc f) j.connector.name x) (joins_at p y)) (wider s))

    has_number : (n : ℕ) (k : PlainConnection) (j : tree_join.Join) → slice_get p.connections n ≡ Some k → Contains (joins_of k.text) j → HasNumber j
    has_number n k j at there = each_at_member HasNumber (joins_of k.text) j (named_joins k.text (connections.texts n k at).text) there

    -- No more JOINs are needed than the connection has steps.
    enough : (f g n : ℕ) (k : PlainConnection) (y x : List ℕ) → slice_get p.connections n ≡ Some k → connection_named p y ≡ Some k → connections.steps n ≤ g → comes_by p f y x ≡ true → comes_by p g y x ≡ true
    enough zero zero n k y x at named less e = e
    enough zero (suc g) n k y x at named less e = or_one (same_name x y) (list_any (λ j. comes_by p g j.connector.name x) (joins_at p y)) e
    enough (suc f) zero n k y x at named less e =
        or_split (same_name x y) (list_any (λ j. comes_by p f j.connector.name x) (joins_at p y)) e (λ s. s)
        (λ s. any_then (λ (j : tree_join.Join). comes_by p f j.connector.name x) (joins_of k.text)
        (each_holds (Contains (joins_of k.text)) (λ (j : tree_join.Join). comes_by p f j.connector.name x ≡ true → same_name x y ≡ true) (joins_of k.text) (each_itself (joins_of k.text))
        (λ j there t. let r = has_connection c j.connector (has_number n k j at there) in
        let fewer = connections.fewer n (number_or_zero (connector_at c j.connector)) k j at there r.number in absurd (omega (arith, fewer, less))))
        (subst (λ js. list_any (λ (j : tree_join.Join). comes_by p f j.connector.name x) js ≡ true) (joins_called y k named) s))
    enough (suc f) (suc g) n k y x at named less e =
        let wider = any_wider (λ (j : tree_join.Join). comes_by p f j.connector.name x) (λ (j : tree_join.Join). comes_by p g j.connector.name x) (joins_of k.text)
        (each_holds (Contains (joins_of k.text)) (λ (j : tree_join.Join). comes_by p f j.connector.name x ≡ true → comes_by p g j.connector.name x ≡ true) (joins_of k.text) (each_itself (joins_of k.text))
        (λ j there t. let r = has_connection c j.connector (has_number n k j at there) in
        let m = number_or_zero (connector_at c j.connector) in
        let fewer = connections.fewer n m k j at there r.number in
        enough f g m r.connection j.connector.name x r.there r.named (omega (arith, fewer, less)) t)) in
        or_split (same_name x y) (list_any (λ j. comes_by p f j.connector.name x) (joins_at p y)) e
        (λ s. or_one (same_name x y) (list_any (λ j. comes_by p g j.connector.name x) (joins_at p y)) s)
        (λ s. or_other (same_name x y) (list_any (λ j. comes_by p g j.connector.name x) (joins_at p y))
        (subst (λ js. list_any (λ (j : tree_join.Join). comes_by p g j.connector.name x) js ≡ true) (sym (joins_called y k named))
        (wider (subst (λ js. list_any (λ (j : tree_join.Join). comes_by p f j.connector.name x) js ≡ true) (joins_called y k named) s))))

    -- ---- the connections that are placed

    -- The text leads to the connection by one of its JOINs and `fuel` more.
    record Comes (t : Text) (k : PlainConnection) : Type 0 where
      join : tree_join.Join
      there : Contains (joins_of t) join
      fuel : ℕ
      comes_there : comes_by p fuel join.connector.name k.name.name ≡ true

    module _ (t : Text) (named : NamedText c t) (ns : List ℕ) (placed : ArePlaced c t ns) where
      abbrev Q : ℕ → Type 0
      Q n = (k : PlainConnection) → slice_get p.connections n ≡ Some k → Comes t k

      first_comes : (j : tree_join.Join) → Contains (code_joins c t) j → Q (number_or_zero (connector_at c j.connector))
      first_comes j h k at =
          let there = code_join_in t j h in
          record { join = j; there = there; fuel = 0; comes_there = named_so j k (each_at_member HasNumber (joins_of t) j (named_joins t named) there) at }

      later_comes : (n : ℕ) → Q n → (j : tree_join.Join) → Contains (code_joins c (text_at c n)) j → Q (number_or_zero (connector_at c j.connector))
      later_comes n q j h k at = by_connection (slice_get p.connections n) refl
        where
          by_connection : (o : Option PlainConnection) → slice_get p.connections n ≡ o → Comes t k
          by_connection None e =
              let none : text_at c n ≡ falls = ap (λ o. option_map_or (λ (k : PlainConnection). k.text) o falls) e in
              let in_none = subst (λ t. Contains (code_joins c t) j) none h in absurd (omega (arith, in_none.1))
          by_connection (Some m) e =
              let is : text_at c n ≡ m.text = ap (λ o. option_map_or (λ (k : PlainConnection). k.text) o falls) e in
              let there = code_join_in m.text j (subst (λ t. Contains (code_joins c t) j) is h) in
              let r = q m e in
              record { join = r.join; there = r.there; fuel = suc r.fuel; comes_there = one_more n m j k.name.name e there (named_so j k (has_number n m j e there) at) r.fuel r.join.connector.name r.comes_there }

      -- The text leads to each connection that is placed.
      pub placed_reached : (n : ℕ) (k : PlainConnection) → Contains ns n → slice_get p.connections n ≡ Some k → reaches p t k.name.name ≡ true
      placed_reached n k h at =
          let r = all_placed c t ns placed Q first_comes later_comes n h k at in
          let y = r.join.connector in
          let s = has_connection c y (each_at_member HasNumber (joins_of t) r.join (named_joins t named) r.there) in
          let m = number_or_zero (connector_at c y) in
          let few = connections.few m (within p.connections m s.connection s.there) in
          any_here (λ (j : tree_join.Join). comes p j.connector.name k.name.name) (joins_of t) r.join r.there
          (enough r.fuel (length p.connections) m s.connection y.name k.name.name s.there s.named (omega (arith, few)) r.comes_there)

      abbrev t0 : Text
      t0 = t

      -- Each connection that is placed exists.
      pub record Stands (n : ℕ) : Type 0 where
        pub connection : PlainConnection
        pub there : slice_get p.connections n ≡ Some connection

      stands_first : (j : tree_join.Join) → Contains (code_joins c t) j → Stands (number_or_zero (connector_at c j.connector))
      stands_first j h =
          let r = has_connection c j.connector (each_at_member HasNumber (joins_of t) j (named_joins t named) (code_join_in t j h)) in
          record { connection = r.connection; there = r.there }

      stands_later : (n : ℕ) → Stands n → (j : tree_join.Join) → Contains (code_joins c (text_at c n)) j → Stands (number_or_zero (connector_at c j.connector))
      stands_later n s j h =
          let is : text_at c n ≡ s.connection.text = ap (λ o. option_map_or (λ (k : PlainConnection). k.text) o falls) s.there in
          let there = code_join_in s.connection.text j (subst (λ t. Contains (code_joins c t) j) is h) in
          let r = has_connection c j.connector (has_number n s.connection j s.there there) in
          record { connection = r.connection; there = r.there }

      pub placed_stands : (n : ℕ) → Contains ns n → Stands n
      placed_stands n h = all_placed c t ns placed Stands stands_first stands_later n h

      -- A placed connection leads only to placed ones.
      comes_placed : (f m n : ℕ) (k z : PlainConnection) (y : List ℕ) → Contains ns m → slice_get p.connections m ≡ Some z → connection_named p y ≡ Some z → number_of (connector_names p) y ≡ Some m
          → slice_get p.connections n ≡ Some k → comes_by p f y k.name.name ≡ true → Contains ns n
      comes_placed zero m n k z y there at is number here e =
          let same : Some m ≡ Some n = sym number ∙ sym (number_alike (connector_names p) k.name.name y e) ∙ connections.numbered n k here in
          let g : m ≡ n = cc in
          subst (Contains ns) g there
      comes_placed (suc f) m n k z y there at is number here e =
          or_split (same_name k.name.name y) (list_any (λ j. comes_by p f j.connector.name k.name.name) (joins_at p y)) e
          (λ s. let same : Some m ≡ Some n = sym number ∙ sym (number_alike (connector_names p) k.name.name y s) ∙ connections.numbered n k here in
          let g : m ≡ n = cc in
          subst (Contains ns) g there)
          (λ s. any_then (λ (j : tree_join.Join). comes_by p f j.connector.name k.name.name) (joins_of z.text)
          (each_holds (Contains (joins_of z.text)) (λ (j : tree_join.Join). comes_by p f j.connector.name k.name.name ≡ true → Contains ns n) (joins_of z.text) (each_itself (joins_of z.text))
          (λ j h t. let r = has_connection c j.connector (has_number m z j at h) in
          let text : text_at c m ≡ z.text = ap (λ o. option_map_or (λ (k : PlainConnection). k.text) o falls) at in
          let o = number_or_zero (connector_at c j.connector) in
          let next = placed_closed c t0 ns placed m o there (subst (λ t. Contains (joined c t) o) (sym text) (contains_map (λ (j : tree_join.Join). number_or_zero (connector_at c j.connector)) (code_joins c z.text) j (join_in_code z.text j h))) in
          comes_placed f o n k r.connection j.connector.name next r.there r.named r.number here t))
          (subst (λ js. list_any (λ (j : tree_join.Join). comes_by p f j.connector.name k.name.name) js ≡ true) (joins_called y z is) s))

      -- Each connection to which a text leads is placed.
      pub reached_placed : (n : ℕ) (k : PlainConnection) → slice_get p.connections n ≡ Some k → reaches p t0 k.name.name ≡ true → Contains ns n
      reached_placed n k here e =
          any_then (λ (j : tree_join.Join). comes p j.connector.name k.name.name) (joins_of t0)
          (each_holds (Contains (joins_of t0)) (λ (j : tree_join.Join). comes p j.connector.name k.name.name ≡ true → Contains ns n) (joins_of t0) (each_itself (joins_of t0))
          (λ j h t. let r = has_connection c j.connector (each_at_member HasNumber (joins_of t0) j (named_joins t0 named) h) in
          let o = number_or_zero (connector_at c j.connector) in
          let next = joined_placed c t0 ns placed o (contains_map (λ (j : tree_join.Join). number_or_zero (connector_at c j.connector)) (code_joins c t0) j (join_in_code t0 j h)) in
          comes_placed (length p.connections) o n k r.connection j.connector.name next r.there r.named r.number here t))
          e
