-- Connections by name and by number.
use Rattle.std.proofs.Common.{◌≡◌, ℕ, zero, suc, ◌<◌, ◌≤◌, Bool, true, false, ◌||◌, if◌then◌else◌, List, [], ◌∷◌, ◌++◌, length, cond, map, refl, ap, sym, ◌∙◌, subst, arith, inl, inr, Option, Some, None, get_or, true≢false}
use Rattle.std.specs.Prelude.{slice_get, All, Contains, nat_eq, find, option_to_list}
use Rattle.std.specs.Global.{Vec}
use Rattle.std.specs.List.{list_any, flat_map}
use Rattle.std.specs.Option.{option_map, option_map_or}
use Rattle.std.proofs.lemmas.Bool.{cases_order, cases_Bool, eqb-true, eq-eqb}
use Rattle.std.proofs.lemmas.List.{length-map}
use Rattle.std.proofs.lemmas.List.Folds.{list_any-append}
use Rattle.std.proofs.lemmas.List.Elements.{Contains-append_left, Contains-append_right, Contains-append_cases, Contains-push}
use Rattle.std.proofs.lemmas.List.Quantifiers.{position-Some}
use Rattle.std.proofs.lemmas.Option.{slice_get_within, slice_get-get_or, slice_get-map, get_or_from_slice_get}
use Rattle.std.proofs.Math.Bool.{or-false}
use Rattle.sdl_ast.specs.declared.expression.Identifier.{Identifier}
use Rattle.sdl_ast.specs.declared.tree.Join.{Join}
use Rattle.sdl_ast.specs.Plain.{PlainConnection, PlainProcess}
use Rattle.sdl_tables.specs.Names.{same_name, is_in, number_of, connector_names, connection_named}
use Rattle.sdl_tables.specs.Scopes.{repeats, process_scopes}
use Rattle.sdl_sound.specs.Statements.{joins_of}
use Rattle.sdl_sound.specs.Joins.{joins_at, comes_by, comes, comes_back, connection_cycles, process_cycles}
use Rattle.sdl_measures.specs.Links.{nexts, goes_by, goes, any_goes, graph_in, IsOrderOf, Returns}
use Rattle.sdl_sound.specs.Orders.{targets_of, links_of, IsOrder}
use Rattle.sdl_measures.specs.Searched.{AreMarks}
use Rattle.sdl_sound.proofs.Lists.{get_one}
use Rattle.sdl_measures.proofs.Ways.{goes_cases}
use Rattle.sdl_sound.proofs.Numbered.{folded_same, name_back, some_number, number_alike as one_number, unnumbered, later_differs}
use Rattle.plain_laws.proofs.Places.{at_among, no_place}
use Rattle.plain_laws.proofs.Lists.{append-nil_left, append-nil_right}

-- ---- names

same_number : (ids : List Identifier) (x y : List ℕ) (n m : ℕ) → number_of ids y ≡ Some n → number_of ids x ≡ Some m → same_name x y ≡ nat_eq n m
same_number ids x y n m at_y at_x = elim (cases_Bool (same_name x y)) [
  | inl same ↦
      let e : n ≡ m = get_one (number_of ids y) n m at_y (sym (one_number ids x y same) ∙ at_x) in
      same ∙ sym (eq-eqb n m e)
  | inr other ↦ elim (cases_Bool (nat_eq n m)) [
    | inl eq ↦
        let e : n ≡ m = eqb-true n m eq in
        let d : Identifier = record { at = 0; name = [] } in
        let here = position-Some (λ (id : Identifier). same_name y id.name) ids n d at_y in
        let there = position-Some (λ (id : Identifier). same_name x id.name) ids m d at_x in
        let there' : same_name x (get_or ids n d).name ≡ true = subst (λ k. same_name x (get_or ids k d).name ≡ true) (sym e) there.1 in
        absurd (true≢false (sym (name_back x y (get_or ids n d).name there' here.1) ∙ other))
    | inr ne ↦ other ∙ sym ne
  ]
]

no_number : (ids : List Identifier) (x y : List ℕ) (m : ℕ) → number_of ids y ≡ None → number_of ids x ≡ Some m → same_name x y ≡ false
no_number ids x y m none at = elim (cases_Bool (same_name x y)) [
  | inl same ↦ let bad : None ≡ Some m = sym none ∙ sym (one_number ids x y same) ∙ at in absurd (cc)
  | inr other ↦ other
]

-- ---- the connection with a name

find_first : {A : Type 0} (p : A → Bool) (xs : List A) (n : ℕ) (x : A) → slice_get xs n ≡ Some x → p x ≡ true
    → ((k : ℕ) → k < n → p (get_or xs k x) ≡ false) → find p xs ≡ Some x
find_first p [] n x e h none = let bad : None ≡ Some x = e in absurd (cc)
find_first p (y ∷ xs) zero x e h none =
    let same : Some y ≡ Some x = e in
    let is : y ≡ x = cc in
    ap (λ b. cond b (Some y) (find p xs)) (ap p is ∙ h) ∙ e
find_first p (y ∷ xs) (suc n) x e h none =
    ap (λ b. cond b (Some y) (find p xs)) (none 0 (omega arith)) ∙ find_first p xs n x e h (λ k less. none (suc k) (omega (arith, less)))

-- The connection with this name has number n.
pub record IsNumbered (p : PlainProcess) (y : List ℕ) (n : ℕ) : Type 0 where
  pub connection : PlainConnection
  pub there : slice_get p.connections n ≡ Some connection
  pub named : connection_named p y ≡ Some connection

get_name : (cs : List PlainConnection) (k : ℕ) (d : PlainConnection) → get_or (map (λ c. c.name) cs) k d.name ≡ (get_or cs k d).name
get_name [] k d = refl
get_name (c ∷ cs) zero d = refl
get_name (c ∷ cs) (suc k) d = get_name cs k d

numbered_at : (p : PlainProcess) (y : List ℕ) (n : ℕ) (o : Option PlainConnection) → slice_get p.connections n ≡ o → n < length p.connections
    → number_of (connector_names p) y ≡ Some n → IsNumbered p y n
numbered_at p y n None e within number = absurd (no_place p.connections n within e)
numbered_at p y n (Some c) e within number =
    let at = position-Some (λ (id : Identifier). same_name y id.name) (connector_names p) n c.name number in
    let own : get_or p.connections n c ≡ c = get_or_from_slice_get p.connections n c c e in
    let here : same_name y c.name.name ≡ true = subst (λ (x : PlainConnection). same_name y x.name.name ≡ true) own (subst (λ (i : Identifier). same_name y i.name ≡ true) (get_name p.connections n c) at.1) in
    record {
      connection = c;
      there = e;
      named = find_first (λ c. same_name y c.name.name) p.connections n c e here
          (λ k less. subst (λ (i : Identifier). same_name y i.name ≡ false) (get_name p.connections k c) (at.2 k less));
    }

pub numbered : (p : PlainProcess) (y : List ℕ) (n : ℕ) → number_of (connector_names p) y ≡ Some n → IsNumbered p y n
numbered p y n e =
    let first : n < length (connector_names p) = (position-Some (λ (id : Identifier). same_name y id.name) (connector_names p) n (record { at = 0; name = [] }) e).0 in
    let within : n < length p.connections = omega (arith, first, length-map p.connections (λ c. c.name)) in
    numbered_at p y n (slice_get p.connections n) refl within e

-- ---- paths by names, and paths by numbers

any_first : (p : PlainProcess) (test : List ℕ → Bool) (tell : ℕ → Bool) (j : Join) (joins : List Join) (o : Option ℕ) → number_of (connector_names p) j.connector.name ≡ o
    → ((y : List ℕ) (n : ℕ) → number_of (connector_names p) y ≡ Some n → test y ≡ tell n) → ((y : List ℕ) → number_of (connector_names p) y ≡ None → test y ≡ false)
    → (test j.connector.name || list_any (λ j. test j.connector.name) joins)
    ≡ (list_any tell (option_to_list (number_of (connector_names p) j.connector.name)) || list_any (λ j. test j.connector.name) joins)
any_first p test tell j joins None e some none =
    ap (λ b. b || list_any (λ (j : Join). test j.connector.name) joins) (none j.connector.name e ∙ sym (ap (λ o. list_any tell (option_to_list o)) e))
any_first p test tell j joins (Some n) e some none =
    ap (λ b. b || list_any (λ (j : Join). test j.connector.name) joins)
    (some j.connector.name n e ∙ sym (or-false (tell n)) ∙ sym (ap (λ o. list_any tell (option_to_list o)) e))

-- The links of a connection.
pub next_is : (p : PlainProcess) (n : ℕ) (c : PlainConnection) → slice_get p.connections n ≡ Some c → nexts (links_of p) n ≡ targets_of p (joins_of c.text)
next_is p n c there =
    ap (λ (o : Option (List ℕ)). option_map_or (λ (ts : List ℕ). ts) o [])
    (slice_get-map (λ (c : PlainConnection). targets_of p (joins_of c.text)) p.connections n ∙ ap (option_map (λ (c : PlainConnection). targets_of p (joins_of c.text))) there)

any_joins : (p : PlainProcess) (test : List ℕ → Bool) (tell : ℕ → Bool) (joins : List Join)
    → ((y : List ℕ) (n : ℕ) → number_of (connector_names p) y ≡ Some n → test y ≡ tell n) → ((y : List ℕ) → number_of (connector_names p) y ≡ None → test y ≡ false)
    → list_any (λ j. test j.connector.name) joins ≡ list_any tell (targets_of p joins)
any_joins p test tell [] some none = refl
any_joins p test tell (j ∷ joins) some none =
    let rest = any_joins p test tell joins some none in
    any_first p test tell j joins (number_of (connector_names p) j.connector.name) refl some none
    ∙ ap (λ b. list_any tell (option_to_list (number_of (connector_names p) j.connector.name)) || b) rest
    ∙ sym (list_any-append tell (option_to_list (number_of (connector_names p) j.connector.name)) (targets_of p joins))

mutual
  pub comes_by_number : (p : PlainProcess) (k : ℕ) (x y : List ℕ) (n m : ℕ) → number_of (connector_names p) y ≡ Some n → number_of (connector_names p) x ≡ Some m
      → comes_by p k y x ≡ goes_by (links_of p) k n m
  comes_by_number p zero x y n m at_y at_x = same_number (connector_names p) x y n m at_y at_x
  comes_by_number p (suc k) x y n m at_y at_x =
      let c = numbered p y n at_y in
      let joins : joins_at p y ≡ joins_of c.connection.text = ap (λ o. option_map_or (λ (c : PlainConnection). joins_of c.text) o []) c.named in
      let next : nexts (links_of p) n ≡ targets_of p (joins_of c.connection.text) = next_is p n c.connection c.there in
      let rest : list_any (λ j. comes_by p k j.connector.name x) (joins_at p y) ≡ list_any (λ t. goes_by (links_of p) k t m) (nexts (links_of p) n) =
      ap (list_any (λ (j : Join). comes_by p k j.connector.name x)) joins
      ∙ any_joins p (λ z. comes_by p k z x) (λ t. goes_by (links_of p) k t m) (joins_of c.connection.text) (λ z t at. comes_by_number p k x z t m at at_x) (λ z none. comes_by_none p k x z m none at_x)
      ∙ ap (list_any (λ t. goes_by (links_of p) k t m)) (sym next) in
      ap (λ b. b || list_any (λ j. comes_by p k j.connector.name x) (joins_at p y)) (same_number (connector_names p) x y n m at_y at_x) ∙ ap (λ b. nat_eq n m || b) rest

  comes_by_none : (p : PlainProcess) (k : ℕ) (x y : List ℕ) (m : ℕ) → number_of (connector_names p) y ≡ None → number_of (connector_names p) x ≡ Some m
      → comes_by p k y x ≡ false
  comes_by_none p zero x y m none at_x = no_number (connector_names p) x y m none at_x
  comes_by_none p (suc k) x y m none at_x =
      let joins : joins_at p y ≡ [] = ap (λ o. option_map_or (λ (c : PlainConnection). joins_of c.text) o []) (unnumbered p y none) in
      ap (λ b. b || list_any (λ j. comes_by p k j.connector.name x) (joins_at p y)) (no_number (connector_names p) x y m none at_x)
      ∙ ap (list_any (λ (j : Join). comes_by p k j.connector.name x)) joins

pub links_length : (p : PlainProcess) → length (links_of p) ≡ length p.connections
links_length p = length-map p.connections (λ c. targets_of p (joins_of c.text))

pub comes_is : (p : PlainProcess) (x y : List ℕ) (n m : ℕ) → number_of (connector_names p) y ≡ Some n → number_of (connector_names p) x ≡ Some m
    → comes p y x ≡ goes (links_of p) n m
comes_is p x y n m at_y at_x = comes_by_number p (length p.connections) x y n m at_y at_x ∙ ap (λ k. goes_by (links_of p) k n m) (sym (links_length p))

pub comes_none : (p : PlainProcess) (x y : List ℕ) (m : ℕ) → number_of (connector_names p) y ≡ None → number_of (connector_names p) x ≡ Some m → comes p y x ≡ false
comes_none p x y m none at_x = comes_by_none p (length p.connections) x y m none at_x

-- Some JOIN leads to connector x exactly if the graph has a path to its number.
joins_reach : (p : PlainProcess) (joins : List Join) (x : List ℕ) (m : ℕ) → number_of (connector_names p) x ≡ Some m
    → list_any (λ j. comes p j.connector.name x) joins ≡ any_goes (links_of p) (targets_of p joins) m
joins_reach p joins x m at_x =
    any_joins p (λ y. comes p y x) (λ n. goes (links_of p) n m) joins (λ y n at. comes_is p x y n m at at_x) (λ y none. comes_none p x y m none at_x)

-- ---- lists without duplicate names

one_place : (before ids : List Identifier) (i j : ℕ) (a b : Identifier) → repeats before ids ≡ []
    → slice_get ids i ≡ Some a → slice_get ids j ≡ Some b → i < j → same_name b.name a.name ≡ false
one_place before [] i j a b h p q less = let bad : None ≡ Some a = p in absurd (cc)
one_place before (id ∷ ids) i zero a b h p q less = absurd (omega (arith, less))
one_place before (id ∷ ids) zero (suc j) a b h p q less =
    let is : Some id ≡ Some a = p in
    let e : id ≡ a = cc in
    subst (λ (u : Identifier). same_name b.name u.name ≡ false) e
    (later_differs before ids id b j (append-nil_right (if is_in before id.name then id.at ∷ [] else []) (repeats (before ++ id ∷ []) ids) h) q)
one_place before (id ∷ ids) (suc i) (suc j) a b h p q less =
    one_place (before ++ id ∷ []) ids i j a b (append-nil_right _ _ h) p q (omega (arith, less))

first_own : (ids : List Identifier) (i : ℕ) (id : Identifier) (o : Option ℕ) → repeats [] ids ≡ [] → slice_get ids i ≡ Some id → number_of ids id.name ≡ o → o ≡ Some i
first_own ids i id None distinct there e = absurd (some_number ids id.name i id there (folded_same id.name id.name refl) e)
first_own ids i id (Some k) distinct there e =
    let at = position-Some (λ (x : Identifier). same_name id.name x.name) ids k id e in
    let first : slice_get ids k ≡ Some (get_or ids k id) = slice_get-get_or ids k id at.0 in
    elim (cases_order k i) [
      | inl same ↦ ap Some same
      | inr other ↦ elim other [
        | inl before ↦
            let differs = one_place [] ids k i (get_or ids k id) id distinct first there before in
            absurd (true≢false (sym at.1 ∙ differs))
        | inr after ↦
            let own : get_or ids i id ≡ id = get_or_from_slice_get ids i id id there in
            let differs : same_name id.name id.name ≡ false = subst (λ (x : Identifier). same_name id.name x.name ≡ false) own (at.2 i after) in
            absurd (true≢false (sym (folded_same id.name id.name refl) ∙ differs))
      ]
    ]

-- The number of a connection is its index.
pub own_number : (p : PlainProcess) (i : ℕ) (c : PlainConnection) → repeats [] (connector_names p) ≡ [] → slice_get p.connections i ≡ Some c
    → number_of (connector_names p) c.name.name ≡ Some i
own_number p i c distinct there =
    first_own (connector_names p) i c.name (number_of (connector_names p) c.name.name) distinct
    (slice_get-map (λ (c : PlainConnection). c.name) p.connections i ∙ ap (option_map (λ (c : PlainConnection). c.name)) there) refl

-- The names of connections are among the names that must be distinct.
pub distinct_connectors : (p : PlainProcess) → flat_map (repeats []) (process_scopes p) ≡ [] → repeats [] (connector_names p) ≡ []
distinct_connectors p h = append-nil_left _ _ (append-nil_right _ _ (append-nil_right _ _ h))

-- ---- marks

same_map : {A : Type 0} (f : A → Bool) (xs : List A) (bs : List Bool) → length bs ≡ length xs
    → ((i : ℕ) (x : A) (b : Bool) → slice_get xs i ≡ Some x → slice_get bs i ≡ Some b → b ≡ f x) → bs ≡ map f xs
same_map f [] [] n h = refl
same_map f [] (b ∷ bs) n h = absurd (omega (arith, n))
same_map f (x ∷ xs) [] n h = absurd (omega (arith, n))
same_map f (x ∷ xs) (b ∷ bs) n h =
    ap (λ y. y ∷ bs) (h 0 x b refl refl) ∙ ap (λ l. f x ∷ l) (same_map f xs bs (omega (arith, n)) (λ i. h (suc i)))

-- The marks of the connections that JOINs reach.
pub reached_marks : (p : PlainProcess) (joins : List Join) (marks : List Bool) → repeats [] (connector_names p) ≡ []
    → AreMarks (links_of p) (targets_of p joins) marks → marks ≡ map (λ c. list_any (λ j. comes p j.connector.name c.name.name) joins) p.connections
reached_marks p joins marks distinct are =
    same_map (λ c. list_any (λ j. comes p j.connector.name c.name.name) joins) p.connections marks (are.count ∙ links_length p) (λ i c b there mark.
    are.each i b mark ∙ sym (joins_reach p joins c.name.name i (own_number p i c distinct there)))

-- The graph has as many nodes as there are connections.
pub within_links : (p : PlainProcess) (g : List (Vec ℕ)) (ns : List ℕ) → graph_in g ≡ links_of p → All (λ n. n < length p.connections) ns → All (λ n. n < length g) ns
within_links p g ns is within =
    let count : length g ≡ length p.connections = sym (length-map g (λ v. v.items)) ∙ (ap length is ∙ links_length p) in
    subst (λ k. All (λ n. n < k) ns) (sym count) within

-- ---- orders, and JOINs that lead back

among_at_place : {A : Type 0} (f : A → Option ℕ) (xs : List A) (i : ℕ) (x : A) (n : ℕ) → slice_get xs i ≡ Some x → f x ≡ Some n
    → Contains (flat_map (λ x. option_to_list (f x)) xs) n
among_at_place f [] i x n there e = let bad : None ≡ Some x = there in absurd (cc)
among_at_place f (y ∷ xs) zero x n there e =
    let is : Some y ≡ Some x = there in
    let same : y ≡ x = cc in
    Contains-append_left (option_to_list (f y)) (flat_map (λ x. option_to_list (f x)) xs) n
    (subst (λ o. Contains (option_to_list o) n) (sym (ap f same ∙ e)) (Contains-push [] n))
among_at_place f (y ∷ xs) (suc i) x n there e =
    Contains-append_right (option_to_list (f y)) (flat_map (λ x. option_to_list (f x)) xs) n (among_at_place f xs i x n there e)

-- The number of the connection that a JOIN leads to is among the targets.
pub target_among : (p : PlainProcess) (joins : List Join) (j : Join) (n : ℕ) → Contains joins j → number_of (connector_names p) j.connector.name ≡ Some n
    → Contains (targets_of p joins) n
target_among p joins j n among e =
    let at = at_among joins j among in
    among_at_place (λ (j : Join). number_of (connector_names p) j.connector.name) joins at.0 j n at.1 e

in_option : (o : Option ℕ) (n : ℕ) → Contains (option_to_list o) n → o ≡ Some n
in_option None n among = absurd (omega (arith, among.1))
in_option (Some m) n (zero, less, is) = ap Some is
in_option (Some m) n (suc k, less, is) = absurd (omega (arith, less))

-- Each target is the number of a connection that some JOIN leads to.
join_of_target : (p : PlainProcess) (joins : List Join) (n : ℕ) → Contains (targets_of p joins) n
    → (j : Join) × Contains joins j × (number_of (connector_names p) j.connector.name ≡ Some n)
join_of_target p [] n among = absurd (omega (arith, among.1))
join_of_target p (j ∷ joins) n among = elim (Contains-append_cases (option_to_list (number_of (connector_names p) j.connector.name)) (targets_of p joins) n among) [
  | inl here ↦ (j, (0, omega arith, refl), in_option (number_of (connector_names p) j.connector.name) n here)
  | inr later ↦
      let found = join_of_target p joins n later in
      (found.0, (suc found.1.0, omega (arith, found.1.1), found.1.2), found.2)
]

pub order_is : (p : PlainProcess) (order : List ℕ) → IsOrderOf (links_of p) order → IsOrder p order
order_is p order is = record {
  count = is.count ∙ links_length p;
  known = λ i n e. subst (λ k. n < k) (links_length p) (is.known i n e);
  each = λ n within. is.each n (subst (λ k. n < k) (sym (links_length p)) within);
  once = is.once;
  behind = λ i n m c j e there among number.
      is.behind i n m e (subst (λ (l : List ℕ). Contains l m) (sym (next_is p n c there)) (target_among p (joins_of c.text) j m among number));
}

-- A path never leads to a node later in the order.
order_goes : (g : List (List ℕ)) (order : List ℕ) (k a b i j : ℕ) → IsOrderOf g order → slice_get order i ≡ Some a → slice_get order j ≡ Some b
    → goes_by g k a b ≡ true → j ≤ i
order_goes g order zero a b i j is at_a at_b way =
    let same : a ≡ b = eqb-true a b way in
    let e : i ≡ j = is.once i j a at_a (at_b ∙ ap Some (sym same)) in
    omega (arith, e)
order_goes g order (suc k) a b i j is at_a at_b way = elim (goes_cases g k a b way) [
  | inl same ↦
      let e : i ≡ j = is.once i j a at_a (at_b ∙ ap Some (sym same)) in
      omega (arith, e)
  | inr (t, among, rest) ↦
      let at = is.behind i a t at_a among in
      let before : j ≤ at.0 = order_goes g order k t b at.0 j is at.2 at_b rest in
      omega (arith, at.1, before)
]

nothing_from : {A B : Type 0} (f : A → List B) (xs : List A) → ((x : A) → Contains xs x → f x ≡ []) → flat_map f xs ≡ []
nothing_from f [] h = refl
nothing_from f (x ∷ xs) h =
    ap (λ l. l ++ flat_map f xs) (h x (0, omega arith, refl)) ∙ nothing_from f xs (λ y among. h y (suc among.0, omega (arith, among.1), among.2))

-- If there is an order, no path leads back.
no_return : (p : PlainProcess) (order : List ℕ) (n : ℕ) (c : PlainConnection) (j : Join) (o : Option ℕ) → repeats [] (connector_names p) ≡ []
    → IsOrderOf (links_of p) order → slice_get p.connections n ≡ Some c → Contains (joins_of c.text) j → number_of (connector_names p) j.connector.name ≡ o
    → comes p j.connector.name c.name.name ≡ false
no_return p order n c j None distinct is there among number = comes_none p c.name.name j.connector.name n number (own_number p n c distinct there)
no_return p order n c j (Some t) distinct is there among number =
    let own = own_number p n c distinct there in
    let same : comes p j.connector.name c.name.name ≡ goes (links_of p) t n = comes_is p c.name.name j.connector.name t n number own in
    let within : n < length (links_of p) = omega (arith, slice_get_within p.connections n c there, links_length p) in
    let edge : Contains (nexts (links_of p) n) t = subst (λ (l : List ℕ). Contains l t) (sym (next_is p n c there)) (target_among p (joins_of c.text) j t among number) in
    let place = is.each n within in
    let before = is.behind place.0 n t place.1 edge in
    elim (cases_Bool (goes (links_of p) t n)) [
      | inl way ↦ absurd (omega (arith, before.1, order_goes (links_of p) order (length (links_of p)) t n before.0 place.0 is before.2 place.1 way))
      | inr none ↦ same ∙ none
    ]

pub no_cycles : (p : PlainProcess) (order : List ℕ) → repeats [] (connector_names p) ≡ [] → IsOrderOf (links_of p) order → process_cycles p ≡ []
no_cycles p order distinct is = nothing_from (connection_cycles p) p.connections (λ c among.
    let at = at_among p.connections c among in
    nothing_from (comes_back p c) (joins_of c.text) (λ j here.
    ap (λ b. if b then j.at ∷ [] else []) (no_return p order at.0 c j (number_of (connector_names p) j.connector.name) distinct is at.1 here refl)))

nothing_there : {A B : Type 0} (f : A → List B) (xs : List A) (i : ℕ) (x : A) → flat_map f xs ≡ [] → slice_get xs i ≡ Some x → f x ≡ []
nothing_there f [] i x none there = let bad : None ≡ Some x = there in absurd (cc)
nothing_there f (y ∷ xs) zero x none there =
    let is : Some y ≡ Some x = there in
    let same : y ≡ x = cc in
    subst (λ z. f z ≡ []) same (append-nil_left (f y) (flat_map f xs) none)
nothing_there f (y ∷ xs) (suc i) x none there = nothing_there f xs i x (append-nil_right (f y) (flat_map f xs) none) there

some_cycle_at : (p : PlainProcess) (n : ℕ) (o : Option PlainConnection) → repeats [] (connector_names p) ≡ [] → Returns (links_of p) n → slice_get p.connections n ≡ o
    → process_cycles p ≡ [] → ⊥
some_cycle_at p n None distinct r there none =
    let no_row : nexts (links_of p) n ≡ [] =
    ap (λ (o : Option (List ℕ)). option_map_or (λ (ts : List ℕ). ts) o [])
    (slice_get-map (λ (c : PlainConnection). targets_of p (joins_of c.text)) p.connections n ∙ ap (option_map (λ (c : PlainConnection). targets_of p (joins_of c.text))) there) in
    let bad : Contains [] r.next = subst (λ (l : List ℕ). Contains l r.next) no_row r.among in
    omega (arith, bad.1)
some_cycle_at p n (Some c) distinct r there none =
    let joined = join_of_target p (joins_of c.text) r.next (subst (λ (l : List ℕ). Contains l r.next) (next_is p n c there) r.among) in
    let j = joined.0 in
    let back : comes p j.connector.name c.name.name ≡ true =
    comes_is p c.name.name j.connector.name r.next n joined.2 (own_number p n c distinct there) ∙ r.back in
    let of_connection : connection_cycles p c ≡ [] = nothing_there (connection_cycles p) p.connections n c none there in
    let at = at_among (joins_of c.text) j joined.1 in
    let of_join : comes_back p c j ≡ [] = nothing_there (comes_back p c) (joins_of c.text) at.0 j of_connection at.1 in
    let bad : j.at ∷ [] ≡ [] = sym (ap (λ b. if b then j.at ∷ [] else []) back) ∙ of_join in
    cc

-- If a path leads from a node back to it, some JOIN leads back to its connection.
pub some_cycle : (p : PlainProcess) (n : ℕ) → repeats [] (connector_names p) ≡ [] → Returns (links_of p) n → process_cycles p ≡ [] → ⊥
some_cycle p n distinct r none = some_cycle_at p n (slice_get p.connections n) distinct r refl none
