-- No walk costs more instructions than the code has: if no JOIN leads back, a walk meets each at most once.
use Rattle.std.proofs.Common.{◌≡◌, ℕ, zero, suc, ◌+◌, ◌-◌, ◌≤◌, ◌<◌, Bool, true, false, List, [], ◌∷◌, ◌++◌, length, Option, None, Some, cond, if◌then◌else◌, find, refl, sym, ap, ◌∙◌, subst, arith, true≢false}
use Rattle.std.specs.Prelude.{sum_by, filter, slice_get, is_some}
use Rattle.std.specs.List.{flat_map, list_any}
use Rattle.std.specs.Option.{option_map, option_map_or}
use Rattle.std.proofs.lemmas.Option.{slice_get_within, slice_get-map}
use Rattle.std.proofs.lemmas.Grind.{flat_map-append}
use Rattle.std.proofs.lemmas.List.Sums.{sum_by-cons}
use Rattle.sdl_ast.specs.declared.tree.End.TheVariants.{NextState, Stop, Join}
use Rattle.sdl_ast.specs.declared.tree.Join as the_join
use Rattle.sdl_ast.specs.declared.tree.Range.{Range}
use Rattle.sdl_ast.specs.Plain.{Tree, Text, falls, ends, does, decides, Choice, nothing_else, otherwise, answer, PlainConnection, PlainProcess}
use Rattle.sdl_tables.specs.Names.{Variable, variables_of, same_name, number_of, connector_names, connection_named}
use Rattle.sdl_sound.specs.Going.{goes_on, choice_goes_on}
use Rattle.sdl_sound.specs.Statements.{statement_joins, statements_of, choice_statements, joins_of}
use Rattle.sdl_sound.specs.Sorts.{is_truth}
use Rattle.sdl_sound.specs.Longest.{cost_of, tests_budget, budget, case_budget, pick_budget, jump_size, tests_size, size, bodies_size, joined_by, joined, text_budget, text_size}
use Rattle.sdl_sound.specs.Joins.{joins_at, comes_by, comes, reaches, reached, comes_back, connection_cycles, process_cycles}
use Rattle.sdl_sound.specs.Orders.{links_of}
use Rattle.sdl_measures.proofs.Connectors.{numbered, comes_by_number, comes_is, links_length}
use Rattle.sdl_sound.proofs.Numbered.{nowhere, folded_same, name_back, unnumbered}
use Rattle.sdl_sound.proofs.Items.{Each, each_front, each_back, each_with, each_nil, each_at_place as get_each}
use Rattle.sdl_sound.proofs.Lists.{any_at}
use Rattle.sdl_measures.proofs.Ways.{goes_any}
use Rattle.plain_laws.proofs.Places.{among_at}
use Rattle.std.proofs.lemmas.Bool.{and_from as both_true, or_left as left_true, or_right as right_true}

-- ---- a text by itself: its own instructions, and those it goes on with

-- The walk after each JOIN costs at most n instructions.
abbrev pub AreWithin : (List ℕ → ℕ) → ℕ → List the_join.Join → Type 0
AreWithin join n joins = Each (λ (j : the_join.Join). join j.connector.name ≤ n) joins

more_within : (join : List ℕ → ℕ) (m n : ℕ) (joins : List the_join.Join) → m ≤ n → AreWithin join m joins → AreWithin join n joins
more_within join m n joins le h =
    each_with (λ (j : the_join.Join). join j.connector.name ≤ m) (λ (j : the_join.Join). join j.connector.name ≤ n) (λ j k. omega (arith, le, k)) joins h

one_if : (b : Bool) (n : ℕ) → n ≡ (if b then 1 else 0) → b ≡ true → n ≡ 1
one_if true n e h = e
one_if false n e h = absurd (true≢false (sym h))

jump_is : (t : Text) → goes_on t ≡ true → jump_size t ≡ 1
jump_is t h = one_if (goes_on t) (jump_size t) refl h

tests_within : (ranges : List Range) (b o m : ℕ) → b ≤ m → o ≤ m → tests_budget ranges b o ≤ length ranges + m
tests_within [] b o m h k = omega (arith, k)
tests_within (r ∷ ranges) b o m h k = omega (arith, h, tests_within ranges b o m h k)

decides_within : (truth : Bool) (q x y tests bodies rest n : ℕ) → x ≤ bodies + (rest + n) → y ≤ (tests + bodies) + (rest + n)
    → q + (if truth then 1 + x else y) ≤ (q + (if truth then 1 else tests) + bodies + rest) + n
decides_within true q x y tests bodies rest n h k = omega (arith, h)
decides_within false q x y tests bodies rest n h k = omega (arith, k)

front_joins : (join : List ℕ → ℕ) (n : ℕ) (q : Tree) (c : Choice) (rest : Text) → AreWithin join n (flat_map statement_joins (choice_statements q c ++ statements_of rest))
    → AreWithin join n (flat_map statement_joins (choice_statements q c))
front_joins join n q c rest h =
    each_front (λ (j : the_join.Join). join j.connector.name ≤ n) (flat_map statement_joins (choice_statements q c)) (joins_of rest)
    (subst (AreWithin join n) (flat_map-append statement_joins (choice_statements q c) (statements_of rest)) h)

back_joins : (join : List ℕ → ℕ) (n : ℕ) (q : Tree) (c : Choice) (rest : Text) → AreWithin join n (flat_map statement_joins (choice_statements q c ++ statements_of rest))
    → AreWithin join n (joins_of rest)
back_joins join n q c rest h =
    each_back (λ (j : the_join.Join). join j.connector.name ≤ n) (flat_map statement_joins (choice_statements q c)) (joins_of rest)
    (subst (AreWithin join n) (flat_map-append statement_joins (choice_statements q c) (statements_of rest)) h)

body_joins : (join : List ℕ → ℕ) (n : ℕ) (q : Tree) (body : Text) (others : Choice) → AreWithin join n (flat_map statement_joins (statements_of body ++ choice_statements q others))
    → AreWithin join n (joins_of body)
body_joins join n q body others h =
    each_front (λ (j : the_join.Join). join j.connector.name ≤ n) (joins_of body) (flat_map statement_joins (choice_statements q others))
    (subst (AreWithin join n) (flat_map-append statement_joins (statements_of body) (choice_statements q others)) h)

other_joins : (join : List ℕ → ℕ) (n : ℕ) (q : Tree) (body : Text) (others : Choice) → AreWithin join n (flat_map statement_joins (statements_of body ++ choice_statements q others))
    → AreWithin join n (flat_map statement_joins (choice_statements q others))
other_joins join n q body others h =
    each_back (λ (j : the_join.Join). join j.connector.name ≤ n) (joins_of body) (flat_map statement_joins (choice_statements q others))
    (subst (AreWithin join n) (flat_map-append statement_joins (statements_of body) (choice_statements q others)) h)

mutual
  pub text_within : (vs : List Variable) (join : List ℕ → ℕ) (t : Text) (k n : ℕ) → AreWithin join n (joins_of t) → (goes_on t ≡ true → k ≤ n)
      → budget vs join t k ≤ size vs t + n
  text_within vs join falls k n joins on = omega (arith, on refl)
  text_within vs join (ends (NextState s)) k n joins on = omega arith
  text_within vs join (ends (Stop at)) k n joins on = omega arith
  text_within vs join (ends (Join j)) k n joins on = omega (arith, joins.0)
  text_within vs join (does a rest) k n joins on = omega (arith, text_within vs join rest k n joins on)
  text_within vs join (decides at q c rest) k n joins on =
      let front = more_within join n (size vs rest + n) (flat_map statement_joins (choice_statements q c)) (omega arith) (front_joins join n q c rest joins) in
      let behind : choice_goes_on c ≡ true → budget vs join rest k ≤ size vs rest + n =
      λ h. text_within vs join rest k n (back_joins join n q c rest joins) (λ r. on (both_true (choice_goes_on c) (goes_on rest) h r)) in
      decides_within (is_truth vs q) (cost_of q) (pick_budget vs join c (budget vs join rest k)) (case_budget vs join c (budget vs join rest k)) (tests_size c) (bodies_size vs c)
      (size vs rest) n (pick_within vs join q c (budget vs join rest k) (size vs rest + n) front behind) (case_within vs join q c (budget vs join rest k) (size vs rest + n) front behind)

  pick_within : (vs : List Variable) (join : List ℕ → ℕ) (q : Tree) (c : Choice) (k n : ℕ) → AreWithin join n (flat_map statement_joins (choice_statements q c))
      → (choice_goes_on c ≡ true → k ≤ n) → pick_budget vs join c k ≤ bodies_size vs c + n
  pick_within vs join q nothing_else k n joins on = omega arith
  pick_within vs join q (otherwise body) k n joins on =
      let inside = text_within vs join body (1 + k) (jump_size body + n) (more_within join n (jump_size body + n) (joins_of body) (omega arith) joins)
      (λ h. omega (arith, jump_is body h, on h)) in
      omega (arith, inside)
  pick_within vs join q (answer at ranges body others) k n joins on =
      let inside = text_within vs join body (1 + k) (jump_size body + n) (more_within join n (jump_size body + n) (joins_of body) (omega arith) (body_joins join n q body others joins))
      (λ h. omega (arith, jump_is body h, on (left_true (goes_on body) (choice_goes_on others) h))) in
      let beyond = pick_within vs join q others k n (other_joins join n q body others joins) (λ h. on (right_true (goes_on body) (choice_goes_on others) h)) in
      omega (arith, inside, beyond)

  case_within : (vs : List Variable) (join : List ℕ → ℕ) (q : Tree) (c : Choice) (k n : ℕ) → AreWithin join n (flat_map statement_joins (choice_statements q c))
      → (choice_goes_on c ≡ true → k ≤ n) → case_budget vs join c k ≤ (tests_size c + bodies_size vs c) + n
  case_within vs join q nothing_else k n joins on = omega arith
  case_within vs join q (otherwise body) k n joins on =
      let inside = text_within vs join body (1 + k) (jump_size body + n) (more_within join n (jump_size body + n) (joins_of body) (omega arith) joins)
      (λ h. omega (arith, jump_is body h, on h)) in
      omega (arith, inside)
  case_within vs join q (answer at ranges body others) k n joins on =
      let inside = text_within vs join body (1 + k) (jump_size body + n) (more_within join n (jump_size body + n) (joins_of body) (omega arith) (body_joins join n q body others joins))
      (λ h. omega (arith, jump_is body h, on (left_true (goes_on body) (choice_goes_on others) h))) in
      let beyond = case_within vs join q others k n (other_joins join n q body others joins) (λ h. on (right_true (goes_on body) (choice_goes_on others) h)) in
      let m = ((size vs body + jump_size body) + (tests_size others + bodies_size vs others)) + n in
      let tests = tests_within ranges (budget vs join body (1 + k)) (case_budget vs join others k) m (omega (arith, inside)) (omega (arith, beyond)) in
      omega (arith, tests)

-- ---- connections: a JOIN goes on with the code of the connections that it leads to

abbrev weight : PlainProcess → PlainConnection → ℕ
weight p c = size (variables_of p) c.text

abbrev code_from : PlainProcess → List ℕ → ℕ
code_from p x = sum_by (weight p) (filter (λ c. comes p x c.name.name) p.connections)

one_more : {X : Type 0} (s : X → ℕ) (x : X) (fs gs : List X) (w : ℕ) (a b : Bool) → (a ≡ true → b ≡ true) → sum_by s fs + w ≤ sum_by s gs
    → sum_by s (cond a (x ∷ fs) fs) + w ≤ sum_by s (cond b (x ∷ gs) gs)
one_more s x fs gs w true true h le = omega (arith, le, sum_by-cons s x fs, sum_by-cons s x gs)
one_more s x fs gs w true false h le = absurd (true≢false (sym (h refl)))
one_more s x fs gs w false true h le = omega (arith, le, sum_by-cons s x gs)
one_more s x fs gs w false false h le = le

-- If all that passes one test passes the other too, the second sum is at least the first one.
filter_within : {X : Type 0} (s : X → ℕ) (f g : X → Bool) (xs : List X) → ((i : ℕ) (x : X) → slice_get xs i ≡ Some x → f x ≡ true → g x ≡ true)
    → sum_by s (filter f xs) + 0 ≤ sum_by s (filter g xs)
filter_within s f g [] h = omega arith
filter_within s f g (x ∷ xs) h =
    one_more s x (filter f xs) (filter g xs) 0 (f x) (g x) (h 0 x refl) (filter_within s f g xs (λ i. h (suc i)))

here_too : {X : Type 0} (s : X → ℕ) (c : X) (fs gs : List X) (a b : Bool) → a ≡ false → b ≡ true → sum_by s fs + 0 ≤ sum_by s gs
    → sum_by s (cond a (c ∷ fs) fs) + s c ≤ sum_by s (cond b (c ∷ gs) gs)
here_too s c fs gs true b misses passes le = absurd (true≢false misses)
here_too s c fs gs false true misses passes le = omega (arith, le, sum_by-cons s c gs)
here_too s c fs gs false false misses passes le = absurd (true≢false (sym passes))

-- If one more element passes only the second test, the sums differ at least by its amount.
filter_less : {X : Type 0} (s : X → ℕ) (f g : X → Bool) (xs : List X) (k : ℕ) (c : X) → slice_get xs k ≡ Some c → f c ≡ false → g c ≡ true
    → ((i : ℕ) (x : X) → slice_get xs i ≡ Some x → f x ≡ true → g x ≡ true) → sum_by s (filter f xs) + s c ≤ sum_by s (filter g xs)
filter_less s f g [] k c e misses passes h = let bad : None ≡ Some c = e in absurd (cc)
filter_less s f g (x ∷ xs) zero c e misses passes h =
    let same : Some x ≡ Some c = e in
    let is : x ≡ c = cc in
    subst (λ y. sum_by s (cond (f x) (x ∷ filter f xs) (filter f xs)) + s y ≤ sum_by s (cond (g x) (x ∷ filter g xs) (filter g xs))) is
    (here_too s x (filter f xs) (filter g xs) (f x) (g x) (ap f is ∙ misses) (ap g is ∙ passes) (filter_within s f g xs (λ i. h (suc i))))
filter_less s f g (x ∷ xs) (suc k) c e misses passes h =
    one_more s x (filter f xs) (filter g xs) (s c) (f x) (g x) (h 0 x refl) (filter_less s f g xs k c e misses passes (λ i. h (suc i)))

found_at : {X : Type 0} (q : X → Bool) (x : X) (xs : List X) (c : X) (b : Bool) → q x ≡ b → cond b (Some x) (find q xs) ≡ Some c
    → (find q xs ≡ Some c → (k : ℕ) × (slice_get xs k ≡ Some c) × (q c ≡ true)) → (k : ℕ) × (slice_get (x ∷ xs) k ≡ Some c) × (q c ≡ true)
found_at q x xs c true passes e rest = let same : Some x ≡ Some c = e in let is : x ≡ c = cc in (0, e, ap q (sym is) ∙ passes)
found_at q x xs c false misses e rest = let later = rest e in (suc later.0, later.1, later.2)

find_there : {X : Type 0} (q : X → Bool) (xs : List X) (c : X) → find q xs ≡ Some c → (k : ℕ) × (slice_get xs k ≡ Some c) × (q c ≡ true)
find_there q [] c e = let bad : None ≡ Some c = e in absurd (cc)
find_there q (x ∷ xs) c e = found_at q x xs c (q x) refl e (find_there q xs c)

each_get : {X : Type 0} (P : X → Type 0) (xs : List X) → ((i : ℕ) (x : X) → slice_get xs i ≡ Some x → P x) → Each P xs
each_get P [] h = tt
each_get P (x ∷ xs) h = (h 0 x refl, each_get P xs (λ i. h (suc i)))

comes_same : (p : PlainProcess) (n : ℕ) (y x : List ℕ) → same_name x y ≡ true → comes_by p n y x ≡ true
comes_same p zero y x h = h
comes_same p (suc n) y x h = left_true (same_name x y) _ h

not_placed : (at : ℕ) (b : Bool) → (if b then at ∷ [] else []) ≡ [] → b ≡ false
not_placed at true e = absurd (let k : ⊥ = cc in k)
not_placed at false e = refl

-- No JOIN of a connection leads back to it.
comes_not : (p : PlainProcess) (k i : ℕ) (c : PlainConnection) (j : the_join.Join) → process_cycles p ≡ [] → slice_get p.connections k ≡ Some c
    → slice_get (joins_of c.text) i ≡ Some j → comes p j.connector.name c.name.name ≡ false
comes_not p k i c j none there here =
    let own : connection_cycles p c ≡ [] = get_each (λ c. connection_cycles p c ≡ []) p.connections k c (each_nil (connection_cycles p) p.connections none) there in
    let back : comes_back p c j ≡ [] = get_each (λ j. comes_back p c j ≡ []) (joins_of c.text) i j (each_nil (comes_back p c) (joins_of c.text) own) here in
    not_placed j.at (comes p j.connector.name c.name.name) back

comes_by_numbers : (p : PlainProcess) (x : List ℕ) (d : PlainConnection) (k : ℕ) (from to : Option ℕ) → number_of (connector_names p) x ≡ from
    → number_of (connector_names p) d.name.name ≡ to → is_some (connection_named p x) ≡ true → slice_get p.connections k ≡ Some d
    → comes_by p (suc (length p.connections)) x d.name.name ≡ true → comes p x d.name.name ≡ true
comes_by_numbers p x d k None to at_x at_d named there way = absurd (true≢false (sym named ∙ ap is_some (unnumbered p x at_x)))
comes_by_numbers p x d k (Some n) None at_x at_d named there way =
    let own : slice_get (connector_names p) k ≡ Some d.name = slice_get-map (λ (c : PlainConnection). c.name) p.connections k ∙ ap (option_map (λ (c : PlainConnection). c.name)) there in
    absurd (true≢false (sym (folded_same d.name.name d.name.name refl) ∙ nowhere (connector_names p) d.name.name k d.name at_d own))
comes_by_numbers p x d k (Some n) (Some m) at_x at_d named there way =
    let is = numbered p d.name.name m at_d in
    let within : m < length (links_of p) = omega (arith, slice_get_within p.connections m is.connection is.there, links_length p) in
    comes_is p d.name.name x n m at_x at_d
    ∙ goes_any (links_of p) (suc (length p.connections)) n m within (sym (comes_by_number p (suc (length p.connections)) d.name.name x n m at_x at_d) ∙ way)

-- A connection leads wherever one of its JOINs leads.
comes_from : (p : PlainProcess) (x : List ℕ) (c : PlainConnection) (i k : ℕ) (j : the_join.Join) (d : PlainConnection) → connection_named p x ≡ Some c
    → slice_get (joins_of c.text) i ≡ Some j → slice_get p.connections k ≡ Some d → comes p j.connector.name d.name.name ≡ true → comes p x d.name.name ≡ true
comes_from p x c i k j d named here there way =
    let test = λ (j : the_join.Join). comes_by p (length p.connections) j.connector.name d.name.name in
    let joins : joins_at p x ≡ joins_of c.text = ap (λ o. option_map_or (λ (c : PlainConnection). joins_of c.text) o []) named in
    let some : list_any test (joins_at p x) ≡ true = ap (list_any test) joins ∙ any_at test (joins_of c.text) j (among_at (joins_of c.text) i j here) way in
    comes_by_numbers p x d k (number_of (connector_names p) x) (number_of (connector_names p) d.name.name) refl refl (ap is_some named) there
    (right_true (same_name d.name.name x) (list_any test (joins_at p x)) some)

abbrev one_budget : List Variable → (List ℕ → ℕ) → Text → ℕ
one_budget vs join text = budget vs join text 0

-- A JOIN of a connection goes on with less code than a JOIN to that connection.
code_less : (p : PlainProcess) (x : List ℕ) (c : PlainConnection) (i : ℕ) (j : the_join.Join) → process_cycles p ≡ [] → connection_named p x ≡ Some c
    → slice_get (joins_of c.text) i ≡ Some j → code_from p j.connector.name + weight p c ≤ code_from p x
code_less p x c i j none named here =
    let at = find_there (λ c. same_name x c.name.name) p.connections c named in
    let own : same_name c.name.name x ≡ true = name_back c.name.name x c.name.name (folded_same c.name.name c.name.name refl) at.2 in
    filter_less (weight p) (λ d. comes p j.connector.name d.name.name) (λ d. comes p x d.name.name) p.connections at.0 c at.1
    (comes_not p at.0 i c j none at.1 here) (comes_same p (length p.connections) x c.name.name own) (λ k d there way. comes_from p x c i k j d named here there way)

-- The code of a connection is part of the code that a JOIN to it goes on with.
own_code : (p : PlainProcess) (x : List ℕ) (c : PlainConnection) → connection_named p x ≡ Some c → weight p c ≤ code_from p x
own_code p x c named =
    let at = find_there (λ c. same_name x c.name.name) p.connections c named in
    let own : same_name c.name.name x ≡ true = name_back c.name.name x c.name.name (folded_same c.name.name c.name.name refl) at.2 in
    let less = filter_less (weight p) (λ d. false) (λ d. comes p x d.name.name) p.connections at.0 c at.1 refl
    (comes_same p (length p.connections) x c.name.name own) (λ k d there way. absurd (true≢false (sym way))) in
    omega (arith, less)

named_within : (p : PlainProcess) → process_cycles p ≡ [] → (n : ℕ) (x : List ℕ) (o : Option PlainConnection) → connection_named p x ≡ o
    → ((y : List ℕ) → joined_by one_budget p n y ≤ code_from p y)
    → option_map_or (λ c. one_budget (variables_of p) (joined_by one_budget p n) c.text) (connection_named p x) 0 ≤ code_from p x
named_within p none n x None e below = omega (arith, ap (λ o. option_map_or (λ (c : PlainConnection). one_budget (variables_of p) (joined_by one_budget p n) c.text) o 0) e)
named_within p none n x (Some c) e below =
    let rest = code_from p x - weight p c in
    let joins = each_get (λ (j : the_join.Join). joined_by one_budget p n j.connector.name ≤ rest) (joins_of c.text) (λ i j here.
    omega (arith, below j.connector.name, code_less p x c i j none e here)) in
    let inside = text_within (variables_of p) (joined_by one_budget p n) c.text 0 rest joins (λ h. omega arith) in
    let is = ap (λ o. option_map_or (λ (c : PlainConnection). one_budget (variables_of p) (joined_by one_budget p n) c.text) o 0) e in
    omega (arith, is, inside, own_code p x c e)

joined_within : (p : PlainProcess) → process_cycles p ≡ [] → (n : ℕ) (x : List ℕ) → joined_by one_budget p n x ≤ code_from p x
joined_within p none zero x = omega arith
joined_within p none (suc n) x = named_within p none n x (connection_named p x) refl (joined_within p none n)

pub within_code : (p : PlainProcess) (t : Text) → process_cycles p ≡ [] → text_budget p t ≤ text_size p t
within_code p t none =
    let code = sum_by (weight p) (reached p t) in
    let joins = each_get (λ (j : the_join.Join). joined one_budget p j.connector.name ≤ code) (joins_of t) (λ i j here.
    let there = filter_within (weight p) (λ d. comes p j.connector.name d.name.name) (λ d. reaches p t d.name.name) p.connections
    (λ k d at way. any_at (λ (j : the_join.Join). comes p j.connector.name d.name.name) (joins_of t) j (among_at (joins_of t) i j here) way) in
    omega (arith, there, joined_within p none (length p.connections) j.connector.name)) in
    text_within (variables_of p) (joined one_budget p) t 0 code joins (λ h. omega arith)
