-- If a transition ends by its meaning, the path of its turn comes to that end.
use Rattle.std.proofs.Common.{◌≡◌, ◌∙◌, ℕ, zero, suc, ◌≤◌, nat_lt, Bool, true, false, cond, List, [], ◌∷◌, length, map, Option, None, Some, arith, refl, sym, ap, subst}
use Rattle.std.specs.Prelude.{ℤ, slice_get, option_and_then}
use Rattle.std.specs.Option.{option_map}
use Rattle.std.proofs.lemmas.Bool.Decides.{nat_tests}
use Rattle.std.proofs.lemmas.List.{length-map}
use Rattle.std.proofs.lemmas.Option.{slice_get_past, same_Some}
use Rattle.sdl_ast.specs.declared.tree.End.{End}
use Rattle.sdl_ast.specs.declared.tree.End.TheVariants.{NextState, Stop, Join}
use Rattle.sdl_ast.specs.declared.tree.Join as tree_join
use Rattle.sdl_ast.specs.Plain.{Text, falls, ends, does, decides, Choice, nothing_else, otherwise, answer, PlainConnection, PlainProcess}
use Rattle.sdl_tables.specs.Names.{variable_names, connection_named}
use Rattle.sdl_sound.specs.Longest.{Piece}
use Rattle.sdl_meaning.specs.Act as meaning
use Rattle.sdl_meaning.specs.Act.{value_of, perform, end_in, end_with, try_ranges, find_truth, leave, decide, act, choose, pick, closed, entered, follow, join_in, take_places, ran, Act}
use Rattle.sdl_meaning.specs.Outcomes.{Scope, at_end, in_trouble, Outcome, goes_on, over, then_do, state_at}
use Rattle.sdl_meaning.proofs.Choices.{IsOver}
use Rattle.sdl_meaning.proofs.Follows.{follow_over}
use Rattle.sdl_meaning.proofs.Joining.{connection_name}
use Rattle.sdl_meaning.proofs.Sorting.{found_at, place_in}
use Rattle.turn_code.specs.declared.input.Address.{Address}
use Rattle.turn_code.specs.declared.input.Input as given
use Rattle.turn_code.specs.declared.machine.End as code
use Rattle.turn_code.specs.declared.machine.End.TheVariants as code_end
use Rattle.turn_code.specs.declared.trouble.Trouble.{Trouble}
use Rattle.turn_code.specs.declared.trouble.Trouble.TheVariants.{NoState, Outside}
use Rattle.turn_code.specs.declared.value.Value.{Value}
use Rattle.turn_code.specs.declared.value.Value.TheVariants.{Int, Bool as Truth}
use Rattle.turn_code.specs.Run.{Progress, tick, begun, ended}
use Rattle.script_covered.specs.Ways.{Taken, at, else_of, Way, stands, behind, goes_with, then_way, is_for, with_value, behind_action, taken_in, action_place, end_place, way_of, chosen_way, connection_at, joined_at, joined_way, whole_way}
use Rattle.script_covered.specs.Covered.{turn_way}
use Rattle.script_covered.specs.Meant.{meant_end, ComesTo}
use Rattle.sdl_meaning.specs.Valued.{valued, Reads}
use Rattle.sdl_meaning.proofs.Readings.{Values, ids, value_reads}
use Rattle.script_covered.proofs.Readings.{Keeps, perform_keeps, places_keep, tried, found_so}

-- ---- statements, for which no JOIN is followed

-- the path reached the end of a text; this is the progress then
record EndsBy (c : Scope) (join : List ℕ → Progress → Outcome (Unit {0})) (w : Way) (e : code.End) (s : Progress) : Type 0 where
  end : End
  now : Progress
  is_end : w.end ≡ Some end
  variables : w.values ≡ now.variables
  by : end_with c join end now ≡ over (at_end e) s

module _ (c : Scope) (join : List ℕ → Progress → Outcome (Unit {0})) (joins_over : (x : List ℕ) (s : Progress) → IsOver (join x s)) (sender : Option Address) where
  -- the path goes on or ends as the meaning does, with the same variables; or the meaning is stuck
  abbrev Comes : Outcome (Unit {0}) → Way → Type 0
  Comes (goes_on x s) w = (w.end ≡ None) × (w.values ≡ s.variables)
  Comes (over (at_end e) s) w = EndsBy c join w e s
  Comes (over (in_trouble t) s) w = Unit {0}

  kept_comes : (o : Outcome (Unit {0})) (us : Values) (f : Unit {0} → Progress → Outcome (Unit {0})) (w : Way) → Keeps o us
      → ((x : Unit {0}) (r : Progress) → r.variables ≡ us → Comes (f x r) w) → Comes (then_do o f) w
  kept_comes (goes_on x s) us f w h step = step x s h
  kept_comes (over (at_end e) s) us f w h step = absurd h
  kept_comes (over (in_trouble t) s) us f w h step = tt

  read_comes : {A : Type 0} (o : Outcome A) (p : Option A) (us : Values) (f : A → Progress → Outcome (Unit {0})) (w : Way) → Reads o p us
      → ((x : A) (r : Progress) → p ≡ Some x → r.variables ≡ us → Comes (f x r) w) → Comes (then_do o f) w
  read_comes (goes_on x s) p us f w h step = step x s h.0 h.1
  read_comes (over (at_end e) s) p us f w h step = absurd h
  read_comes (over (in_trouble t) s) p us f w h step = tt

  leave_comes : (o : Outcome (Unit {0})) (w : Way) → Comes o w → Comes (leave o) w
  leave_comes (goes_on x s) w h = h
  leave_comes (over (at_end e) s) w h = h
  leave_comes (over (in_trouble t) s) w h = tt

  more_comes : (o : Outcome (Unit {0})) (w : Way) (xs : List Taken) → Comes o w → Comes o (behind xs w)
  more_comes (goes_on x s) w xs h = h
  more_comes (over (at_end e) s) w xs h = record { end = h.end; now = h.now; is_end = h.is_end; variables = h.variables; by = h.by }
  more_comes (over (in_trouble t) s) w xs h = tt

  -- a path followed by another
  way_comes : (o : Outcome (Unit {0})) (w : Way) (f : Unit {0} → Progress → Outcome (Unit {0})) (g : Values → Way) → Comes o w
      → ((x : Unit {0}) (r : Progress) → Comes (f x r) (g r.variables)) → Comes (then_do o f) (then_way w g)
  way_comes (goes_on x s) w f g h step =
      subst (λ (e : Option End). Comes (f x s) (goes_with e w.taken w.values g)) (sym h.0)
      (subst (λ (us : Values). Comes (f x s) (behind w.taken (g us))) (sym h.1) (more_comes (f x s) (g s.variables) w.taken (step x s)))
  way_comes (over (at_end e) s) w f g h step =
      subst (λ (o : Option End). EndsBy c join (goes_with o w.taken w.values g) e s) (sym h.is_end) (record { end = h.end; now = h.now; is_end = refl; variables = h.variables; by = h.by })
  way_comes (over (in_trouble t) s) w f g h step = tt

  end_over : (e : End) (s : Progress) → IsOver (end_with c join e s)
  end_over (NextState n) s = by_state (state_at c n.state)
    where
      by_state : (o : Option ℕ) → IsOver (end_in o s)
      by_state None = tt
      by_state (Some q) = tt
  end_over (Stop k) s = tt
  end_over (Join j) s = joins_over j.connector.name (tick s)

  end_comes : (e : End) (s : Progress) (xs : List Taken) → Comes (end_with c join e s) (behind xs (stands (Some e) s.variables))
  end_comes e s xs = by_outcome (end_with c join e s) refl (end_over e s)
    where
      by_outcome : (o : Outcome (Unit {0})) → end_with c join e s ≡ o → IsOver o → Comes o (behind xs (stands (Some e) s.variables))
      by_outcome (goes_on x r) is h = absurd h
      by_outcome (over (at_end d) r) is h = record { end = e; now = s; is_end = refl; variables = refl; by = is }
      by_outcome (over (in_trouble t) r) is h = tt

  decide_comes : (b : Bool) (x : Value) (r : Progress) (by_integer : ℤ → Outcome (Unit {0})) (by_truth : Bool → Outcome (Unit {0})) (w : Value → Way)
      → ((z : ℤ) → Comes (by_integer z) (w (Int z))) → ((d : Bool) → Comes (by_truth d) (w (Truth d))) → Comes (decide b x r by_integer by_truth) (w x)
  decide_comes true (Truth d) r by_integer by_truth w one other = other d
  decide_comes true (Int z) r by_integer by_truth w one other = tt
  decide_comes false (Int z) r by_integer by_truth w one other = one z
  decide_comes false (Truth d) r by_integer by_truth w one other = tt

  -- an answer applies to the value, or one of the other answers does
  answer_comes : (tests : Outcome Bool) (b : Bool) (k : ℕ) (us : Values) (body others : Progress → Outcome (Unit {0})) (w v : Way) → Reads tests (Some b) us
      → ((r : Progress) → r.variables ≡ us → Comes (body r) w) → ((r : Progress) → r.variables ≡ us → Comes (others r) v)
      → Comes (then_do tests (λ d r. cond d (leave (body r)) (others r))) (cond b (behind (at k ∷ []) w) v)
  answer_comes tests b k us body others w v h one other =
      read_comes tests (Some b) us (λ d r. cond d (leave (body r)) (others r)) (cond b (behind (at k ∷ []) w) v) h
      (λ d r is here. subst (λ (e : Bool). Comes (cond d (leave (body r)) (others r)) (cond e (behind (at k ∷ []) w) v)) (sym (same_Some b d is)) (by_test d r here))
    where
      by_test : (d : Bool) (r : Progress) → r.variables ≡ us → Comes (cond d (leave (body r)) (others r)) (cond d (behind (at k ∷ []) w) v)
      by_test true r here = more_comes (leave (body r)) w (at k ∷ []) (leave_comes (body r) w (one r here))
      by_test false r here = other r here

  at_values : (o : Outcome (Unit {0})) (w : Values → Way) (us vs : Values) → us ≡ vs → Comes o (w us) → Comes o (w vs)
  at_values o w us vs is h = subst (λ (ws : Values). Comes o (w ws)) is h

  mutual
    text_comes : (t : Text) (s : Progress) → Comes (act c join sender t s) (way_of (ids c) t s.variables)
    text_comes falls s = (refl, refl)
    text_comes (ends e) s = end_comes e s (at (end_place e) ∷ [])
    text_comes (does a rest) s =
        kept_comes (perform c sender a s) (behind_action (ids c) a s.variables) (λ _ r. act c join sender rest r) _ (perform_keeps c sender a s)
        (λ _ r is. more_comes (act c join sender rest r) _ (at (action_place a) ∷ []) (at_values (act c join sender rest r) (way_of (ids c) rest) _ _ is (text_comes rest r)))
    text_comes (decides k q choice rest) s =
        read_comes (value_of c q s) (valued (ids c) q s.variables) s.variables
        (λ x r. then_do (decide (meaning.is_truth c q) x r (λ z. choose c join sender choice z r) (λ b. pick c join sender choice b (tick r))) (λ _ r. act c join sender rest r)) _
        (value_reads c q s)
        (λ x r is there. subst
        (λ (o : Option Value). Comes (then_do (decide (meaning.is_truth c q) x r (λ z. choose c join sender choice z r) (λ b. pick c join sender choice b (tick r))) (λ _ r. act c join sender rest r))
        (then_way (behind (at k ∷ []) (with_value o s.variables (λ y. chosen_way (ids c) k choice y s.variables))) (way_of (ids c) rest))) (sym is)
        (way_comes (decide (meaning.is_truth c q) x r (λ z. choose c join sender choice z r) (λ b. pick c join sender choice b (tick r))) (behind (at k ∷ []) (chosen_way (ids c) k choice x s.variables))
        (λ _ r. act c join sender rest r) (way_of (ids c) rest)
        (more_comes _ (chosen_way (ids c) k choice x s.variables) (at k ∷ [])
        (decide_comes (meaning.is_truth c q) x r (λ z. choose c join sender choice z r) (λ b. pick c join sender choice b (tick r)) (λ y. chosen_way (ids c) k choice y s.variables)
        (λ z. at_values (choose c join sender choice z r) (chosen_way (ids c) k choice (Int z)) _ _ there (choose_comes k choice z r))
        (λ b. at_values (pick c join sender choice b (tick r)) (chosen_way (ids c) k choice (Truth b)) _ _ there (pick_comes k choice b (tick r)))))
        (λ _ r. text_comes rest r)))

    choose_comes : (k : ℕ) (choice : Choice) (x : ℤ) (s : Progress) → Comes (choose c join sender choice x s) (chosen_way (ids c) k choice (Int x) s.variables)
    choose_comes k nothing_else x s = tt
    choose_comes k (otherwise body) x s =
        more_comes (leave (act c join sender body (tick s))) (way_of (ids c) body s.variables) (else_of k ∷ []) (leave_comes (act c join sender body (tick s)) _ (text_comes body (tick s)))
    choose_comes k (answer a rs body others) x s =
        answer_comes (try_ranges rs x s) (is_for rs (Int x)) a s.variables (λ r. act c join sender body r) (λ r. choose c join sender others x r)
        (way_of (ids c) body s.variables) (chosen_way (ids c) k others (Int x) s.variables) (tried rs x s)
        (λ r there. at_values (act c join sender body r) (way_of (ids c) body) _ _ there (text_comes body r))
        (λ r there. at_values (choose c join sender others x r) (chosen_way (ids c) k others (Int x)) _ _ there (choose_comes k others x r))

    pick_comes : (k : ℕ) (choice : Choice) (b : Bool) (s : Progress) → Comes (pick c join sender choice b s) (chosen_way (ids c) k choice (Truth b) s.variables)
    pick_comes k nothing_else b s = tt
    pick_comes k (otherwise body) b s =
        more_comes (leave (act c join sender body s)) (way_of (ids c) body s.variables) (else_of k ∷ []) (leave_comes (act c join sender body s) _ (text_comes body s))
    pick_comes k (answer a rs body others) b s =
        answer_comes (find_truth rs b s) (is_for rs (Truth b)) a s.variables (λ r. act c join sender body r) (λ r. pick c join sender others b r)
        (way_of (ids c) body s.variables) (chosen_way (ids c) k others (Truth b) s.variables) (found_so rs b s)
        (λ r there. at_values (act c join sender body r) (way_of (ids c) body) _ _ there (text_comes body r))
        (λ r there. at_values (pick c join sender others b r) (chosen_way (ids c) k others (Truth b)) _ _ there (pick_comes k others b r))

-- ---- JOINs

-- the connection with a name is the one that has its number
connection_there : (p : PlainProcess) (x : List ℕ) → connection_named p x ≡ connection_at p x
connection_there p x =
    found_at connection_name x p.connections ∙ by_place (nat_lt (place_in connection_name x p.connections) (length (map connection_name p.connections))) refl
  where
    by_place : (b : Bool) → nat_lt (place_in connection_name x p.connections) (length (map connection_name p.connections)) ≡ b
        → slice_get p.connections (place_in connection_name x p.connections)
        ≡ option_and_then (slice_get p.connections) (cond b (Some (place_in connection_name x p.connections)) None)
    by_place true e = refl
    by_place false e =
        let past : length p.connections ≤ place_in connection_name x p.connections = grind (arith, nat_tests, length-map p.connections connection_name) in
        slice_get_past p.connections (place_in connection_name x p.connections) past

no_end : {A : Type 0} (e : code.End) (t : Trouble) (s r : Progress) → ◌≡◌ {A = Outcome A} (over (in_trouble t) s) (over (at_end e) r) → ⊥
no_end e t s r is = cc

closed_end : (o : Outcome (Unit {0})) (e : code.End) (s : Progress) → closed o ≡ over (at_end e) s → o ≡ over (at_end e) s
closed_end (goes_on x r) e s is = absurd (let f : ⊥ = cc in f)
closed_end (over d r) e s is = is

behind_joined : (c : Scope) (xs : List Taken) (w : Way) (e : code.End) (s : Progress) → ComesTo c w e s → ComesTo c (behind xs w) e s
behind_joined c xs w e s h = record { end = h.end; is_end = h.is_end; is_meant = h.is_meant; variables = h.variables }

-- an end that is no JOIN
comes_here : (c : Scope) (w : Way) (end : End) (r s : Progress) (e d : code.End) → w.end ≡ Some end → w.values ≡ r.variables → meant_end c end ≡ Some d
    → ◌≡◌ {A = Outcome (Unit {0})} (over (at_end d) (tick r)) (over (at_end e) s) → ComesTo c w e s
comes_here c w end r s e d is are meant so =
    let same : d ≡ e = cc in
    let last : tick r ≡ s = cc in
    record { end = end; is_end = is; is_meant = meant ∙ ap Some same; variables = are ∙ ap (λ (q : Progress). q.variables) last }

no_join : (p : PlainProcess) (n : ℕ) (t : Text) (vs : Values) (end : End) → (way_of (variable_names p) t vs).end ≡ Some end → joined_at p (Some end) ≡ None
    → whole_way p n t vs ≡ way_of (variable_names p) t vs
no_join p zero t vs end is none = refl
no_join p (suc n) t vs end is none =
    let w = way_of (variable_names p) t vs in
    ap (λ (o : Option PlainConnection). joined_way o w (λ u. whole_way p n u w.values)) (ap (joined_at p) is ∙ none)

module _ (c : Scope) (sender : Option Address) where
  abbrev way : Text → Values → Way
  way t vs = way_of (variable_names c.process) t vs

  -- a text that ends by its meaning, following at most n JOINs
  abbrev Ends : ℕ → Type 0
  Ends n = (t : Text) (s : Progress) (e : code.End) (r : Progress) → act c (follow c sender n) sender t s ≡ over (at_end e) r → ComesTo c (whole_way c.process n t s.variables) e r

  join_ends : (n : ℕ) (t : Text) (s now : Progress) (j : tree_join.Join) (e : code.End) (r : Progress) → (way t s.variables).end ≡ Some (Join j) → (way t s.variables).values ≡ now.variables
      → follow c sender n j.connector.name (tick now) ≡ over (at_end e) r → ((m : ℕ) → n ≡ suc m → Ends m) → ComesTo c (whole_way c.process n t s.variables) e r
  join_ends zero t s now j e r is are by inner = absurd (no_end e Outside (tick now) r by)
  join_ends (suc m) t s now j e r is are by inner = by_connection (connection_named c.process j.connector.name) refl by
    where
      by_connection : (o : Option PlainConnection) → connection_named c.process j.connector.name ≡ o
          → entered o (tick now) (λ u. closed (act c (follow c sender m) sender u (tick now))) ≡ over (at_end e) r → ComesTo c (whole_way c.process (suc m) t s.variables) e r
      by_connection None here so = absurd (no_end e Outside (tick now) r so)
      by_connection (Some k) here so =
          let w = way t s.variables in
          let on : whole_way c.process (suc m) t s.variables ≡ behind w.taken (whole_way c.process m k.text w.values) =
          ap (λ (o : Option PlainConnection). joined_way o w (λ u. whole_way c.process m u w.values)) (ap (joined_at c.process) is ∙ (sym (connection_there c.process j.connector.name) ∙ here)) in
          subst (λ (v : Way). ComesTo c v e r) (sym on)
          (behind_joined c w.taken (whole_way c.process m k.text w.values) e r
          (subst (λ (us : Values). ComesTo c (whole_way c.process m k.text us) e r) (sym are) (inner m refl k.text (tick now) e r (closed_end (act c (follow c sender m) sender k.text (tick now)) e r so))))

  -- the case by the end that the path reached
  ended_by : (n : ℕ) (t : Text) (s now : Progress) (end : End) (e : code.End) (r : Progress) → (way t s.variables).end ≡ Some end → (way t s.variables).values ≡ now.variables
      → end_with c (follow c sender n) end now ≡ over (at_end e) r → ((m : ℕ) → n ≡ suc m → Ends m) → ComesTo c (whole_way c.process n t s.variables) e r
  ended_by n t s now (NextState m) e r is are by inner =
      subst (λ (w : Way). ComesTo c w e r) (sym (no_join c.process n t s.variables (NextState m) is refl)) (by_state (state_at c m.state) refl by)
    where
      by_state : (o : Option ℕ) → state_at c m.state ≡ o → end_in o now ≡ over (at_end e) r → ComesTo c (way t s.variables) e r
      by_state None here so = absurd (no_end e NoState (tick now) r so)
      by_state (Some q) here so =
          comes_here c (way t s.variables) (NextState m) now r e (code_end.State (record { 0 = q })) is are (ap (option_map (λ k. code_end.State (record { 0 = k }))) here) so
  ended_by n t s now (Stop k) e r is are by inner =
      subst (λ (w : Way). ComesTo c w e r) (sym (no_join c.process n t s.variables (Stop k) is refl)) (comes_here c (way t s.variables) (Stop k) now r e code_end.Stop is are refl by)
  ended_by n t s now (Join j) e r is are by inner = join_ends n t s now j e r is are by inner

  come_by : (n : ℕ) (t : Text) (s : Progress) (e : code.End) (r : Progress) → act c (follow c sender n) sender t s ≡ over (at_end e) r → EndsBy c (follow c sender n) (way t s.variables) e r
  come_by n t s e r is =
      subst (λ (o : Outcome (Unit {0})). Comes c (follow c sender n) (follow_over c sender n) sender o (way t s.variables)) is (text_comes c (follow c sender n) (follow_over c sender n) sender t s)

  text_ends : (n : ℕ) → Ends n
  text_ends zero t s e r is =
      let h = come_by zero t s e r is in
      ended_by zero t s h.now h.end e r h.is_end h.variables h.by (λ m no. absurd (omega (arith, no)))
  text_ends (suc k) t s e r is =
      let h = come_by (suc k) t s e r is in
      ended_by (suc k) t s h.now h.end e r h.is_end h.variables h.by
      (λ m so. let same : k ≡ m = omega (arith, so) in subst Ends same (λ u q d z there. text_ends k u q d z there))

-- ---- the whole turn

ran_end : (o : Outcome (Unit {0})) (e : code.End) (s : Progress) → ran o ≡ ended e s → o ≡ over (at_end e) s
ran_end (goes_on x r) e s is = absurd (let f : ⊥ = cc in f)
ran_end (over (at_end d) r) e s is =
    let same : d ≡ e = cc in
    let last : r ≡ s = cc in
    ap (λ (b : code.End). over (at_end b) r) same ∙ ap (λ (q : Progress). over (at_end e) q) last
ran_end (over (in_trouble t) r) e s is = absurd (let f : ⊥ = cc in f)

kept_ends : (o : Outcome (Unit {0})) (us : Values) (f : Unit {0} → Progress → Outcome (Unit {0})) (e : code.End) (s : Progress) (P : Type 0) → Keeps o us → then_do o f ≡ over (at_end e) s
    → ((x : Unit {0}) (r : Progress) → r.variables ≡ us → f x r ≡ over (at_end e) s → P) → P
kept_ends (goes_on x r) us f e s P h is step = step x r h is
kept_ends (over (at_end d) r) us f e s P h is step = absurd h
kept_ends (over (in_trouble t) r) us f e s P h is step = absurd (no_end e t r s is)

pub ends_so : (c : Scope) (q : Piece) (x : given.Input) (e : code.End) (s : Progress) → Act c q x ≡ ended e s → ComesTo c (turn_way c.process q.places q.text x) e s
ends_so c q x e s is =
    let ps = x.parameters.items in
    let us = taken_in (variable_names c.process) ps 0 q.places x.variables.items in
    kept_ends (take_places c ps 0 q.places (begun x)) us (λ _ r. act c (join_in c x.sender) x.sender q.text r) e s (ComesTo c (turn_way c.process q.places q.text x) e s)
    (places_keep c ps 0 q.places (begun x)) (ran_end _ e s is)
    (λ _ r there so. subst (λ (vs : Values). ComesTo c (whole_way c.process (length c.process.connections) q.text vs) e s) there
    (text_ends c x.sender (length c.process.connections) q.text r e s so))
