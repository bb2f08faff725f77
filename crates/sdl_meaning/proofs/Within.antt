-- The walk of a text costs no more than its longest path.
use Rattle.std.proofs.Common.{◌≡◌, ℕ, zero, suc, ◌+◌, ◌≤◌, max, Bool, true, false, cond, List, [], ◌∷◌, length, map, Option, Some, None, refl, sym, ap, ◌∙◌, arith}
use Rattle.std.specs.Prelude.{ℤ}
use Rattle.std.specs.List.{position_or_len}
use Rattle.std.specs.Option.{option_map_or}
use Rattle.sdl_ast.specs.declared.expression.Identifier.{Identifier}
use Rattle.sdl_ast.specs.declared.tree.Range.{Range}
use Rattle.sdl_ast.specs.declared.tree.End.{End}
use Rattle.sdl_ast.specs.declared.tree.End.TheVariants.{NextState, Stop, Join}
use Rattle.sdl_ast.specs.Plain.{Tree, Text, falls, ends, does, decides, Choice, nothing_else, otherwise, answer, PlainConnection}
use Rattle.turn_code.specs.declared.value.Value.{Value}
use Rattle.turn_code.specs.declared.value.Value.TheVariants.{Int, Bool as Truth}
use Rattle.turn_code.specs.declared.input.Address.{Address}
use Rattle.turn_code.specs.Run.{Progress, tick}
use Rattle.sdl_tables.specs.Names.{same_name, variables_of, connection_named}
use Rattle.sdl_sound.specs.Decisions.{has_else}
use Rattle.sdl_sound.specs.Longest.{Piece, cost_of, action_cost, end_cost, end_count, tests_budget, budget, case_budget, pick_budget, joined_by, places_cost, piece_budget}
use Rattle.sdl_meaning.specs.Act.{is_truth, value_of, perform, end_in, end_with, covers_integer, covers_truth, told, try_ranges, find_truth, leave, decide, act, choose, pick, closed, entered, follow, join_in, take_places}
use Rattle.sdl_meaning.specs.Outcomes.{Scope, state_at, Outcome, goes_on, over, then_do}
use Rattle.sdl_meaning.specs.Named.{NamedText, NamedChoice, NamedConnections, NamedPiece}
use Rattle.sdl_meaning.proofs.Costs.{cost_by, cost_bind, value_cost, perform_cost, take_cost}
use Rattle.sdl_meaning.proofs.Choices.{IsOver}
use Rattle.sdl_meaning.proofs.Branches.{integer_answered}
use Rattle.sdl_meaning.proofs.Follows.{follow_over}
use Rattle.sdl_meaning.proofs.Sorting.{found_at}
use Rattle.sdl_meaning.proofs.Joining.{connection_name}

-- A part that is over has cost at most b; a part that goes on has cost at most b with k more.
abbrev pub Within : {A : Type 0} → ℕ → ℕ → Outcome A → Type 0
Within b k (goes_on x v) = v.count + k ≤ b
Within b k (over e v) = v.count ≤ b

within_bind : {A B : Type 0} (b k m : ℕ) (o : Outcome A) (f : A → Progress → Outcome B) → Within b m o → ((x : A) (v : Progress) → v.count + m ≤ b → Within b k (f x v)) → Within b k (then_do o f)
within_bind b k m (goes_on x v) f h g = g x v h
within_bind b k m (over e v) f h g = h

within_more : {A : Type 0} (b d k : ℕ) (o : Outcome A) → b ≤ d → Within b k o → Within d k o
within_more b d k (goes_on x v) le h = omega (arith, le, h)
within_more b d k (over e v) le h = omega (arith, le, h)

within_cost : {A : Type 0} (b k m : ℕ) (o : Outcome A) → cost_by o ≤ m → m + k ≤ b → Within b k o
within_cost b k m (goes_on x v) h le = omega (arith, h, le)
within_cost b k m (over e v) h le = omega (arith, h, le)

within_over : {A : Type 0} (b k : ℕ) (o : Outcome A) → IsOver o → cost_by o ≤ b → Within b k o
within_over b k (goes_on x v) h le = absurd h
within_over b k (over e v) h le = omega (arith, le)

leave_within : (b k : ℕ) (o : Outcome (Unit {0})) → Within b (1 + k) o → Within b k (leave o)
leave_within b k (goes_on x v) h = omega (arith, h)
leave_within b k (over e v) h = h

decide_within : (t : Bool) (x : Value) (s : Progress) (f : ℤ → Outcome (Unit {0})) (g : Bool → Outcome (Unit {0})) (b k : ℕ) → s.count + 1 ≤ b → (t ≡ false → (z : ℤ) → Within b k (f z)) → (t ≡ true → (u : Bool) → Within b k (g u)) → Within b k (decide t x s f g)
decide_within true (Truth u) s f g b k le h j = j refl u
decide_within true (Int z) s f g b k le h j = omega (arith, le)
decide_within false (Int z) s f g b k le h j = h refl z
decide_within false (Truth u) s f g b k le h j = omega (arith, le)

-- The tests of an answer, whose body costs d and whose other answers cost e.
tries_within : (rs : List Range) (z : ℤ) (s : Progress) (f g : Progress → Outcome (Unit {0})) (d e k : ℕ) → ((u : Progress) → Within (u.count + d) k (f u)) → ((u : Progress) → Within (u.count + e) k (g u))
    → Within (s.count + tests_budget rs d e) k (then_do (try_ranges rs z s) (λ t s. cond t (f s) (g s)))
tries_within [] z s f g d e k first others = others s
tries_within (r ∷ rs) z s f g d e k first others = by_test (covers_integer r z) (tries_within rs z (tick s) f g d e k first others)
  where
    by_test : (o : Option Bool) → Within (s.count + 1 + tests_budget rs d e) k (then_do (try_ranges rs z (tick s)) (λ t s. cond t (f s) (g s)))
        → Within (s.count + (1 + max d (tests_budget rs d e))) k (then_do (then_do (told o (tick s)) (λ t s. cond t (goes_on true s) (try_ranges rs z s))) (λ t s. cond t (f s) (g s)))
    by_test None h = omega arith
    by_test (Some true) h = within_more (s.count + 1 + d) (s.count + (1 + max d (tests_budget rs d e))) k (f (tick s)) (omega arith) (first (tick s))
    by_test (Some false) h =
        within_more (s.count + 1 + tests_budget rs d e) (s.count + (1 + max d (tests_budget rs d e))) k (then_do (try_ranges rs z (tick s)) (λ t s. cond t (f s) (g s))) (omega arith) h

finds_within : (rs : List Range) (t : Bool) (s : Progress) (f g : Progress → Outcome (Unit {0})) (b k : ℕ) → s.count ≤ b → Within b k (f s) → Within b k (g s) → Within b k (then_do (find_truth rs t s) (λ t s. cond t (f s) (g s)))
finds_within [] t s f g b k le first others = others
finds_within (r ∷ rs) t s f g b k le first others = by_test (covers_truth r t) (finds_within rs t s f g b k le first others)
  where
    by_test : (o : Option Bool) → Within b k (then_do (find_truth rs t s) (λ t s. cond t (f s) (g s))) → Within b k (then_do (then_do (told o s) (λ u s. cond u (goes_on true s) (find_truth rs t s))) (λ t s. cond t (f s) (g s)))
    by_test None h = omega (arith, le)
    by_test (Some true) h = first
    by_test (Some false) h = h

module _ (c : Scope) (join : List ℕ → Progress → Outcome (Unit {0})) (sender : Option Address) (most : List ℕ → ℕ)
    (joins_over : (x : List ℕ) (s : Progress) → IsOver (join x s)) (joins_cost : (x : List ℕ) (s : Progress) → cost_by (join x s) ≤ s.count + most x) where
  end_within : (e : End) (s : Progress) (k : ℕ) → Within (s.count + (end_cost e + end_count most e)) k (end_with c join e s)
  end_within (NextState n) s k = by_state (state_at c n.state)
    where
      by_state : (o : Option ℕ) → Within (s.count + (1 + 0)) k (end_in o s)
      by_state None = omega arith
      by_state (Some q) = omega arith
  end_within (Stop at) s k = omega arith
  end_within (Join j) s k =
      let x = j.connector.name in
      let h = joins_cost x (tick s) in
      within_over (s.count + (1 + most x)) k (join x (tick s)) (joins_over x (tick s)) (omega (arith, h))

  -- An Integer DECISION with ELSE costs at least 1 after its question.
  case_some : (choice : Choice) (k : ℕ) → has_else choice ≡ true → 1 ≤ case_budget (variables_of c.process) most choice k
  case_some nothing_else k e = absurd (let h : ⊥ = cc in h)
  case_some (otherwise body) k e = omega arith
  case_some (answer at [] body others) k e = case_some others k e
  case_some (answer at (r ∷ rs) body others) k e = omega arith

  choice_some : (c2 : Scope) (q : Tree) (choice : Choice) (k : ℕ) (t : Bool) → (t ≡ false → has_else choice ≡ true) → 1 ≤ cond t (1 + pick_budget (variables_of c.process) most choice k) (case_budget (variables_of c.process) most choice k)
  choice_some c2 q choice k true h = omega arith
  choice_some c2 q choice k false h = case_some choice k (h refl)

  mutual
    pub act_within : (t : Text) (s : Progress) (k : ℕ) → NamedText c t → Within (s.count + budget (variables_of c.process) most t k) k (act c join sender t s)
    act_within falls s k named = omega arith
    act_within (ends e) s k named = end_within e s k
    act_within (does a rest) s k named =
        let vs = variables_of c.process in
        let b = s.count + (action_cost a + budget vs most rest k) in
        within_bind b k (budget vs most rest k) (perform c sender a s) (λ _ s. act c join sender rest s)
        (within_cost b (budget vs most rest k) (s.count + action_cost a) (perform c sender a s) (perform_cost c sender a s) (omega arith))
        (λ _ v le. within_more (v.count + budget vs most rest k) b k (act c join sender rest v) le (act_within rest v k named.1))
    act_within (decides at q choice rest) s k named =
        let vs = variables_of c.process in
        let t = is_truth c q in
        let n = budget vs most rest k in
        let m = cond t (1 + pick_budget vs most choice n) (case_budget vs most choice n) in
        let b = s.count + (cost_of q + m) in
        let some = choice_some c q choice n t (integer_answered c q choice named.0.answered) in
        within_bind b k m (value_of c q s) (λ x s. then_do (decide t x s (λ x. choose c join sender choice x s) (λ u. pick c join sender choice u (tick s))) (λ _ s. act c join sender rest s))
        (within_cost b m (s.count + cost_of q) (value_of c q s) (value_cost c q s) (omega arith))
        (λ x v le. within_bind b k n (decide t x v (λ x. choose c join sender choice x v) (λ u. pick c join sender choice u (tick v))) (λ _ s. act c join sender rest s)
        (decide_within t x v (λ x. choose c join sender choice x v) (λ u. pick c join sender choice u (tick v)) b n (omega (arith, le, some))
        (λ e z. let f : m ≡ case_budget vs most choice n = ap (λ t. cond t (1 + pick_budget vs most choice n) (case_budget vs most choice n)) e in
        within_more (v.count + case_budget vs most choice n) b n (choose c join sender choice z v) (omega (arith, le, f)) (choose_within choice q z v n named.1))
        (λ e u. let f : m ≡ 1 + pick_budget vs most choice n = ap (λ t. cond t (1 + pick_budget vs most choice n) (case_budget vs most choice n)) e in
        within_more (v.count + 1 + pick_budget vs most choice n) b n (pick c join sender choice u (tick v)) (omega (arith, le, f)) (pick_within choice q u (tick v) n named.1)))
        (λ _ w le2. within_more (w.count + n) b k (act c join sender rest w) le2 (act_within rest w k named.2)))

    choose_within : (choice : Choice) (q : Tree) (z : ℤ) (s : Progress) (k : ℕ) → NamedChoice c q choice → Within (s.count + case_budget (variables_of c.process) most choice k) k (choose c join sender choice z s)
    choose_within nothing_else q z s k named = omega arith
    choose_within (otherwise body) q z s k named =
        let d = budget (variables_of c.process) most body (1 + k) in
        leave_within (s.count + (1 + d)) k (act c join sender body (tick s))
        (within_more (s.count + 1 + d) (s.count + (1 + d)) (1 + k) (act c join sender body (tick s)) (omega arith) (act_within body (tick s) (1 + k) named))
    choose_within (answer at rs body others) q z s k named =
        let vs = variables_of c.process in
        let d = budget vs most body (1 + k) in
        tries_within rs z s (λ s. leave (act c join sender body s)) (λ s. choose c join sender others z s) d (case_budget vs most others k) k
        (λ u. leave_within (u.count + d) k (act c join sender body u) (act_within body u (1 + k) named.1))
        (λ u. choose_within others q z u k named.2)

    pick_within : (choice : Choice) (q : Tree) (t : Bool) (s : Progress) (k : ℕ) → NamedChoice c q choice → Within (s.count + pick_budget (variables_of c.process) most choice k) k (pick c join sender choice t s)
    pick_within nothing_else q t s k named = omega arith
    pick_within (otherwise body) q t s k named =
        leave_within (s.count + budget (variables_of c.process) most body (1 + k)) k (act c join sender body s) (act_within body s (1 + k) named)
    pick_within (answer at rs body others) q t s k named =
        let vs = variables_of c.process in
        let d = budget vs most body (1 + k) in
        let e = pick_budget vs most others k in
        let b = s.count + max d e in
        finds_within rs t s (λ s. leave (act c join sender body s)) (λ s. pick c join sender others t s) b k (omega arith)
        (within_more (s.count + d) b k (leave (act c join sender body s)) (omega arith) (leave_within (s.count + d) k (act c join sender body s) (act_within body s (1 + k) named.1)))
        (within_more (s.count + e) b k (pick c join sender others t s) (omega arith) (pick_within others q t s k named.2))

-- ---- connections

closed_cost : (b : ℕ) (o : Outcome (Unit {0})) → Within b 0 o → cost_by (closed o) ≤ b
closed_cost b (goes_on x v) h = omega (arith, h)
closed_cost b (over e v) h = h

module _ (c : Scope) (sender : Option Address) (connections : NamedConnections c) where
  -- The longest path from a connection on, if at most n JOINs are followed.
  abbrev pub most_by : ℕ → List ℕ → ℕ
  most_by n x = joined_by (λ vs join text. budget vs join text 0) c.process n x

  pub follow_cost : (n : ℕ) (x : List ℕ) (s : Progress) → cost_by (follow c sender n x s) ≤ s.count + most_by n x
  follow_cost zero x s = omega arith
  follow_cost (suc n) x s = by_connection (connection_named c.process x) refl (λ x s. follow_cost n x s)
    where
      by_connection : (o : Option PlainConnection) → connection_named c.process x ≡ o → ((x : List ℕ) (s : Progress) → cost_by (follow c sender n x s) ≤ s.count + most_by n x)
          → cost_by (entered o s (λ t. closed (act c (follow c sender n) sender t s))) ≤ s.count + option_map_or (λ (k : PlainConnection). budget (variables_of c.process) (most_by n) k.text 0) o 0
      by_connection None e less = omega arith
      by_connection (Some k) e less =
          let place = position_or_len (λ (id : Identifier). same_name x id.name) (map connection_name c.process.connections) in
          let w = connections.texts place k (sym (found_at connection_name x c.process.connections) ∙ e) in
          closed_cost (s.count + budget (variables_of c.process) (most_by n) k.text 0) (act c (follow c sender n) sender k.text s)
          (act_within c (follow c sender n) sender (most_by n) (λ x s. follow_over c sender n x s) less k.text s 0 w.text)

  -- A whole piece.
  pub piece_cost : (q : Piece) (ps : List Value) (s : Progress) → NamedPiece c q → cost_by (then_do (take_places c ps 0 q.places s) (λ _ s. act c (join_in c sender) sender q.text s)) ≤ s.count + piece_budget c.process q
  piece_cost q ps s named =
      let n = length c.process.connections in
      let b = budget (variables_of c.process) (most_by n) q.text 0 in
      cost_bind (s.count + places_cost q.places) (s.count + piece_budget c.process q) (take_places c ps 0 q.places s) (λ _ s. act c (join_in c sender) sender q.text s) (omega arith) (take_cost c ps 0 q.places s)
      (λ _ v le. let h = cost_of_within (v.count + b) (act c (join_in c sender) sender q.text v)
      (act_within c (join_in c sender) sender (most_by n) (λ x s. follow_over c sender n x s) (λ x s. follow_cost n x s) q.text v 0 named.text.text) in
      omega (arith, h, le))
    where
      cost_of_within : (b : ℕ) (o : Outcome (Unit {0})) → Within b 0 o → cost_by o ≤ b
      cost_of_within b (goes_on x v) h = omega (arith, h)
      cost_of_within b (over e v) h = h
