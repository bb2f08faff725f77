-- The most operands at the places of a piece are those of its longest path.
use Rattle.std.proofs.Common.{◌≡◌, ℕ, zero, suc, ◌+◌, ◌<◌, ◌≤◌, max, Bool, true, false, cond, List, [], ◌∷◌, ◌++◌, length, map, Some, IsSome, refl, sym, ap, ◌∙◌, subst, arith}
use Rattle.std.specs.Prelude.{slice_get, get_or, Contains}
use Rattle.std.specs.List.{flat_map}
use Rattle.std.proofs.lemmas.List.Concat.{flat_map-append}
use Rattle.sdl_ast.specs.declared.expression.Identifier.{Identifier}
use Rattle.sdl_ast.specs.declared.tree.Join as tree_join
use Rattle.sdl_ast.specs.declared.tree.Sort as tree_sort
use Rattle.sdl_ast.specs.declared.tree.Range.{Range}
use Rattle.sdl_ast.specs.declared.tree.Range.TheVariants.{Value as IsValue, Compared, Between}
use Rattle.sdl_ast.specs.declared.tree.End.{End}
use Rattle.sdl_ast.specs.declared.tree.End.TheVariants.{NextState, Stop, Join}
use Rattle.sdl_ast.specs.Plain.{Tree, PlainAction, Text, falls, ends, does, decides, Choice, nothing_else, otherwise, answer, PlainConnection}
use Rattle.turn_code.specs.declared.value.Sort.{Sort}
use Rattle.turn_code.specs.declared.instruction.Instruction.{Instruction}
use Rattle.turn_code.specs.declared.draft.DraftSignal.{DraftSignal}
use Rattle.turn_code.specs.declared.draft.DraftVariable.{DraftVariable}
use Rattle.turn_code.specs.Rules.{greatest, depths}
use Rattle.turn_code.specs.declared.draft.PlaceFacts.{PlaceFacts}
use Rattle.turn_code.specs.Code.{sort_at}
use Rattle.sdl_tables.specs.Names.{variables_of, connection_named}
use Rattle.sdl_sound.specs.Statements.{Statement, acts, asks, covers, statements_of, choice_statements}
use Rattle.sdl_sound.specs.Sorts.{wrong_action, wrong_statement, variable_sort}
use Rattle.sdl_sound.specs.Going.{goes_on as may_go_on}
use Rattle.sdl_sound.specs.Decisions.{has_else}
use Rattle.sdl_sound.specs.Longest.{Piece, cost_of, action_cost, depth_of, action_depth, places_depth, end_count, depth, choice_depth, joined as measure_joined, piece_depth}
use Rattle.sdl_meaning.specs.Act.{is_truth}
use Rattle.sdl_meaning.specs.Outcomes.{Scope, variable_at, connector_at}
use Rattle.sdl_meaning.specs.Declarations.{sort_of_tree, drafted_signals, drafted_variables}
use Rattle.sdl_meaning.specs.Named.{NamedText, NamedChoice, NamedAction, NamedTree, NamedPiece, AreSorted}
use Rattle.sdl_compile.specs.Facts.{shapes_from}
use Rattle.sdl_meaning.specs.Code.{number_or_zero, jump, tree_code, action_code, end_code, leave_code, body_size, range_code, ranges_code, tests_code, pick_code, bodies_place, else_place, answers_place, after_choice, text_code, else_code, answers_code, bodies_code, places_code, text_at, size_at, code_joins, ArePlaced, place_in, connections_code, text_place, connections_place, piece_code}
use Rattle.sdl_compile.proofs.PlaceStretches.{after, left_shape, deepest}
use Rattle.sdl_compile.proofs.Shapes.{depth_some, tree_leads, action_leads, places_leads}
use Rattle.sdl_compile.proofs.Actions.{counted_action}
use Rattle.sdl_meaning.proofs.Sorting.{variable_sorted, signal_sorted, tree_has_sort}
use Rattle.sdl_meaning.proofs.Branches.{EachEnd, EachJoin, ChoiceJoin, integer_answered}
use Rattle.sdl_meaning.proofs.Joining.{contains_map, has_connection, each_join}
use Rattle.turn_code.proofs.Lists.{first_of as contains_first}
use Rattle.sdl_meaning.proofs.Acts.{joined_placed, placed_closed}
use Rattle.sdl_meaning.proofs.Measured.{Below, depth_below, fixed, all_placed, each_of, each_named}
use Rattle.sdl_meaning.proofs.SameMeasures.{depth_same}
use Rattle.sdl_emit.proofs.Gathering.{text_there}
use Rattle.plain_laws.proofs.Lists.{append-nil_left as nil_front, append-nil_right as nil_back}
use Rattle.sdl_compile.proofs.OwnDepths.{none_joined, own, choice_own, else_own, answers_own, both_own, AllRight, ChoiceRight}

module _ (ss : List DraftSignal) (xs : List DraftVariable) (ps : List Sort) where
  shape_joined : (s : List Sort) (a b : List Instruction) → left_shape ss xs ps s (a ++ b) ≡ left_shape ss xs ps (left_shape ss xs ps s a) b
  shape_joined s [] b = refl
  shape_joined s (x ∷ a) b = shape_joined (after ss xs ps x s) a b

  least : (s : List Sort) (code : List Instruction) → length s ≤ deepest ss xs ps s code
  least s [] = omega arith
  least s (x ∷ is) = omega arith

  deep_joined : (s : List Sort) (a b : List Instruction) → deepest ss xs ps s (a ++ b) ≡ max (deepest ss xs ps s a) (deepest ss xs ps (left_shape ss xs ps s a) b)
  deep_joined s [] b = let h = least s b in omega (arith, h)
  deep_joined s (x ∷ a) b = let h = deep_joined (after ss xs ps x s) a b in omega (arith, h)

  -- Instructions one after another, which lead from one shape to another.
  pub record Deep (s : List Sort) (code : List Instruction) (s2 : List Sort) (d : ℕ) : Type 0 where
    pub leaves : left_shape ss xs ps s code ≡ s2
    pub deep : deepest ss xs ps s code ≡ d

  deep_append : (s s1 s2 : List Sort) (a b : List Instruction) (d e f : ℕ) → Deep s a s1 d → Deep s1 b s2 e → max d e ≡ f → Deep s (a ++ b) s2 f
  deep_append s s1 s2 a b d e f h k g = record {
    leaves = shape_joined s a b ∙ ap (λ s. left_shape ss xs ps s b) h.leaves ∙ k.leaves;
    deep = let x = deep_joined s a b in let y = ap (λ s. deepest ss xs ps s b) h.leaves in omega (arith, x, y, h.deep, k.deep, g);
  }

  -- The greatest of the shapes.
  shapes_deep : (s : List Sort) (code : List Instruction) → left_shape ss xs ps s code ≡ [] → greatest (map (λ (x : List Sort). length x) (shapes_from ss xs ps s code)) ≡ deepest ss xs ps s code
  shapes_deep s [] e = let l = ap length e in omega (arith, l)
  shapes_deep s (x ∷ is) e = let h = shapes_deep (after ss xs ps x s) is e in omega (arith, h)

  module _ (c : Scope) (to : ℕ → ℕ)
      (tree_deep : (t : Tree) → NamedTree c t → (r : Sort) × Deep [] (tree_code c t) (r ∷ []) (depth_of t))
      (Right : PlainAction → Type 0) (action_deep : (a : PlainAction) → NamedAction c a → Right a → Deep [] (action_code c a) [] (action_depth a)) where
    end_deep : (e : End) → Deep [] (end_code c to e) [] (own (ends e))
    end_deep (NextState n) = record { leaves = refl; deep = refl }
    end_deep (Stop at) = record { leaves = refl; deep = refl }
    end_deep (Join j) = record { leaves = refl; deep = refl }

    leave_deep : (n : ℕ) (body : Text) → Deep [] (leave_code n body) [] 0
    leave_deep n body = by_test (may_go_on body)
      where
        by_test : (b : Bool) → Deep [] (cond b (jump n ∷ []) []) [] 0
        by_test true = record { leaves = refl; deep = refl }
        by_test false = record { leaves = refl; deep = refl }

    range_deep : (n : ℕ) (r : Range) (a : Sort) → (b : Sort) × Deep (a ∷ []) (range_code n r ∷ []) (b ∷ []) 1
    range_deep n (IsValue x) a = (_, record { leaves = refl; deep = refl })
    range_deep n (Compared at s x) a = (_, record { leaves = refl; deep = refl })
    range_deep n (Between low high) a = (_, record { leaves = refl; deep = refl })

    ranges_deep : (rs : List Range) (n : ℕ) (a : Sort) → (b : Sort) × Deep (a ∷ []) (ranges_code n rs) (b ∷ []) 1
    ranges_deep [] n a = (a, record { leaves = refl; deep = refl })
    ranges_deep (r ∷ rs) n a =
        let first = range_deep n r a in
        let rest = ranges_deep rs n first.0 in
        (rest.0, deep_append (a ∷ []) (first.0 ∷ []) (rest.0 ∷ []) (range_code n r ∷ []) (ranges_code n rs) 1 1 1 first.1 rest.1 refl)

    tests_deep : (choice : Choice) (n : ℕ) (a : Sort) → has_else choice ≡ true → Deep (a ∷ []) (tests_code c n choice) [] 1
    tests_deep nothing_else n a e = absurd (let k : ⊥ = cc in k)
    tests_deep (otherwise body) n a e = record { leaves = refl; deep = refl }
    tests_deep (answer at rs body others) n a e =
        let first = ranges_deep rs n a in
        deep_append (a ∷ []) (first.0 ∷ []) [] (ranges_code n rs) (tests_code c (n + body_size c body) others) 1 1 1 first.1 (tests_deep others (n + body_size c body) first.0 e) refl

    by_sort : (b : Bool) (choice : Choice) (a : Sort) (n f s : ℕ) (after_it : Bool → ℕ) → (b ≡ false → has_else choice ≡ true)
        → Deep [] (bodies_code c to n (after_it true) choice) [] (choice_own choice) → Deep [] (else_code c to f (after_it false) choice) [] (else_own choice) → Deep [] (answers_code c to s (after_it false) choice) [] (answers_own choice)
        → Deep (a ∷ []) (cond b (pick_code c n choice ∷ bodies_code c to n (after_it true) choice) (tests_code c s choice ++ (else_code c to f (after_it false) choice ++ answers_code c to s (after_it false) choice))) [] (max 1 (choice_own choice))
    by_sort true choice a n f s after_it e h k l =
        deep_append (a ∷ []) [] [] (pick_code c n choice ∷ []) (bodies_code c to n (after_it true) choice) 1 (choice_own choice) (max 1 (choice_own choice)) (record { leaves = refl; deep = refl }) h refl
    by_sort false choice a n f s after_it e h k l =
        deep_append (a ∷ []) [] [] (tests_code c s choice) (else_code c to f (after_it false) choice ++ answers_code c to s (after_it false) choice) 1 (choice_own choice) (max 1 (choice_own choice)) (tests_deep choice s a (e refl))
        (deep_append [] [] [] (else_code c to f (after_it false) choice) (answers_code c to s (after_it false) choice) (else_own choice) (answers_own choice) (choice_own choice) k l (both_own choice)) refl

    body_deep : (body : Text) (n after_it : ℕ) → Deep [] (text_code c to n body) [] (own body) → Deep [] (text_code c to n body ++ leave_code after_it body) [] (own body)
    body_deep body n after_it h = deep_append [] [] [] (text_code c to n body) (leave_code after_it body) (own body) 0 (own body) h (leave_deep after_it body) (omega arith)

    body_then : (body : Text) (n after_it d : ℕ) (more : List Instruction) → Deep [] (text_code c to n body) [] (own body) → Deep [] more [] d → Deep [] (text_code c to n body ++ (leave_code after_it body ++ more)) [] (max (own body) d)
    body_then body n after_it d more h k =
        deep_append [] [] [] (text_code c to n body) (leave_code after_it body ++ more) (own body) d (max (own body) d) h
        (deep_append [] [] [] (leave_code after_it body) more 0 d d (leave_deep after_it body) k (omega arith)) refl

    mutual
      pub text_deep : (t : Text) (pc : ℕ) → NamedText c t → AllRight Right t → Deep [] (text_code c to pc t) [] (own t)
      text_deep falls pc named right = record { leaves = refl; deep = refl }
      text_deep (ends e) pc named right = end_deep e
      text_deep (does a rest) pc named right =
          deep_append [] [] [] (action_code c a) (text_code c to (pc + action_cost a) rest) (action_depth a) (own rest) (max (action_depth a) (own rest)) (action_deep a named.0 right.0) (text_deep rest (pc + action_cost a) named.1 right.1) refl
      text_deep (decides at q choice rest) pc named right =
          let b = is_truth c q in
          let m = pc + cost_of q in
          let question = tree_deep q named.0.question in
          let some = depth_some q in
          let n = bodies_place m in
          let f = else_place m choice in
          let s = answers_place c m choice in
          let place = λ (b : Bool). after_choice c b m choice in
          let x = cond b (pick_code c n choice ∷ bodies_code c to n (place true) choice) (tests_code c s choice ++ (else_code c to f (place false) choice ++ answers_code c to s (place false) choice)) in
          deep_append [] (question.0 ∷ []) [] (tree_code c q) (x ++ text_code c to (place b) rest) (depth_of q) (max (max 1 (choice_own choice)) (own rest)) (max (depth_of q) (max (choice_own choice) (own rest))) question.1
          (deep_append (question.0 ∷ []) [] [] x (text_code c to (place b) rest) (max 1 (choice_own choice)) (own rest) (max (max 1 (choice_own choice)) (own rest))
          (by_sort b choice question.0 n f s place (λ e. integer_answered c q choice named.0.answered e) (bodies_deep choice n (place true) q named.1 right.0) (else_deep choice f (place false) q named.1 right.0) (answers_deep choice s (place false) q named.1 right.0))
          (text_deep rest (place b) named.2 right.1) refl)
          (omega (arith, some))

      bodies_deep : (choice : Choice) (n after_it : ℕ) (q : Tree) → NamedChoice c q choice → ChoiceRight Right choice → Deep [] (bodies_code c to n after_it choice) [] (choice_own choice)
      bodies_deep nothing_else n after_it q named right = record { leaves = refl; deep = refl }
      bodies_deep (otherwise body) n after_it q named right = body_deep body n after_it (text_deep body n named right)
      bodies_deep (answer at rs body others) n after_it q named right =
          body_then body n after_it (choice_own others) (bodies_code c to (n + body_size c body) after_it others) (text_deep body n named.1 right.0) (bodies_deep others (n + body_size c body) after_it q named.2 right.1)

      else_deep : (choice : Choice) (n after_it : ℕ) (q : Tree) → NamedChoice c q choice → ChoiceRight Right choice → Deep [] (else_code c to n after_it choice) [] (else_own choice)
      else_deep nothing_else n after_it q named right = record { leaves = refl; deep = refl }
      else_deep (otherwise body) n after_it q named right = body_deep body n after_it (text_deep body n named right)
      else_deep (answer at rs body others) n after_it q named right = else_deep others n after_it q named.2 right.1

      answers_deep : (choice : Choice) (n after_it : ℕ) (q : Tree) → NamedChoice c q choice → ChoiceRight Right choice → Deep [] (answers_code c to n after_it choice) [] (answers_own choice)
      answers_deep nothing_else n after_it q named right = record { leaves = refl; deep = refl }
      answers_deep (otherwise body) n after_it q named right = record { leaves = refl; deep = refl }
      answers_deep (answer at rs body others) n after_it q named right =
          body_then body n after_it (answers_own others) (answers_code c to (n + body_size c body) after_it others) (text_deep body n named.1 right.0) (answers_deep others (n + body_size c body) after_it q named.2 right.1)

    -- Connections one after another.
    abbrev pub most_own : List ℕ → ℕ
    most_own [] = 0
    most_own (n ∷ ns) = max (own (text_at c n)) (most_own ns)

    pub connections_deep : (ns : List ℕ) (p : ℕ) → ((n : ℕ) → Contains ns n → NamedText c (text_at c n) × AllRight Right (text_at c n)) → Deep [] (connections_code c to p ns) [] (most_own ns)
    connections_deep [] p h = record { leaves = refl; deep = refl }
    connections_deep (n ∷ ns) p h =
        let here = h n (contains_first n ns) in
        deep_append [] [] [] (text_code c to p (text_at c n)) (connections_code c to (p + size_at c n) ns) (own (text_at c n)) (most_own ns) (max (own (text_at c n)) (most_own ns)) (text_deep (text_at c n) p here.0 here.1)
        (connections_deep ns (p + size_at c n) (λ m k. h m (suc k.0, omega (arith, k.1), k.2))) refl

-- ---- with the connections that it joins

own_end : (join : List ℕ → ℕ) (e : End) → end_count none_joined e ≤ end_count join e
own_end join (NextState n) = omega arith
own_end join (Stop at) = omega arith
own_end join (Join j) = omega arith

mutual
  own_below : (join : List ℕ → ℕ) (t : Text) → own t ≤ depth join t
  own_below join falls = omega arith
  own_below join (ends e) = own_end join e
  own_below join (does a rest) = let h = own_below join rest in omega (arith, h)
  own_below join (decides at q choice rest) = let h = own_below join rest in let k = choice_own_below join choice in omega (arith, h, k)

  choice_own_below : (join : List ℕ → ℕ) (choice : Choice) → choice_own choice ≤ choice_depth join choice
  choice_own_below join nothing_else = omega arith
  choice_own_below join (otherwise body) = own_below join body
  choice_own_below join (answer at rs body others) = let h = own_below join body in let k = choice_own_below join others in omega (arith, h, k)

end_above : (c : Scope) (join : List ℕ → ℕ) (b : ℕ) (e : End) → EachEnd (Below c join b) e → end_count join e ≤ max (end_count none_joined e) b
end_above c join b (NextState n) h = omega arith
end_above c join b (Stop at) h = omega arith
end_above c join b (Join j) h = omega (arith, h)

mutual
  -- The depth is at most that of the text itself, or the greatest of those that it joins.
  depth_above : (c : Scope) (join : List ℕ → ℕ) (b : ℕ) (t : Text) → EachJoin (Below c join b) t → depth join t ≤ max (own t) b
  depth_above c join b falls h = omega arith
  depth_above c join b (ends e) h = end_above c join b e h
  depth_above c join b (does a rest) h = let k = depth_above c join b rest h in omega (arith, k)
  depth_above c join b (decides at q choice rest) h = let k = depth_above c join b rest h.1 in let l = choice_above c join b choice h.0 in omega (arith, k, l)

  choice_above : (c : Scope) (join : List ℕ → ℕ) (b : ℕ) (choice : Choice) → ChoiceJoin (Below c join b) choice → choice_depth join choice ≤ max (choice_own choice) b
  choice_above c join b nothing_else h = omega arith
  choice_above c join b (otherwise body) h = depth_above c join b body h
  choice_above c join b (answer at rs body others) h = let k = depth_above c join b body h.0 in let l = choice_above c join b others h.1 in omega (arith, k, l)

pub record HasDepth (c : Scope) (b n : ℕ) : Type 0 where
  pub connection : PlainConnection
  pub there : slice_get c.process.connections n ≡ Some connection
  pub low : depth (measure_joined (λ vs. depth) c.process) connection.text ≤ b

module _ (c : Scope) (q : Piece) (ns : List ℕ) (placed : ArePlaced c q.text ns) (named : NamedPiece c q) where
  abbrev pub joined_depth : List ℕ → ℕ
  joined_depth = measure_joined (λ vs. depth) c.process

  depth_fixed : (n : ℕ) (x : List ℕ) (k : PlainConnection) → slice_get c.process.connections n ≡ Some k → connection_named c.process x ≡ Some k → joined_depth x ≡ depth joined_depth k.text
  depth_fixed n x k at is = fixed c named.connections (λ vs. depth) (λ f g t h. depth_same (variables_of c.process) f g t h) n x k at is

  abbrev pub most : List ℕ → ℕ
  most [] = 0
  most (n ∷ ms) = max (own (text_at c n)) (most ms)

  most_at : (ms : List ℕ) (n k : ℕ) → k < length ms → get_or ms k n ≡ n → own (text_at c n) ≤ most ms
  most_at [] n k lt e = absurd (omega (arith, lt))
  most_at (m ∷ ms) n zero lt e = let f = ap (λ m. own (text_at c m)) e in omega (arith, f)
  most_at (m ∷ ms) n (suc k) lt e = let h = most_at ms n k (omega (arith, lt)) e in omega (arith, h)

  all_low : (ms : List ℕ) (b : ℕ) → ((n : ℕ) → Contains ms n → own (text_at c n) ≤ b) → most ms ≤ b
  all_low [] b h = omega arith
  all_low (m ∷ ms) b h = let k = h m (contains_first m ms) in let l = all_low ms b (λ n k. h n (suc k.0, omega (arith, k.1), k.2)) in omega (arith, k, l)

  -- Each placed number has a connection, which is no deeper than the whole.
  low_text : (t : Text) (b : ℕ) → NamedText c t → depth joined_depth t ≤ b → (j : tree_join.Join) → Contains (code_joins c t) j → HasDepth c b (number_or_zero (connector_at c j.connector))
  low_text t b named_t le j at =
      let some = each_of c (λ (j : tree_join.Join). IsSome (connector_at c j.connector)) t j (each_named c t named_t) at in
      let w = has_connection c j.connector some in
      let low = each_of c (Below c joined_depth b) t j (depth_below c joined_depth t b le) at in
      let is = depth_fixed (number_or_zero (connector_at c j.connector)) j.connector.name w.connection w.there w.named in
      record { connection = w.connection; there = w.there; low = omega (arith, low, is) }

  pub has_depth : (n : ℕ) → Contains ns n → HasDepth c (depth joined_depth q.text) n
  has_depth n h = all_placed c q.text ns placed (HasDepth c (depth joined_depth q.text))
      (λ j at. low_text q.text (depth joined_depth q.text) named.text.text (omega arith) j at)
      (λ m w j at. low_text w.connection.text (depth joined_depth q.text) (named.connections.texts m w.connection w.there).text w.low j (subst (λ t. Contains (code_joins c t) j) (text_there c m w.connection w.there) at)) n h

  -- A connection is no deeper than the greatest of those that are placed.
  up_to : (fuel n : ℕ) (k : PlainConnection) → slice_get c.process.connections n ≡ Some k → Contains ns n → named.connections.steps n < fuel → depth joined_depth k.text ≤ most ns
  up_to zero n k at there lt = absurd (omega (arith, lt))
  up_to (suc fuel) n k at there lt =
      let w = named.connections.texts n k at in
      let t = text_there c n k at in
      let each = each_join c (Below c joined_depth (most ns)) k.text w.text
      (λ j a b some. let r = has_connection c j.connector some in
      let m = number_or_zero (connector_at c j.connector) in
      let less = named.connections.fewer n m k j at a r.number in
      let in_it = placed_closed c q.text ns placed n m there (subst (λ t. Contains (map (λ (j : tree_join.Join). number_or_zero (connector_at c j.connector)) (code_joins c t)) m) (sym t) (contains_map (λ (j : tree_join.Join). number_or_zero (connector_at c j.connector)) (code_joins c k.text) j b)) in
      let h = up_to fuel m r.connection r.there in_it (omega (arith, less, lt)) in
      let is = depth_fixed m j.connector.name r.connection r.there r.named in
      omega (arith, h, is)) in
      let above = depth_above c joined_depth (most ns) k.text each in
      let here = most_at ns n there.0 there.1 there.2 in
      let same = ap own t in
      omega (arith, above, here, same)

  pub depth_whole : max (own q.text) (most ns) ≡ depth joined_depth q.text
  depth_whole =
      let low = own_below joined_depth q.text in
      let others = all_low ns (depth joined_depth q.text) (λ n h. let w = has_depth n h in let a = own_below joined_depth w.connection.text in let e = ap own (text_there c n w.connection w.there) in let l = w.low in omega (arith, a, e, l)) in
      let each = each_join c (Below c joined_depth (most ns)) q.text named.text.text
      (λ j a b some. let r = has_connection c j.connector some in
      let m = number_or_zero (connector_at c j.connector) in
      let there = joined_placed c q.text ns placed m (contains_map (λ (j : tree_join.Join). number_or_zero (connector_at c j.connector)) (code_joins c q.text) j b) in
      let h = up_to (suc (named.connections.steps m)) m r.connection r.there there (omega arith) in
      let is = depth_fixed m j.connector.name r.connection r.there r.named in
      omega (arith, h, is)) in
      let above = depth_above c joined_depth (most ns) q.text each in
      omega (arith, low, others, above)

-- ---- a whole piece

module _ (c : Scope) where
  abbrev IsFit : PlainAction → Type 0
  IsFit a = wrong_action c.block (variables_of c.process) a ≡ []

  abbrev wrong : Statement → List ℕ
  wrong s = wrong_statement c.block (variables_of c.process) s

  mutual
    all_right : (t : Text) → flat_map wrong (statements_of t) ≡ [] → AllRight IsFit t
    all_right falls e = tt
    all_right (ends x) e = tt
    all_right (does a rest) e = (nil_front (wrong (acts a)) (flat_map wrong (statements_of rest)) e, all_right rest (nil_back (wrong (acts a)) (flat_map wrong (statements_of rest)) e))
    all_right (decides at q choice rest) e =
        let others = nil_back (wrong (asks at q choice)) (flat_map wrong (choice_statements q choice ++ statements_of rest)) e in
        let parts = sym (flat_map-append wrong (choice_statements q choice) (statements_of rest)) ∙ others in (
          choice_right choice q (nil_front (flat_map wrong (choice_statements q choice)) (flat_map wrong (statements_of rest)) parts),
          all_right rest (nil_back (flat_map wrong (choice_statements q choice)) (flat_map wrong (statements_of rest)) parts),
        )

    choice_right : (choice : Choice) (q : Tree) → flat_map wrong (choice_statements q choice) ≡ [] → ChoiceRight IsFit choice
    choice_right nothing_else q e = tt
    choice_right (otherwise body) q e = all_right body e
    choice_right (answer at rs body others) q e =
        let behind = nil_back (wrong (covers q rs)) (flat_map wrong (statements_of body ++ choice_statements q others)) e in
        let parts = sym (flat_map-append wrong (statements_of body) (choice_statements q others)) ∙ behind in (
          all_right body (nil_front (flat_map wrong (statements_of body)) (flat_map wrong (choice_statements q others)) parts),
          choice_right others q (nil_back (flat_map wrong (statements_of body)) (flat_map wrong (choice_statements q others)) parts),
        )

  module _ (ps : List Sort) where
    abbrev ss : List DraftSignal
    ss = drafted_signals c.block

    abbrev xs : List DraftVariable
    xs = drafted_variables c.process

    sorted : (n : Identifier) (s : tree_sort.Sort) → IsSome (variable_at c n) → variable_sort (variables_of c.process) n.name ≡ Some s → sort_at xs (number_or_zero (variable_at c n)) ≡ sort_of_tree s ∷ []
    sorted n s some e = variable_sorted (variables_of c.process) n.name s some e

    tree_deep : (t : Tree) → NamedTree c t → (r : Sort) × Deep ss xs ps [] (tree_code c t) (r ∷ []) (depth_of t)
    tree_deep t named =
        let h = tree_has_sort c t named in
        let l = tree_leads c ss xs ps sorted t h.sort [] (record { 0 = 0 }) named h.is in
        (sort_of_tree h.sort, record { leaves = l.leaves; deep = let d = l.depth_is in omega (arith, d) })

    action_deep : (a : PlainAction) → NamedAction c a → IsFit a → Deep ss xs ps [] (action_code c a) [] (action_depth a)
    action_deep a named fit =
        let l = action_leads c ss xs ps sorted a (record { 0 = 0 }) named (counted_action c ss (λ n some. signal_sorted c.block n.name some) a named fit) in
        record { leaves = l.leaves; deep = l.depth_is }

    pub piece_deep : (q : Piece) (ns : List ℕ) → ArePlaced c q.text ns → NamedPiece c q → AreSorted c q.text → length q.places ≤ length ps
        → greatest (map (λ (x : List Sort). length x) (shapes_from ss xs ps [] (piece_code c q ns))) ≡ piece_depth c.process q
    piece_deep q ns placed named fits le =
        let to = place_in c (connections_place c q) ns in
        let a = places_code c 0 q.places in
        let b = text_code c to (text_place q) q.text in
        let d = connections_code c to (connections_place c q) ns in
        let l = places_leads c ss xs ps sorted q.places 0 (record { 0 = 0 }) named.places (omega (arith, le)) in
        let first : Deep ss xs ps [] a [] (places_depth q.places) = record { leaves = l.leaves; deep = l.depth_is } in
        let text = text_deep ss xs ps c to tree_deep IsFit action_deep q.text (text_place q) named.text.text (all_right q.text fits) in
        let others = connections_deep ss xs ps c to tree_deep IsFit action_deep ns (connections_place c q)
        (λ n h. let w = has_depth c q ns placed named n h in
        let t = text_there c n w.connection w.there in (
          subst (NamedText c) (sym t) (named.connections.texts n w.connection w.there).text,
          subst (AllRight IsFit) (sym t) (all_right w.connection.text (named.connections.sorted n w.connection w.there)),
        )) in
        let rest = deep_append ss xs ps [] [] [] b d (own q.text) (most c q ns placed named ns) (max (own q.text) (most c q ns placed named ns)) text others refl in
        let all = deep_append ss xs ps [] [] [] a (b ++ d) (places_depth q.places) (max (own q.text) (most c q ns placed named ns)) (max (places_depth q.places) (max (own q.text) (most c q ns placed named ns))) first rest refl in
        let whole = depth_whole c q ns placed named in
        let shapes = shapes_deep ss xs ps [] (piece_code c q ns) all.leaves in
        omega (arith, shapes, all.deep, whole)

    depths_are : (fs : List PlaceFacts) → greatest (depths fs) ≡ greatest (map (λ (x : List Sort). length x) (map (λ (f : PlaceFacts). f.shape) fs))
    depths_are [] = refl
    depths_are (f ∷ fs) = ap (max (length f.shape)) (depths_are fs)

    -- As above, for the facts of the places.
    pub facts_deep : (q : Piece) (ns : List ℕ) → ArePlaced c q.text ns → NamedPiece c q → AreSorted c q.text → length q.places ≤ length ps → (code : List Instruction) (fs : List PlaceFacts) → code ≡ piece_code c q ns
        → map (λ (f : PlaceFacts). f.shape) fs ≡ shapes_from (drafted_signals c.block) (drafted_variables c.process) ps [] code → greatest (depths fs) ≡ piece_depth c.process q
    facts_deep q ns placed named fits le code fs is shaped =
        depths_are fs ∙ ap (λ (l : List (List Sort)). greatest (map (λ (x : List Sort). length x) l)) (shaped ∙ ap (shapes_from ss xs ps []) is) ∙ piece_deep q ns placed named fits le
