-- The sets at the places of a piece are those that its text has.
use Rattle.std.proofs.Common.{◌≡◌, ℕ, ◌+◌, Bool, true, false, cond, List, [], ◌∷◌, ◌++◌, length, map, Option, Some, None, refl, sym, ap, ◌∙◌, append_assoc}
use Rattle.std.proofs.lemmas.List.{map-append}
use Rattle.sdl_ast.specs.declared.expression.Identifier.{Identifier}
use Rattle.sdl_ast.specs.declared.expression.UnaryOperator.{UnaryOperator}
use Rattle.sdl_ast.specs.declared.expression.UnaryOperator.TheVariants.{Negate, Not}
use Rattle.sdl_ast.specs.declared.expression.BinaryOperator.{BinaryOperator}
use Rattle.sdl_ast.specs.declared.expression.BinaryOperator.TheVariants.{Or, Xor, And, Equal, NotEqual, Less, LessEqual, Greater, GreaterEqual, Add, Subtract, Multiply, Divide, Modulo, Remainder}
use Rattle.sdl_ast.specs.declared.tree.Destination.{Destination}
use Rattle.sdl_ast.specs.declared.tree.Range.{Range}
use Rattle.sdl_ast.specs.declared.tree.Range.TheVariants as ranges
use Rattle.sdl_ast.specs.declared.tree.End.{End}
use Rattle.sdl_ast.specs.declared.tree.End.TheVariants.{NextState, Stop, Join}
use Rattle.sdl_ast.specs.Plain.{Tree, number, truth, variable, unary, binary, PlainAssignment, PlainSending, PlainAction, task, output, set_timer, reset_timer, Text, falls, ends, does, decides, Choice, nothing_else, otherwise, answer}
use Rattle.turn_code.specs.declared.value.Sort.{Sort}
use Rattle.turn_code.specs.declared.value.Sort.TheVariants.{Integer, Boolean}
use Rattle.turn_code.specs.declared.instruction.Instruction.{Instruction}
use Rattle.turn_code.specs.declared.variable_set.VariableSet.{VariableSet}
use Rattle.turn_code.specs.declared.draft.DraftSignal.{DraftSignal}
use Rattle.turn_code.specs.declared.draft.DraftVariable.{DraftVariable}
use Rattle.turn_code.specs.Code.{set_after}
use Rattle.turn_code.specs.Sets.{with_variable}
use Rattle.sdl_sound.specs.Going.{goes_on}
use Rattle.sdl_sound.specs.Longest.{Piece, is_division, cost_of, action_cost}
use Rattle.sdl_meaning.specs.Act.{is_truth, divisor_of}
use Rattle.sdl_meaning.specs.Outcomes.{Scope, variable_at, timer_at, signal_at}
use Rattle.sdl_meaning.specs.Code.{number_or_zero, store, set_to, put, jump, unary_code, binary_code, division_code, tree_code, trees_code, tasks_code, receiver_code, sendings_code, action_code, end_code, leave_code, body_size, range_code, ranges_code, tests_code, pick_code, bodies_place, else_place, answers_place, after_choice, places_code, text_at, size_at, place_in, connections_place, text_place}
use Rattle.sdl_compile.specs.Reads.{action_set, left, choice_left, places_set}
use Rattle.sdl_compile.specs.Entries.{entry_at}
use Rattle.sdl_compile.specs.Facts.{tree_sets, trees_sets, sendings_sets, tasks_sets, action_sets, ranges_sets, tests_sets, leave_sets, text_sets, else_sets, answers_sets, places_sets, connections_sets}
use Rattle.sdl_compile.proofs.PlaceStretches.{after, left_set}
use Rattle.sdl_compile.proofs.Spots.{Spot, sets_at, over, leave_spots, text_spots, else_spots, answers_spots, bodies_spots, connections_spots, piece_spots}

-- The sets at instructions one after another.
abbrev sets_over : VariableSet → List Instruction → List VariableSet
sets_over m [] = []
sets_over m (x ∷ is) = m ∷ sets_over (set_after x m) is

sets_joined : (m : VariableSet) (a b : List Instruction) → sets_over m (a ++ b) ≡ sets_over m a ++ sets_over (left_set m a) b
sets_joined m [] b = refl
sets_joined m (x ∷ a) b = ap (λ l. m ∷ l) (sets_joined (set_after x m) a b)

-- instructions that set nothing
abbrev Quiet : List Instruction → Type 0
Quiet [] = Unit {0}
Quiet (x ∷ is) = ((m : VariableSet) → set_after x m ≡ m) × Quiet is

quiet_append : (a b : List Instruction) → Quiet a → Quiet b → Quiet (a ++ b)
quiet_append [] b h k = k
quiet_append (x ∷ a) b h k = (h.0, quiet_append a b h.1 k)

-- This set, once for each instruction.
abbrev keep : VariableSet → List Instruction → List VariableSet
keep m is = map (λ (x : Instruction). m) is

quiet_sets : (m : VariableSet) (code : List Instruction) → Quiet code → sets_over m code ≡ keep m code
quiet_sets m [] h = refl
quiet_sets m (x ∷ is) h = ap (λ n. m ∷ sets_over n is) (h.0 m) ∙ ap (λ l. m ∷ l) (quiet_sets m is h.1)

quiet_left : (m : VariableSet) (code : List Instruction) → Quiet code → left_set m code ≡ m
quiet_left m [] h = refl
quiet_left m (x ∷ is) h = ap (λ n. left_set n is) (h.0 m) ∙ quiet_left m is h.1

unary_quiet : (op : UnaryOperator) (m : VariableSet) → set_after (unary_code op) m ≡ m
unary_quiet Negate m = refl
unary_quiet Not m = refl

binary_quiet : (b : Bool) (op : BinaryOperator) (m : VariableSet) → set_after (binary_code b op) m ≡ m
binary_quiet b Or m = refl
binary_quiet b Xor m = refl
binary_quiet b And m = refl
binary_quiet true Equal m = refl
binary_quiet false Equal m = refl
binary_quiet true NotEqual m = refl
binary_quiet false NotEqual m = refl
binary_quiet b Less m = refl
binary_quiet b LessEqual m = refl
binary_quiet b Greater m = refl
binary_quiet b GreaterEqual m = refl
binary_quiet b Add m = refl
binary_quiet b Subtract m = refl
binary_quiet b Multiply m = refl
binary_quiet b Divide m = refl
binary_quiet b Modulo m = refl
binary_quiet b Remainder m = refl

division_quiet : (op : BinaryOperator) (u : Tree) (m : VariableSet) → set_after (division_code op (divisor_of u)) m ≡ m
division_quiet Divide u m = refl
division_quiet Modulo u m = refl
division_quiet Or u m = refl
division_quiet Xor u m = refl
division_quiet And u m = refl
division_quiet Equal u m = refl
division_quiet NotEqual u m = refl
division_quiet Less u m = refl
division_quiet LessEqual u m = refl
division_quiet Greater u m = refl
division_quiet GreaterEqual u m = refl
division_quiet Add u m = refl
division_quiet Subtract u m = refl
division_quiet Multiply u m = refl
division_quiet Remainder u m = refl

tree_quiet : (c : Scope) (t : Tree) → Quiet (tree_code c t)
tree_quiet c (number at k) = (λ m. refl, tt)
tree_quiet c (truth at b) = (λ m. refl, tt)
tree_quiet c (variable at n) = (λ m. refl, tt)
tree_quiet c (unary at op t) = quiet_append (tree_code c t) (unary_code op ∷ []) (tree_quiet c t) (unary_quiet op, tt)
tree_quiet c (binary at op t u) = by_division (is_division op) (tree_quiet c t) (tree_quiet c u)
  where
    by_division : (b : Bool) → Quiet (tree_code c t) → Quiet (tree_code c u)
        → Quiet (cond b (tree_code c t ++ division_code op (divisor_of u) ∷ []) (tree_code c t ++ (tree_code c u ++ binary_code (is_truth c t) op ∷ [])))
    by_division true h k = quiet_append (tree_code c t) (division_code op (divisor_of u) ∷ []) h (division_quiet op u, tt)
    by_division false h k =
        quiet_append (tree_code c t) (tree_code c u ++ binary_code (is_truth c t) op ∷ []) h
        (quiet_append (tree_code c u) (binary_code (is_truth c t) op ∷ []) k (binary_quiet (is_truth c t) op, tt))

trees_quiet : (c : Scope) (ts : List Tree) → Quiet (trees_code c ts)
trees_quiet c [] = tt
trees_quiet c (t ∷ ts) = quiet_append (tree_code c t) (trees_code c ts) (tree_quiet c t) (trees_quiet c ts)

sendings_quiet : (c : Scope) (to : Option Destination) (list : List PlainSending) → Quiet (sendings_code c to list)
sendings_quiet c to [] = tt
sendings_quiet c to (x ∷ rest) =
    quiet_append (trees_code c x.parameters) (put (number_or_zero (signal_at c x.signal)) (receiver_code c to x.signal) (length x.parameters) ∷ sendings_code c to rest) (trees_quiet c x.parameters) (λ m. refl, sendings_quiet c to rest)

tree_keeps : (c : Scope) (t : Tree) (m : VariableSet) → keep m (tree_code c t) ≡ tree_sets m t
tree_keeps c (number at k) m = refl
tree_keeps c (truth at b) m = refl
tree_keeps c (variable at n) m = refl
tree_keeps c (unary at op t) m = map-append (λ (x : Instruction). m) (tree_code c t) (unary_code op ∷ []) ∙ ap (λ l. l ++ m ∷ []) (tree_keeps c t m)
tree_keeps c (binary at op t u) m = by_division (is_division op) (tree_keeps c t m) (tree_keeps c u m)
  where
    by_division : (b : Bool) → keep m (tree_code c t) ≡ tree_sets m t → keep m (tree_code c u) ≡ tree_sets m u
        → keep m (cond b (tree_code c t ++ division_code op (divisor_of u) ∷ []) (tree_code c t ++ (tree_code c u ++ binary_code (is_truth c t) op ∷ []))) ≡ cond b (tree_sets m t ++ m ∷ []) (tree_sets m t ++ (tree_sets m u ++ m ∷ []))
    by_division true h k = map-append (λ (x : Instruction). m) (tree_code c t) (division_code op (divisor_of u) ∷ []) ∙ ap (λ l. l ++ m ∷ []) h
    by_division false h k =
        map-append (λ (x : Instruction). m) (tree_code c t) (tree_code c u ++ binary_code (is_truth c t) op ∷ [])
        ∙ ap (λ l. l ++ keep m (tree_code c u ++ binary_code (is_truth c t) op ∷ [])) h
        ∙ ap (λ l. tree_sets m t ++ l) (map-append (λ (x : Instruction). m) (tree_code c u) (binary_code (is_truth c t) op ∷ []) ∙ ap (λ l. l ++ m ∷ []) k)

tree_over : (c : Scope) (t : Tree) (m : VariableSet) → sets_over m (tree_code c t) ≡ tree_sets m t
tree_over c t m = quiet_sets m (tree_code c t) (tree_quiet c t) ∙ tree_keeps c t m

trees_keeps : (c : Scope) (ts : List Tree) (m : VariableSet) → keep m (trees_code c ts) ≡ trees_sets m ts
trees_keeps c [] m = refl
trees_keeps c (t ∷ ts) m =
    map-append (λ (x : Instruction). m) (tree_code c t) (trees_code c ts) ∙ ap (λ l. l ++ keep m (trees_code c ts)) (tree_keeps c t m) ∙ ap (λ l. tree_sets m t ++ l) (trees_keeps c ts m)

sendings_keeps : (c : Scope) (to : Option Destination) (list : List PlainSending) (m : VariableSet) → keep m (sendings_code c to list) ≡ sendings_sets m list
sendings_keeps c to [] m = refl
sendings_keeps c to (x ∷ rest) m =
    let a = trees_code c x.parameters in
    let b = sendings_code c to rest in
    map-append (λ (x : Instruction). m) a (put (number_or_zero (signal_at c x.signal)) (receiver_code c to x.signal) (length x.parameters) ∷ b)
    ∙ ap (λ l. l ++ m ∷ keep m b) (trees_keeps c x.parameters m) ∙ ap (λ l. trees_sets m x.parameters ++ m ∷ l) (sendings_keeps c to rest m)

tasks_over : (c : Scope) (ts : List PlainAssignment) (m : VariableSet) → sets_over m (tasks_code c ts) ≡ tasks_sets c m ts
tasks_over c [] m = refl
tasks_over c (a ∷ ts) m =
    let code = tree_code c a.value in
    let v = number_or_zero (variable_at c a.variable) in
    let rest = store v ∷ tasks_code c ts in
    let quiet = tree_quiet c a.value in
    sets_joined m code rest ∙ ap (λ l. l ++ sets_over (left_set m code) rest) (tree_over c a.value m)
    ∙ ap (λ n. tree_sets m a.value ++ sets_over n rest) (quiet_left m code quiet)
    ∙ ap (λ l. tree_sets m a.value ++ m ∷ l) (tasks_over c ts (with_variable m v))

action_over : (c : Scope) (a : PlainAction) (m : VariableSet) → sets_over m (action_code c a) ≡ action_sets c m a
action_over c (task at ts) m = tasks_over c ts m
action_over c (output at list to) m = quiet_sets m (sendings_code c to list) (sendings_quiet c to list) ∙ sendings_keeps c to list m
action_over c (set_timer at u n) m =
    let code = tree_code c u in
    let last = set_to (number_or_zero (timer_at c n)) ∷ [] in
    let quiet = tree_quiet c u in
    sets_joined m code last ∙ ap (λ l. l ++ sets_over (left_set m code) last) (tree_over c u m) ∙ ap (λ n. tree_sets m u ++ sets_over n last) (quiet_left m code quiet)
action_over c (reset_timer at n) m = refl

end_over : (c : Scope) (to : ℕ → ℕ) (e : End) (m : VariableSet) → sets_over m (end_code c to e) ≡ m ∷ []
end_over c to (NextState n) m = refl
end_over c to (Stop at) m = refl
end_over c to (Join j) m = refl

leave_over : (after : ℕ) (body : Text) (m : VariableSet) → sets_over m (leave_code after body) ≡ leave_sets m body
leave_over after body m = by_going (goes_on body)
  where
    by_going : (b : Bool) → sets_over m (cond b (jump after ∷ []) []) ≡ cond b (m ∷ []) []
    by_going true = refl
    by_going false = refl

range_over : (n : ℕ) (r : Range) (is : List Instruction) (m : VariableSet) → sets_over m (range_code n r ∷ is) ≡ m ∷ sets_over m is
range_over n (ranges.Value k) is m = refl
range_over n (ranges.Compared at r k) is m = refl
range_over n (ranges.Between low high) is m = refl

ranges_over : (n : ℕ) (rs : List Range) (is : List Instruction) (m : VariableSet) → sets_over m (ranges_code n rs ++ is) ≡ ranges_sets m rs ++ sets_over m is
ranges_over n [] is m = refl
ranges_over n (r ∷ rs) is m = range_over n r (ranges_code n rs ++ is) m ∙ ap (λ l. m ∷ l) (ranges_over n rs is m)

tests_over : (c : Scope) (choice : Choice) (n : ℕ) (m : VariableSet) → sets_over m (tests_code c n choice) ≡ tests_sets m choice
tests_over c nothing_else n m = refl
tests_over c (otherwise body) n m = refl
tests_over c (answer at rs body others) n m =
    ranges_over n rs (tests_code c (n + body_size c body) others) m ∙ ap (λ l. ranges_sets m rs ++ l) (tests_over c others (n + body_size c body) m)

places_over : (c : Scope) (places : List (Option Identifier)) (j : ℕ) (m : VariableSet) → sets_over m (places_code c j places) ≡ places_sets c m places
places_over c [] j m = refl
places_over c (None ∷ places) j m = places_over c places (j + 1) m
places_over c (Some n ∷ places) j m = ap (λ l. m ∷ m ∷ l) (places_over c places (j + 1) (with_variable m (number_or_zero (variable_at c n))))

module _ (ss : List DraftSignal) (xs : List DraftVariable) (ps : List Sort) where
  over_sets : (s : List Sort) (m : VariableSet) (code : List Instruction) → sets_at (over ss xs ps s m code) ≡ sets_over m code
  over_sets s m [] = refl
  over_sets s m (x ∷ is) = ap (λ l. m ∷ l) (over_sets (after ss xs ps x s) (set_after x m) is)

  both : (a b : List Spot) (x y : List VariableSet) → sets_at a ≡ x → sets_at b ≡ y → sets_at (a ++ b) ≡ x ++ y
  both a b x y e f = map-append (λ (p : Spot). p.set) a b ∙ ap (λ l. l ++ sets_at b) e ∙ ap (λ l. x ++ l) f

  by_sort : (b : Bool) (a a2 : List Spot) (x y : List VariableSet) → sets_at a ≡ x → sets_at a2 ≡ y → sets_at (cond b a a2) ≡ cond b x y
  by_sort true a a2 x y e f = e
  by_sort false a a2 x y e f = f

  module _ (c : Scope) (to : ℕ → ℕ) where
    abbrev T : ℕ → VariableSet → Text → List Spot
    T n m t = text_spots ss xs ps c to n m t

    abbrev O : List Sort → VariableSet → List Instruction → List Spot
    O s m code = over ss xs ps s m code

    body_set_at : (body : Text) (n end : ℕ) (m : VariableSet) → sets_at (T n m body) ≡ text_sets c m body → sets_at (T n m body ++ leave_spots ss xs ps c to end (left c m body) body) ≡ text_sets c m body ++ leave_sets (left c m body) body
    body_set_at body n end m h =
        both (T n m body) (leave_spots ss xs ps c to end (left c m body) body) (text_sets c m body) (leave_sets (left c m body) body) h
        (over_sets [] (left c m body) (leave_code end body) ∙ leave_over end body (left c m body))

    mutual
      pub text_set_at : (t : Text) (n : ℕ) (m : VariableSet) → sets_at (text_spots ss xs ps c to n m t) ≡ text_sets c m t
      text_set_at falls n m = refl
      text_set_at (ends e) n m = over_sets [] m (end_code c to e) ∙ end_over c to e m
      text_set_at (does a rest) n m =
          both (O [] m (action_code c a)) (T (n + action_cost a) (action_set c m a) rest) (action_sets c m a) (text_sets c (action_set c m a) rest)
          (over_sets [] m (action_code c a) ∙ action_over c a m) (text_set_at rest (n + action_cost a) (action_set c m a))
      text_set_at (decides at q choice rest) n m =
          let k = n + cost_of q in
          let pick = pick_code c (bodies_place k) choice in
          let tests = tests_code c (answers_place c k choice) choice in
          let b1 = bodies_spots ss xs ps c to (bodies_place k) (after_choice c true k choice) m choice in
          let a1 = O (Boolean ∷ []) m (pick ∷ []) ++ b1 in
          let e2 = else_spots ss xs ps c to (else_place k choice) (after_choice c false k choice) m choice in
          let b2 = answers_spots ss xs ps c to (answers_place c k choice) (after_choice c false k choice) m choice in
          let a2 = O (Integer ∷ []) m tests ++ (e2 ++ b2) in
          let x1 = m ∷ (answers_sets c m choice ++ else_sets c m choice) in
          let x2 = tests_sets m choice ++ (else_sets c m choice ++ answers_sets c m choice) in
          let middle = cond (is_truth c q) a1 a2 in
          let next = after_choice c (is_truth c q) k choice in
          ap sets_at (sym (append_assoc (O [] m (tree_code c q)) middle (T next (choice_left c m choice) rest)))
          ∙ both (O [] m (tree_code c q) ++ middle) (T next (choice_left c m choice) rest) (tree_sets m q ++ cond (is_truth c q) x1 x2) (text_sets c (choice_left c m choice) rest)
          (both (O [] m (tree_code c q)) middle (tree_sets m q) (cond (is_truth c q) x1 x2) (over_sets [] m (tree_code c q) ∙ tree_over c q m)
          (by_sort (is_truth c q) a1 a2 x1 x2
          (both (O (Boolean ∷ []) m (pick ∷ [])) b1 (m ∷ []) (answers_sets c m choice ++ else_sets c m choice) refl (bodies_set_at choice (bodies_place k) (after_choice c true k choice) m))
          (both (O (Integer ∷ []) m tests) (e2 ++ b2) (tests_sets m choice) (else_sets c m choice ++ answers_sets c m choice) (over_sets (Integer ∷ []) m tests ∙ tests_over c choice (answers_place c k choice) m)
          (both e2 b2 (else_sets c m choice) (answers_sets c m choice) (else_set_at choice (else_place k choice) (after_choice c false k choice) m) (answers_set_at choice (answers_place c k choice) (after_choice c false k choice) m)))))
          (text_set_at rest next (choice_left c m choice))

      else_set_at : (choice : Choice) (n end : ℕ) (m : VariableSet) → sets_at (else_spots ss xs ps c to n end m choice) ≡ else_sets c m choice
      else_set_at nothing_else n end m = refl
      else_set_at (otherwise body) n end m = body_set_at body n end m (text_set_at body n m)
      else_set_at (answer at rs body others) n end m = else_set_at others n end m

      answers_set_at : (choice : Choice) (n end : ℕ) (m : VariableSet) → sets_at (answers_spots ss xs ps c to n end m choice) ≡ answers_sets c m choice
      answers_set_at nothing_else n end m = refl
      answers_set_at (otherwise body) n end m = refl
      answers_set_at (answer at rs body others) n end m =
          let p = n + body_size c body in
          let leave = leave_spots ss xs ps c to end (left c m body) body in
          let more = answers_spots ss xs ps c to p end m others in
          ap sets_at (sym (append_assoc (T n m body) leave more))
          ∙ both (T n m body ++ leave) more (text_sets c m body ++ leave_sets (left c m body) body) (answers_sets c m others) (body_set_at body n end m (text_set_at body n m)) (answers_set_at others p end m)

      bodies_set_at : (choice : Choice) (n end : ℕ) (m : VariableSet) → sets_at (bodies_spots ss xs ps c to n end m choice) ≡ answers_sets c m choice ++ else_sets c m choice
      bodies_set_at nothing_else n end m = refl
      bodies_set_at (otherwise body) n end m = body_set_at body n end m (text_set_at body n m)
      bodies_set_at (answer at rs body others) n end m =
          let p = n + body_size c body in
          let leave = leave_spots ss xs ps c to end (left c m body) body in
          let more = bodies_spots ss xs ps c to p end m others in
          let own = text_sets c m body ++ leave_sets (left c m body) body in
          ap sets_at (sym (append_assoc (T n m body) leave more))
          ∙ both (T n m body ++ leave) more own (answers_sets c m others ++ else_sets c m others) (body_set_at body n end m (text_set_at body n m)) (bodies_set_at others p end m)
          ∙ sym (append_assoc own (answers_sets c m others) (else_sets c m others))

    connections_set_at : (es : List VariableSet) (p : ℕ) (ns : List ℕ) → sets_at (connections_spots ss xs ps c to es p ns) ≡ connections_sets c es ns
    connections_set_at es p [] = refl
    connections_set_at es p (n ∷ ns) =
        both (T p (entry_at es n) (text_at c n)) (connections_spots ss xs ps c to es (p + size_at c n) ns) (text_sets c (entry_at es n) (text_at c n)) (connections_sets c es ns)
        (text_set_at (text_at c n) p (entry_at es n)) (connections_set_at es (p + size_at c n) ns)

  pub piece_set_at : (c : Scope) (m : VariableSet) (q : Piece) (es : List VariableSet) (ns : List ℕ)
      → sets_at (piece_spots ss xs ps c m q es ns) ≡ places_sets c m q.places ++ (text_sets c (places_set c m q.places) q.text ++ connections_sets c es ns)
  piece_set_at c m q es ns =
      let to = place_in c (connections_place c q) ns in
      let places = places_code c 0 q.places in
      let text = text_spots ss xs ps c to (text_place q) (places_set c m q.places) q.text in
      let others = connections_spots ss xs ps c to es (connections_place c q) ns in
      both (over ss xs ps [] m places) (text ++ others) (places_sets c m q.places) (text_sets c (places_set c m q.places) q.text ++ connections_sets c es ns) (over_sets [] m places ∙ places_over c q.places 0 m)
      (both text others (text_sets c (places_set c m q.places) q.text) (connections_sets c es ns) (text_set_at c to q.text (text_place q) (places_set c m q.places)) (connections_set_at c to es (connections_place c q) ns))
