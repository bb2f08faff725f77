-- The places of a piece: each instruction with its operands and the variables that are set.
use Rattle.std.proofs.Common.{◌≡◌, ℕ, ◌+◌, Bool, true, false, cond, List, [], ◌∷◌, ◌++◌, map, refl, ap, ◌∙◌}
use Rattle.std.proofs.lemmas.List.{map-append}
use Rattle.sdl_ast.specs.Plain.{Text, falls, ends, does, decides, Choice, nothing_else, otherwise, answer}
use Rattle.turn_code.specs.declared.value.Sort.{Sort}
use Rattle.turn_code.specs.declared.value.Sort.TheVariants.{Integer, Boolean}
use Rattle.turn_code.specs.declared.instruction.Instruction.{Instruction}
use Rattle.turn_code.specs.declared.variable_set.VariableSet.{VariableSet}
use Rattle.turn_code.specs.declared.draft.DraftSignal.{DraftSignal}
use Rattle.turn_code.specs.declared.draft.DraftVariable.{DraftVariable}
use Rattle.turn_code.specs.Code.{set_after}
use Rattle.sdl_sound.specs.Longest.{Piece, cost_of, action_cost}
use Rattle.sdl_meaning.specs.Act.{is_truth}
use Rattle.sdl_meaning.specs.Outcomes.{Scope}
use Rattle.sdl_meaning.specs.Code.{tree_code, action_code, end_code, leave_code, body_size, tests_code, pick_code, bodies_place, else_place, answers_place, after_choice, text_code, else_code, answers_code, bodies_code, places_code, text_at, size_at, connections_code, place_in, connections_place, text_place, piece_code}
use Rattle.sdl_compile.specs.Reads.{action_set, left, choice_left, places_set}
use Rattle.sdl_compile.specs.Entries.{entry_at}
use Rattle.sdl_compile.proofs.PlaceStretches.{after}

pub record Spot : Type 0 where
  pub instruction : Instruction
  pub shape : List Sort
  pub set : VariableSet

abbrev pub instructions : List Spot → List Instruction
instructions l = map (λ (p : Spot). p.instruction) l

abbrev pub shapes : List Spot → List (List Sort)
shapes l = map (λ (p : Spot). p.shape) l

abbrev pub sets_at : List Spot → List VariableSet
sets_at l = map (λ (p : Spot). p.set) l

module _ (ss : List DraftSignal) (xs : List DraftVariable) (ps : List Sort) where
  -- Instructions one after another.
  abbrev pub over : List Sort → VariableSet → List Instruction → List Spot
  over s m [] = []
  over s m (x ∷ is) = record { instruction = x; shape = s; set = m } ∷ over (after ss xs ps x s) (set_after x m) is

  module _ (c : Scope) (to : ℕ → ℕ) where
    abbrev pub leave_spots : ℕ → VariableSet → Text → List Spot
    leave_spots after m body = over [] m (leave_code after body)

    abbrev mutual
      -- The places of the code of a text.
      pub text_spots : ℕ → VariableSet → Text → List Spot
      text_spots n m falls = []
      text_spots n m (ends e) = over [] m (end_code c to e)
      text_spots n m (does a rest) = over [] m (action_code c a) ++ text_spots (n + action_cost a) (action_set c m a) rest
      text_spots n m (decides at q choice rest) =
          over [] m (tree_code c q) ++ (
          (cond (is_truth c q)
          (over (Boolean ∷ []) m (pick_code c (bodies_place (n + cost_of q)) choice ∷ [])
          ++ bodies_spots (bodies_place (n + cost_of q)) (after_choice c true (n + cost_of q) choice) m choice)
          (over (Integer ∷ []) m (tests_code c (answers_place c (n + cost_of q) choice) choice)
          ++ (else_spots (else_place (n + cost_of q) choice) (after_choice c false (n + cost_of q) choice) m choice
          ++ answers_spots (answers_place c (n + cost_of q) choice) (after_choice c false (n + cost_of q) choice) m choice)))
          ++ text_spots (after_choice c (is_truth c q) (n + cost_of q) choice) (choice_left c m choice) rest)

      pub else_spots : ℕ → ℕ → VariableSet → Choice → List Spot
      else_spots n after m nothing_else = []
      else_spots n after m (otherwise body) = text_spots n m body ++ leave_spots after (left c m body) body
      else_spots n after m (answer at rs body others) = else_spots n after m others

      pub answers_spots : ℕ → ℕ → VariableSet → Choice → List Spot
      answers_spots n after m nothing_else = []
      answers_spots n after m (otherwise body) = []
      answers_spots n after m (answer at rs body others) =
          text_spots n m body ++ (leave_spots after (left c m body) body ++ answers_spots (n + body_size c body) after m others)

      pub bodies_spots : ℕ → ℕ → VariableSet → Choice → List Spot
      bodies_spots n after m nothing_else = []
      bodies_spots n after m (otherwise body) = text_spots n m body ++ leave_spots after (left c m body) body
      bodies_spots n after m (answer at rs body others) =
          text_spots n m body ++ (leave_spots after (left c m body) body ++ bodies_spots (n + body_size c body) after m others)

    abbrev pub connections_spots : List VariableSet → ℕ → List ℕ → List Spot
    connections_spots es p [] = []
    connections_spots es p (n ∷ ns) = text_spots p (entry_at es n) (text_at c n) ++ connections_spots es (p + size_at c n) ns

  -- The places of a piece with these connections, which begin with these sets.
  abbrev pub piece_spots : Scope → VariableSet → Piece → List VariableSet → List ℕ → List Spot
  piece_spots c m q es ns =
      over [] m (places_code c 0 q.places)
      ++ (text_spots c (place_in c (connections_place c q) ns) (text_place q) (places_set c m q.places) q.text
      ++ connections_spots c (place_in c (connections_place c q) ns) es (connections_place c q) ns)

  -- ---- their instructions are the code

  pub over_instructions : (s : List Sort) (m : VariableSet) (code : List Instruction) → instructions (over s m code) ≡ code
  over_instructions s m [] = refl
  over_instructions s m (x ∷ is) = ap (λ l. x ∷ l) (over_instructions (after ss xs ps x s) (set_after x m) is)

  both : (a b : List Spot) (x y : List Instruction) → instructions a ≡ x → instructions b ≡ y → instructions (a ++ b) ≡ x ++ y
  both a b x y e f = map-append (λ (p : Spot). p.instruction) a b ∙ ap (λ l. l ++ instructions b) e ∙ ap (λ l. x ++ l) f

  by_sort : (b : Bool) (a a2 : List Spot) (x y : List Instruction) → instructions a ≡ x → instructions a2 ≡ y → instructions (cond b a a2) ≡ cond b x y
  by_sort true a a2 x y e f = e
  by_sort false a a2 x y e f = f

  module _ (c : Scope) (to : ℕ → ℕ) where
    abbrev T : ℕ → VariableSet → Text → List Spot
    T n m t = text_spots c to n m t

    mutual
      pub text_instructions : (t : Text) (n : ℕ) (m : VariableSet) → instructions (text_spots c to n m t) ≡ text_code c to n t
      text_instructions falls n m = refl
      text_instructions (ends e) n m = over_instructions [] m (end_code c to e)
      text_instructions (does a rest) n m =
          both (over [] m (action_code c a)) (T (n + action_cost a) (action_set c m a) rest) (action_code c a) (text_code c to (n + action_cost a) rest)
          (over_instructions [] m (action_code c a)) (text_instructions rest (n + action_cost a) (action_set c m a))
      text_instructions (decides at q choice rest) n m =
          let k = n + cost_of q in
          let pick = pick_code c (bodies_place k) choice in
          let tests = tests_code c (answers_place c k choice) choice in
          let x1 = pick ∷ bodies_code c to (bodies_place k) (after_choice c true k choice) choice in
          let a1 = over (Boolean ∷ []) m (pick ∷ []) ++ bodies_spots c to (bodies_place k) (after_choice c true k choice) m choice in
          let otherwise_code = else_code c to (else_place k choice) (after_choice c false k choice) choice in
          let answered_code = answers_code c to (answers_place c k choice) (after_choice c false k choice) choice in
          let x2 = tests ++ (otherwise_code ++ answered_code) in
          let e2 = else_spots c to (else_place k choice) (after_choice c false k choice) m choice in
          let b2 = answers_spots c to (answers_place c k choice) (after_choice c false k choice) m choice in
          let a2 = over (Integer ∷ []) m tests ++ (e2 ++ b2) in
          let middle = cond (is_truth c q) a1 a2 in
          let next = after_choice c (is_truth c q) k choice in
          both (over [] m (tree_code c q)) (middle ++ T next (choice_left c m choice) rest) (tree_code c q) (cond (is_truth c q) x1 x2 ++ text_code c to next rest)
          (over_instructions [] m (tree_code c q))
          (both middle (T next (choice_left c m choice) rest) (cond (is_truth c q) x1 x2) (text_code c to next rest)
          (by_sort (is_truth c q) a1 a2 x1 x2
          (both (over (Boolean ∷ []) m (pick ∷ [])) (bodies_spots c to (bodies_place k) (after_choice c true k choice) m choice) (pick ∷ []) (bodies_code c to (bodies_place k) (after_choice c true k choice) choice)
          refl (bodies_instructions choice (bodies_place k) (after_choice c true k choice) m))
          (both (over (Integer ∷ []) m tests) (e2 ++ b2) tests (otherwise_code ++ answered_code) (over_instructions (Integer ∷ []) m tests)
          (both e2 b2 otherwise_code answered_code (else_instructions choice (else_place k choice) (after_choice c false k choice) m) (answers_instructions choice (answers_place c k choice) (after_choice c false k choice) m))))
          (text_instructions rest next (choice_left c m choice)))

      pub else_instructions : (choice : Choice) (n after : ℕ) (m : VariableSet) → instructions (else_spots c to n after m choice) ≡ else_code c to n after choice
      else_instructions nothing_else n after m = refl
      else_instructions (otherwise body) n after m =
          both (T n m body) (leave_spots c to after (left c m body) body) (text_code c to n body) (leave_code after body) (text_instructions body n m) (over_instructions [] (left c m body) (leave_code after body))
      else_instructions (answer at rs body others) n after m = else_instructions others n after m

      pub answers_instructions : (choice : Choice) (n after : ℕ) (m : VariableSet) → instructions (answers_spots c to n after m choice) ≡ answers_code c to n after choice
      answers_instructions nothing_else n after m = refl
      answers_instructions (otherwise body) n after m = refl
      answers_instructions (answer at rs body others) n after m =
          let p = n + body_size c body in
          let leave = leave_spots c to after (left c m body) body in
          both (T n m body) (leave ++ answers_spots c to p after m others) (text_code c to n body) (leave_code after body ++ answers_code c to p after others) (text_instructions body n m)
          (both leave (answers_spots c to p after m others) (leave_code after body) (answers_code c to p after others) (over_instructions [] (left c m body) (leave_code after body)) (answers_instructions others p after m))

      pub bodies_instructions : (choice : Choice) (n after : ℕ) (m : VariableSet) → instructions (bodies_spots c to n after m choice) ≡ bodies_code c to n after choice
      bodies_instructions nothing_else n after m = refl
      bodies_instructions (otherwise body) n after m =
          both (T n m body) (leave_spots c to after (left c m body) body) (text_code c to n body) (leave_code after body) (text_instructions body n m) (over_instructions [] (left c m body) (leave_code after body))
      bodies_instructions (answer at rs body others) n after m =
          let p = n + body_size c body in
          let leave = leave_spots c to after (left c m body) body in
          both (T n m body) (leave ++ bodies_spots c to p after m others) (text_code c to n body) (leave_code after body ++ bodies_code c to p after others) (text_instructions body n m)
          (both leave (bodies_spots c to p after m others) (leave_code after body) (bodies_code c to p after others) (over_instructions [] (left c m body) (leave_code after body)) (bodies_instructions others p after m))

    pub connections_instructions : (es : List VariableSet) (p : ℕ) (ns : List ℕ) → instructions (connections_spots c to es p ns) ≡ connections_code c to p ns
    connections_instructions es p [] = refl
    connections_instructions es p (n ∷ ns) =
        both (T p (entry_at es n) (text_at c n)) (connections_spots c to es (p + size_at c n) ns) (text_code c to p (text_at c n)) (connections_code c to (p + size_at c n) ns)
        (text_instructions (text_at c n) p (entry_at es n)) (connections_instructions es (p + size_at c n) ns)

  pub piece_instructions : (c : Scope) (m : VariableSet) (q : Piece) (es : List VariableSet) (ns : List ℕ) → instructions (piece_spots c m q es ns) ≡ piece_code c q ns
  piece_instructions c m q es ns =
      let to = place_in c (connections_place c q) ns in
      let places = places_code c 0 q.places in
      let text = text_spots c to (text_place q) (places_set c m q.places) q.text in
      let others = connections_spots c to es (connections_place c q) ns in
      both (over [] m places) (text ++ others) places (text_code c to (text_place q) q.text ++ connections_code c to (connections_place c q) ns) (over_instructions [] m places)
      (both text others (text_code c to (text_place q) q.text) (connections_code c to (connections_place c q) ns) (text_instructions c to q.text (text_place q) (places_set c m q.places)) (connections_instructions c to es (connections_place c q) ns))
