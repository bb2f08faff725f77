-- Each place of a piece is right: those of its text, and those of the connections to which it leads.
use Rattle.std.proofs.Common.{◌≡◌, ℕ, zero, suc, ◌+◌, ◌≤◌, Bool, true, false, cond, List, [], ◌∷◌, ◌++◌, length, map, Option, Some, None, IsSome, refl, sym, ap, ◌∙◌, subst, arith, length-append, append_assoc, nat_eq}
use Rattle.std.specs.Prelude.{slice_get, Contains, zip}
use Rattle.std.specs.List.{flat_map}
use Rattle.std.specs.Option.{option_map_or}
use Rattle.std.proofs.lemmas.List.{length-map}
use Rattle.sdl_ast.specs.declared.tree.Sort as tree_sort
use Rattle.sdl_ast.specs.declared.tree.Join as tree_join
use Rattle.sdl_ast.specs.declared.tree.End.{End}
use Rattle.sdl_ast.specs.declared.tree.End.TheVariants.{NextState, Stop, Join}
use Rattle.sdl_ast.specs.Plain.{Text, falls, ends, does, decides, PlainConnection}
use Rattle.turn_code.specs.declared.value.Sort.{Sort}
use Rattle.turn_code.specs.declared.instruction.Instruction.{Instruction}
use Rattle.turn_code.specs.declared.variable_set.VariableSet.{VariableSet}
use Rattle.turn_code.specs.declared.draft.Draft.{Draft}
use Rattle.turn_code.specs.Transitions.{Transition}
use Rattle.sdl_tables.specs.Names.{Variable, variables_of}
use Rattle.sdl_sound.specs.Actions.{Origin}
use Rattle.sdl_sound.specs.Going.{goes_on}
use Rattle.sdl_sound.specs.Sorts.{wrong_place}
use Rattle.sdl_sound.specs.Longest.{Piece, action_cost, size}
use Rattle.sdl_meaning.specs.Outcomes.{Scope, connector_at}
use Rattle.sdl_meaning.specs.Code.{number_or_zero, tree_code, action_code, end_code, code_joins, joined, ArePlaced, text_at, size_at, place_in, connections_place, text_place, places_code}
use Rattle.sdl_meaning.specs.Named.{NamedText, NamedConnections, NamedPiece}
use Rattle.sdl_meaning.specs.Declarations.{sort_of_tree}
use Rattle.sdl_compile.specs.Reads.{action_set, places_set, ReadText}
use Rattle.sdl_compile.specs.Entries.{entry_at}
use Rattle.sdl_meaning.proofs.Sizes.{tree_size, action_size, places_size}
use Rattle.sdl_compile.proofs.PlaceStretches.{left_set}
use Rattle.sdl_compile.proofs.Shapes.{action_leads, places_leads}
use Rattle.sdl_compile.proofs.Actions.{Stands, Reaching, counted_action, places_right}
use Rattle.sdl_meaning.proofs.Branches.{EachJoin}
use Rattle.sdl_meaning.proofs.Joining.{contains_map, has_connection, each_join}
use Rattle.sdl_meaning.proofs.Acts.{joined_placed, placed_closed, tail_contains}
use Rattle.sdl_compile.proofs.Entering.{number_at, TextFits}
use Rattle.sdl_compile.proofs.Spots.{Spot, over, text_spots, connections_spots, piece_spots}
use Rattle.sdl_compile.proofs.RightTexts.{RightText}
use Rattle.sdl_compile.proofs.Stretches.{Enters, AllFine, HasSpots, Chain, has_front, has_back, fine_append, chain_append, enters_here}
use Rattle.sdl_compile.proofs.Fine.{Begins, stretch, text_fine}
use Rattle.sdl_compile.proofs.TextLengths.{text_length, over_length}
use Rattle.std.proofs.lemmas.Bool.{eqb-true as same_place}
use Rattle.sdl_compile.proofs.Piecewise.{cost_some}

not_ended : {P : Type 0} (b : Bool) → b ≡ false → b ≡ true → P
not_ended true e f = absurd (let k : ⊥ = cc in k)
not_ended false e f = absurd (let k : ⊥ = cc in k)

module _ (d : Draft) (t : Transition) (all : List Spot) where
  abbrev O : List Sort → VariableSet → List Instruction → List Spot
  O s m code = over d.signals t.process.variables t.parameters s m code

  -- A place without operands at which these variables are set.
  pub record Start (m : VariableSet) (k : ℕ) : Type 0 where
    pub spot : Spot
    pub there : slice_get all k ≡ Some spot
    pub shape : spot.shape ≡ []
    pub set : spot.set ≡ m

  pub start_enters : (m : VariableSet) (k : ℕ) → Start m k → Enters d t all [] m k
  start_enters m k s =
      let e = enters_here d t all k s.spot s.there in
      subst (λ m. Enters d t all [] m k) s.set (subst (λ s2. Enters d t all s2 s.spot.set k) s.shape e)

  over_start : (code : List Instruction) (rest : List Spot) (m : VariableSet) (k : ℕ) → 1 ≤ length code → HasSpots d t all k (O [] m code ++ rest) → Start m k
  over_start [] rest m k some has = absurd (omega (arith, some))
  over_start (x ∷ is) rest m k some has = record { spot = record { instruction = x; shape = []; set = m }; there = has.0; shape = refl; set = refl }

  -- A stretch that may be empty.
  over_then : (code : List Instruction) (rest : List Spot) (m m2 : VariableSet) (k n : ℕ) → k + length code ≡ n → left_set m code ≡ m2 → HasSpots d t all k (O [] m code ++ rest) → (HasSpots d t all n rest → Start m2 n) → Start m k
  over_then [] rest m m2 k n e f has more =
      let same : k ≡ n = omega (arith, e) in
      let h = more (subst (λ k. HasSpots d t all k rest) same has) in
      subst (λ m. Start m k) (sym f) (subst (λ k. Start m2 k) (sym same) h)
  over_then (x ∷ is) rest m m2 k n e f has more = record { spot = record { instruction = x; shape = []; set = m }; there = has.0; shape = refl; set = refl }

  module _ (c : Scope) (stands : Stands c d t) (is : List Origin) (reaching : Reaching c d t is) (to : ℕ → ℕ) (es : List VariableSet) where
    abbrev T : ℕ → VariableSet → Text → List Spot
    T n m u = text_spots d.signals t.process.variables t.parameters c to n m u

    abbrev vs : List Variable
    vs = variables_of c.process

    end_start : (e : End) (m : VariableSet) (k : ℕ) → HasSpots d t all k (T k m (ends e)) → Start m k
    end_start (NextState n) m k has = over_start (end_code c to (NextState n)) [] m k (omega arith) has
    end_start (Stop at) m k has = over_start (end_code c to (Stop at)) [] m k (omega arith) has
    end_start (Join j) m k has = over_start (end_code c to (Join j)) [] m k (omega arith) has

    -- A text that doesn't run off its end begins with its set.
    pub text_start : (u : Text) (m : VariableSet) (k : ℕ) → NamedText c u → RightText c is u → goes_on u ≡ false → HasSpots d t all k (T k m u) → Start m k
    text_start falls m k named right ended has = absurd (let k : ⊥ = cc in k)
    text_start (ends e) m k named right ended has = end_start e m k has
    text_start (does a rest) m k named right ended has =
        let m2 = action_set c m a in
        let p = k + action_cost a in
        let leads = action_leads c d.signals t.process.variables t.parameters stands.sorted a m named.0 (counted_action c d.signals stands.parameters a named.0 right.0.0) in
        over_then (action_code c a) (T p m2 rest) m m2 k p (let s = action_size c a in omega (arith, s)) leads.sets_to has (λ has. text_start rest m2 p named.1 right.1 ended has)
    text_start (decides at q choice rest) m k named right ended has =
        over_start (tree_code c q) _ m k (let s = tree_size c q in let o = cost_some q in omega (arith, s, o)) has

    -- ---- connections one after another

    abbrev Others : ℕ → List ℕ → List Spot
    Others p ns = connections_spots d.signals t.process.variables t.parameters c to es p ns

    connection_stands : (ns : List ℕ) (p n : ℕ) → HasSpots d t all p (Others p ns) → Contains ns n → HasSpots d t all (place_in c p ns n) (T (place_in c p ns n) (entry_at es n) (text_at c n))
    connection_stands [] p n has there = absurd (omega (arith, there.1))
    connection_stands (m ∷ ms) p n has there =
        let a = T p (entry_at es m) (text_at c m) in
        let q = p + size_at c m in
        let long : p + length a ≡ q = let l = text_length d t c to p (entry_at es m) (text_at c m) in omega (arith, l) in
        by_test (nat_eq m n) refl (has_front d t all a (Others q ms) p has) (λ there. connection_stands ms q n (has_back d t all a (Others q ms) p q long has) there)
      where
        by_test : (b : Bool) → nat_eq m n ≡ b → HasSpots d t all p (T p (entry_at es m) (text_at c m))
            → (Contains ms n → HasSpots d t all (place_in c (p + size_at c m) ms n) (T (place_in c (p + size_at c m) ms n) (entry_at es n) (text_at c n)))
            → HasSpots d t all (cond b p (place_in c (p + size_at c m) ms n)) (T (cond b p (place_in c (p + size_at c m) ms n)) (entry_at es n) (text_at c n))
        by_test true e here there = subst (λ n. HasSpots d t all p (T p (entry_at es n) (text_at c n))) (same_place m n e) here
        by_test false e here more = more (tail_contains m ms n e there)

    module _ (ns : List ℕ) (connections : NamedConnections c)
        (rights : (n : ℕ) (k : PlainConnection) → Contains ns n → slice_get c.process.connections n ≡ Some k → RightText c is k.text)
        (reads : (n : ℕ) (k : PlainConnection) → slice_get c.process.connections n ≡ Some k → ReadText c t.process.states (entry_at es n) k.text)
        (fits : (n : ℕ) (k : PlainConnection) → slice_get c.process.connections n ≡ Some k → TextFits c es (entry_at es n) k.text) where
      text_is : (n : ℕ) (k : PlainConnection) → slice_get c.process.connections n ≡ Some k → text_at c n ≡ k.text
      text_is n k e = ap (λ o. option_map_or (λ (k : PlainConnection). k.text) o falls) e

      -- A JOIN to a connection that exists leads to the place where it begins.
      begins : (p : ℕ) (j : tree_join.Join) → HasSpots d t all p (Others p ns) → ((n : ℕ) → to n ≡ place_in c p ns n) → IsSome (connector_at c j.connector) → Contains ns (number_at c j.connector) → Begins d t all c stands is reaching to es j
      begins p j has places some there =
          let h = has_connection c j.connector some in
          let n = number_at c j.connector in
          let k = h.connection in
          let e = text_is n k h.there in
          let own = connections.texts n k h.there in
          let stands_there = subst (λ u. HasSpots d t all (place_in c p ns n) (T (place_in c p ns n) (entry_at es n) u)) e (connection_stands ns p n has there) in
          let start = text_start k.text (entry_at es n) (place_in c p ns n) own.text (rights n k there h.there) own.ended stands_there in
          subst (λ q. Enters d t all [] (entry_at es n) q) (sym (places n)) (start_enters (entry_at es n) (place_in c p ns n) start)

      text_begins : (p : ℕ) (u : Text) → HasSpots d t all p (Others p ns) → ((n : ℕ) → to n ≡ place_in c p ns n) → NamedText c u → ((m : ℕ) → Contains (joined c u) m → Contains ns m) → EachJoin (Begins d t all c stands is reaching to es) u
      text_begins p u has places named inside =
          each_join c (Begins d t all c stands is reaching to es) u named
          (λ j first second some. begins p j has places some (inside (number_at c j.connector) (contains_map (λ (j : tree_join.Join). number_or_zero (connector_at c j.connector)) (code_joins c u) j second)))

      others_fine : (ms : List ℕ) (p first : ℕ) → HasSpots d t all first (Others first ns) → ((n : ℕ) → to n ≡ place_in c first ns n) → ((n m : ℕ) → Contains ns n → Contains (joined c (text_at c n)) m → Contains ns m)
          → ((n : ℕ) → Contains ms n → Contains ns n) → HasSpots d t all p (Others p ms) → AllFine d t all p (Others p ms) × Chain d t all [] (Others p ms) []
      others_fine [] p first whole places closed among has = (tt, refl)
      others_fine (n ∷ ms) p first whole places closed among has =
          let a = T p (entry_at es n) (text_at c n) in
          let q = p + size_at c n in
          let long : p + length a ≡ q = let l = text_length d t c to p (entry_at es n) (text_at c n) in omega (arith, l) in
          let here = among n (zero, omega arith, refl) in
          let more = others_fine ms q first whole places closed (λ m h. among m (suc h.0, (let lt = h.1 in omega (arith, lt)), h.2)) (has_back d t all a (Others q ms) p q long has) in
          let own = by_found (slice_get c.process.connections n) refl here (has_front d t all a (Others q ms) p has) in
          (fine_append d t all a (Others q ms) p q long own.0 more.0, chain_append d t all a (Others q ms) [] [] [] own.1 more.1)
        where
          by_found : (o : Option PlainConnection) → slice_get c.process.connections n ≡ o → Contains ns n → HasSpots d t all p (T p (entry_at es n) (option_map_or (λ (k : PlainConnection). k.text) o falls))
              → AllFine d t all p (T p (entry_at es n) (option_map_or (λ (k : PlainConnection). k.text) o falls)) × Chain d t all [] (T p (entry_at es n) (option_map_or (λ (k : PlainConnection). k.text) o falls)) []
          by_found None e there has = (tt, refl)
          by_found (Some k) e there has =
              let own = connections.texts n k e in
              let s = text_fine d t all c stands is reaching to es k.text p (p + size vs k.text) (entry_at es n) refl has own.text (rights n k there e) (reads n k e) (fits n k e)
              (text_begins first k.text whole places own.text (λ m h. closed n m there (subst (λ u. Contains (joined c u) m) (sym (text_is n k e)) h)))
              (λ g. not_ended (goes_on k.text) own.ended g) in
              (s.fine, s.chain)

-- ---- a piece

at_end : (before l : List Spot) (p : Spot) (k : ℕ) → length before ≡ k → slice_get (before ++ p ∷ l) k ≡ Some p
at_end [] l p zero f = refl
at_end [] l p (suc k) f = absurd (omega (arith, f))
at_end (x ∷ before) l p zero f = absurd (omega (arith, f))
at_end (x ∷ before) l p (suc k) f = at_end before l p k (omega (arith, f))

-- A list has its own places.
stands_behind : (d : Draft) (t : Transition) (all before l : List Spot) (k : ℕ) → all ≡ before ++ l → length before ≡ k → HasSpots d t all k l
stands_behind d t all before [] k e f = tt
stands_behind d t all before (p ∷ l) k e f = (
  ap (λ x. slice_get x k) e ∙ at_end before l p k f,
  stands_behind d t all (before ++ p ∷ []) l (k + 1) (e ∙ sym (append_assoc before (p ∷ []) l)) (omega (arith, f, length-append before (p ∷ []))),
)

module _ (d : Draft) (t : Transition) (c : Scope) (stands : Stands c d t) (is : List Origin) (reaching : Reaching c d t is) (q : Piece) (ns : List ℕ) (es : List VariableSet) (m : VariableSet) where
  abbrev pub all : List Spot
  all = piece_spots d.signals t.process.variables t.parameters c m q es ns

  abbrev to : ℕ → ℕ
  to = place_in c (connections_place c q) ns

  -- The facts known of the places of a piece.
  pub record Made : Type 0 where
    pub fine : AllFine d t all 0 all
    pub start : Start d t all m 0
    pub chain : Chain d t all [] all []

  pub piece_made : NamedPiece c q → ArePlaced c q.text ns → RightText c is q.text → ((n : ℕ) (k : PlainConnection) → Contains ns n → slice_get c.process.connections n ≡ Some k → RightText c is k.text)
      → (sorts : List tree_sort.Sort) → length q.places ≤ length sorts → t.parameters ≡ map sort_of_tree sorts → flat_map (wrong_place (variables_of c.process)) (zip sorts q.places) ≡ []
      → ReadText c t.process.states (places_set c m q.places) q.text → ((n : ℕ) (k : PlainConnection) → slice_get c.process.connections n ≡ Some k → ReadText c t.process.states (entry_at es n) k.text)
      → TextFits c es (places_set c m q.places) q.text → ((n : ℕ) (k : PlainConnection) → slice_get c.process.connections n ≡ Some k → TextFits c es (entry_at es n) k.text) → Made
  piece_made named placed right rights sorts le params w read reads fit fits =
      let vs = variables_of c.process in
      let m2 = places_set c m q.places in
      let places = places_code c 0 q.places in
      let a = over d.signals t.process.variables t.parameters [] m places in
      let n = text_place q in
      let p = connections_place c q in
      let b = text_spots d.signals t.process.variables t.parameters c to n m2 q.text in
      let o = connections_spots d.signals t.process.variables t.parameters c to es p ns in
      let whole : HasSpots d t all 0 (a ++ (b ++ o)) = stands_behind d t all [] all 0 refl refl in
      let la : 0 + length a ≡ n = let x = over_length d t [] m places in let y = places_size c 0 q.places in omega (arith, x, y) in
      let lb : n + length b ≡ p = let x = text_length d t c to n m2 q.text in omega (arith, x) in
      let has_text = has_back d t all a (b ++ o) 0 n la whole in
      let has_b = has_front d t all b o n has_text in
      let has_o = has_back d t all b o n p lb has_text in
      let joins = text_begins d t all c stands is reaching to es ns named.connections rights reads fits p q.text has_o (λ n. refl) named.text.text (joined_placed c q.text ns placed) in
      let text = text_fine d t all c stands is reaching to es q.text n p m2 refl has_b named.text.text right read fit joins (λ g. not_ended (goes_on q.text) named.text.ended g) in
      let others = others_fine d t all c stands is reaching to es ns named.connections rights reads fits ns p p has_o (λ n. refl) (placed_closed c q.text ns placed) (λ n h. h) has_o in
      let e = ap length params in
      let k = length-map sorts sort_of_tree in
      let leads = places_leads c d.signals t.process.variables t.parameters stands.sorted q.places 0 m named.places (omega (arith, le, e, k)) in
      let text_begin = text_start d t all c stands is reaching to es q.text m2 n named.text.text right named.text.ended has_b in
      let first = stretch d t all c stands is reaching to es places [] [] m m2 0 n _ _ _ leads (let y = places_size c 0 q.places in omega (arith, y))
      (places_right c d t stands is reaching q.places sorts 0 m named.places le params w) (has_front d t all a (b ++ o) 0 whole) text.enters in
      record {
        fine = fine_append d t all a (b ++ o) 0 n la first.fine (fine_append d t all b o n p lb text.fine others.0);
        start = over_then d t all places (b ++ o) m m2 0 n (let y = places_size c 0 q.places in omega (arith, y)) leads.sets_to whole (λ has. text_begin);
        chain = chain_append d t all a (b ++ o) [] [] [] first.chain (chain_append d t all b o [] [] [] text.chain others.1);
      }
