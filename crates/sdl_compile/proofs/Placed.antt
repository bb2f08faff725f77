-- The transitions that the compiler makes for a process keep every rule.
use Rattle.std.proofs.Common.{◌≡◌, ℕ, zero, suc, ◌<◌, ◌≤◌, true, false, List, [], ◌∷◌, ◌⊎◌, inl, inr, ⊎_elim, length, Option, Some, None, IsSome, map, refl, sym, ap, ◌∙◌, subst, arith}
use Rattle.std.specs.Prelude.{slice_get, All, Contains, option_map, zip}
use Rattle.std.specs.Int.{bit_at}
use Rattle.std.specs.List.{AllZip, flat_map}
use Rattle.std.proofs.lemmas.List.{length-map}
use Rattle.std.proofs.lemmas.List.Elements.{All-nil, All-cons}
use Rattle.std.proofs.lemmas.Option.{slice_get-map}
use Rattle.std.proofs.lemmas.Nat.Bits.{bit_at-zero}
use Rattle.sdl_ast.specs.declared.expression.Identifier.{Identifier}
use Rattle.sdl_ast.specs.declared.tree.Sort as tree_sort
use Rattle.sdl_ast.specs.Plain.{PlainConnection, PlainProcess}
use Rattle.turn_code.specs.declared.value.Sort.{Sort}
use Rattle.turn_code.specs.declared.variable_set.VariableSet.{VariableSet}
use Rattle.turn_code.specs.declared.instruction.Instruction.{Instruction}
use Rattle.turn_code.specs.declared.input.Place.TheVariants.{Start, State}
use Rattle.turn_code.specs.declared.draft.Draft.{Draft}
use Rattle.turn_code.specs.declared.draft.DraftSignal.{DraftSignal}
use Rattle.turn_code.specs.declared.draft.DraftVariable.{DraftVariable}
use Rattle.turn_code.specs.declared.draft.DraftPiece.{DraftPiece}
use Rattle.turn_code.specs.declared.draft.DraftState.{DraftState}
use Rattle.turn_code.specs.declared.draft.DraftInput.{DraftInput}
use Rattle.turn_code.specs.declared.draft.DraftProcess.{DraftProcess}
use Rattle.turn_code.specs.declared.draft.Trigger.{Trigger}
use Rattle.turn_code.specs.Sets.{Has, initial_set}
use Rattle.turn_code.specs.Code.{sort_at}
use Rattle.turn_code.specs.Rules.{StartsRight, IsThere, HasTrigger, HasSaves, KeepsCounts, KeepsProcessLimits}
use Rattle.turn_code.specs.Transitions.{Transition, parameters_of, trigger_parameters, start_of, input_of, input_at}
use Rattle.turn_code.specs.Valid.{IsValidTransition}
use Rattle.sdl_tables.specs.Names.{Variable, Input, same_name, number_of, variables_of, variable_names, timers_of, states_of, signals_of, signal_names, process_names, processes_of, inputs_by_state, saves_by_state}
use Rattle.sdl_sound.specs.Longest.{Piece, piece_size, start_piece, input_piece}
use Rattle.sdl_sound.specs.Joins.{reaches}
use Rattle.sdl_sound.specs.Orders.{IsOrder}
use Rattle.sdl_sound.specs.Actions.{Origin, begins, takes}
use Rattle.sdl_sound.specs.Chances.{text_chances}
use Rattle.sdl_sound.specs.Paths as Paths
use Rattle.sdl_sound.specs.Paths.{sets_in, initial_sets, start_transition, input_transition}
use Rattle.sdl_sound.specs.Settled.{IsSettled}
use Rattle.sdl_sound.specs.Sorts.{wrong_place, too_many_places, parameter_sorts}
use Rattle.sdl_sound.specs.Receivers.{paths_of, answers}
use Rattle.sdl_meaning.specs.Outcomes.{Scope, variable_at, signal_at}
use Rattle.sdl_meaning.specs.Code.{number_or_zero}
use Rattle.sdl_meaning.specs.Named.{AreSorted, NamedText, NamedConnections, NamedPiece}
use Rattle.sdl_compile.specs.Facts.{shapes_from}
use Rattle.sdl_compile.specs.Made.{IsPieceOf, IsSmall}
use Rattle.sdl_meaning.specs.Declarations.{sort_of_tree, drafted, drafted_signal, drafted_variables, drafted_signals, trigger_with, trigger_of, trigger_sorts}
use Rattle.sdl_compile.specs.Drafts.{IsTrigger, IsReadyInput, IsReadyProcess, SavesAll, IsInputOf, AreInputsOf, sets_of, IsProcessOf}
use Rattle.sdl_compile.specs.Blocks.{Declares, IsValidProcess}
use Rattle.sdl_compile.specs.Reads.{everything, ReadText, places_set}
use Rattle.sdl_compile.specs.Entries.{entry_at, met, connections_met, piece_entries}
use Rattle.sdl_compile.specs.Routes.{IsKnownPath}
use Rattle.sdl_sound.proofs.Items.{Each, each_at_place as each_at}
use Rattle.sdl_meaning.proofs.Numbers.{AreNumbered, are_numbered, number_there}
use Rattle.sdl_meaning.proofs.Sorting.{number_small, variable_sorted, signal_sorted, unsigned_sorts}
use Rattle.sdl_compile.proofs.Actions.{Stands, Reaching}
use Rattle.sdl_compile.proofs.Spots.{Spot, instructions, shapes, piece_spots, piece_instructions}
use Rattle.sdl_compile.proofs.PlaceSets.{piece_set_at}
use Rattle.sdl_compile.proofs.RightTexts.{RightText}
use Rattle.sdl_compile.proofs.Stretches.{chain_shapes}
use Rattle.sdl_compile.proofs.StandingLaws.{start_enters, piece_made}
use Rattle.sdl_compile.proofs.Settling.{all_fit, all_read}
use Rattle.sdl_compile.proofs.Righting.{right_text}
use Rattle.sdl_compile.proofs.Receiving.{answers_input, arriving}
use Rattle.sdl_compile.proofs.FineTexts.{FineReached, FineWhole, FineInput, FineProcess}
use Rattle.sdl_compile.proofs.Validity.{valid}
use Rattle.sdl_sound.proofs.Lists.{get_one as one_item}
use Rattle.sdl_compile.proofs.Walks.{Holds, places_hold}
use Rattle.plain_laws.proofs.Places.{all_at}
use Rattle.plain_laws.proofs.Lists.{append-nil_right as nil_back}
use Rattle.sdl_sound.proofs.Numbered.{number_alike}
use Rattle.sdl_compile.proofs.InitialSets.{beside, first_of, ready_at, all_ready_at, starts_set, all_start_right}

-- ---- the signals and timers that are waited for or saved exist

trigger_params : (c : Scope) (id : Identifier) → trigger_parameters (drafted_signals c.block) (trigger_of c id) ≡ trigger_sorts c id
trigger_params c id = by_number (number_of (signal_names c.block) id.name) refl
  where
    by_number : (o : Option ℕ) → number_of (signal_names c.block) id.name ≡ o → trigger_parameters (drafted_signals c.block) (trigger_with o (number_or_zero (number_of (timers_of c.process) id.name))) ≡ trigger_sorts c id
    by_number None e = sym (ap (map sort_of_tree) (unsigned_sorts c.block id.name e))
    by_number (Some v) e = ap (λ o. parameters_of (slice_get (drafted_signals c.block) (number_or_zero o))) (sym e) ∙ signal_sorted c.block id.name (subst IsSome (sym e) refl)

is_there : (c : Scope) (ss : List DraftSignal) (d : DraftProcess) (id : Identifier) → length ss ≡ length (signal_names c.block) → length d.timers ≡ length (timers_of c.process) → IsTrigger c id → IsThere ss d (trigger_of c id)
is_there c ss d id e f trigger = by_number (number_of (signal_names c.block) id.name) refl
  where
    by_number : (o : Option ℕ) → number_of (signal_names c.block) id.name ≡ o → IsThere ss d (trigger_with o (number_or_zero (number_of (timers_of c.process) id.name)))
    by_number None g = let h = number_small (λ (n : Identifier). same_name id.name n.name) (timers_of c.process) (trigger g) in omega (arith, f, h)
    by_number (Some v) g = let h = (number_there (signal_names c.block) id.name v g).within in omega (arith, e, h)

all_there : (c : Scope) (ss : List DraftSignal) (d : DraftProcess) (ids : List Identifier) → length ss ≡ length (signal_names c.block) → length d.timers ≡ length (timers_of c.process) → Each (IsTrigger c) ids → All (IsThere ss d) (map (trigger_of c) ids)
all_there c ss d [] e f h = All-nil (IsThere ss d)
all_there c ss d (id ∷ ids) e f h = All-cons (IsThere ss d) (trigger_of c id) (map (trigger_of c) ids) (is_there c ss d id e f h.0) (all_there c ss d ids e f h.1)

all_saved : (c : Scope) (ss : List DraftSignal) (d : DraftProcess) (idss : List (List Identifier)) (qs : List DraftState) → length ss ≡ length (signal_names c.block) → length d.timers ≡ length (timers_of c.process)
    → Each (Each (IsTrigger c)) idss → AllZip (SavesAll c) idss qs → All (HasSaves ss d) qs
all_saved c ss d [] [] e f h z = All-nil (HasSaves ss d)
all_saved c ss d [] (q ∷ qs) e f h z = absurd z
all_saved c ss d (ids ∷ idss) [] e f h z = absurd z
all_saved c ss d (ids ∷ idss) (q ∷ qs) e f h z =
    All-cons (HasSaves ss d) q qs (subst (All (IsThere ss d)) (sym z.0) (all_there c ss d ids e f h.0)) (all_saved c ss d idss qs e f h.1 z.1)

-- ---- one transition

-- The facts known of a transition of a draft.
pub record IsKnownTransition (c : Scope) (d : Draft) (t : Transition) : Type 0 where
  pub signals : d.signals ≡ drafted_signals c.block
  pub variables : t.process.variables ≡ drafted_variables c.process
  pub timers : length t.process.timers ≡ length (timers_of c.process)
  pub states : length t.process.states ≡ length (states_of c.process)
  pub trigger : HasTrigger d.signals t.process t.trigger
  pub initial : All StartsRight t.process.variables
  pub saves : All (HasSaves d.signals t.process) t.process.states
  pub limits : KeepsProcessLimits t.process

stands_in : (c : Scope) (d : Draft) (t : Transition) → IsKnownTransition c d t → Stands c d t
stands_in c d t h = record {
  sorted = λ n r some e. subst (λ (xs : List DraftVariable). sort_at xs (number_or_zero (variable_at c n)) ≡ sort_of_tree r ∷ []) (sym h.variables) (variable_sorted (variables_of c.process) n.name r some e);
  variables = λ n some.
      let l = number_small (λ (id : Identifier). same_name n.name id.name) (variable_names c.process) some in
      let e = ap length h.variables in
      let f = length-map (variables_of c.process) drafted in
      let g = length-map (variables_of c.process) (λ (v : Variable). v.name) in
      omega (arith, l, e, f, g);
  states = λ n some.
      let l = number_small (λ (id : Identifier). same_name n.name id.name) (states_of c.process) some in
      let e = h.states in
      omega (arith, l, e);
  timers = λ n some.
      let l = number_small (λ (id : Identifier). same_name n.name id.name) (timers_of c.process) some in
      let e = h.timers in
      omega (arith, l, e);
  signals = λ n some.
      let l = number_small (λ (id : Identifier). same_name n.name id.name) (signal_names c.block) some in
      let e = ap length h.signals in
      let f = length-map (signals_of c.block) drafted_signal in
      let g = length-map (signals_of c.block) (λ s. s.name) in
      omega (arith, l, e, f, g);
  parameters = λ n some. ap (λ (ss : List DraftSignal). parameters_of (slice_get ss (number_or_zero (signal_at c n)))) h.signals ∙ signal_sorted c.block n.name some;
}

-- The facts proved elsewhere of a piece: its connections and its counts.
pub record IsCounted (c : Scope) (t : Transition) (q : Piece) (ns : List ℕ) : Type 0 where
  pub reached : (n : ℕ) (k : PlainConnection) → Contains ns n → slice_get c.process.connections n ≡ Some k → reaches c.process q.text k.name.name ≡ true
  pub counts : (k : ℕ) → KeepsCounts t k
  pub size : length t.piece.code ≡ piece_size c.process q

-- The variables that are set as the transition begins, and those that its walks read.
pub record IsBegun (c : Scope) (t : Transition) (q : Piece) : Type 0 where
  pub read : (order : List ℕ) → IsOrder c.process order → ReadText c t.process.states (places_set c t.entry q.places) q.text
      × ((n : ℕ) (k : PlainConnection) → slice_get c.process.connections n ≡ Some k → ReadText c t.process.states (entry_at (piece_entries c t.entry q order) n) k.text)

transition_valid : (c : Scope) (d : Draft) (t : Transition) (q : Piece) (sorts : List tree_sort.Sort) (o : Origin) (at : ℕ) → IsKnownTransition c d t → NamedPiece c q → IsSmall c q → t.parameters ≡ map sort_of_tree sorts
    → length q.places ≤ length sorts → flat_map (wrong_place (variables_of c.process)) (zip sorts q.places) ≡ [] → FineWhole c o at q.text → Reaching c d t (o ∷ []) → IsBegun c t q
    → (made : IsPieceOf c t.parameters t.entry q t.piece) → IsCounted c t q made.code.numbers → IsValidTransition d t
transition_valid c d t q sorts o at known named small params le placed fine reaching begun made counted =
    let stands = stands_in c d t known in
    let is = o ∷ [] in
    let ns = made.code.numbers in
    let order = made.facts.order in
    let es = piece_entries c t.entry q order in
    let m2 = places_set c t.entry q.places in
    let right = right_text c is q.text fine.text.statements in
    let rights : (n : ℕ) (k : PlainConnection) → Contains ns n → slice_get c.process.connections n ≡ Some k → RightText c is k.text =
    λ n k there here. right_text c is k.text (each_at (FineReached c o q.text) c.process.connections n k fine.reached here (counted.reached n k there here)) in
    let fit = all_fit c order made.facts.ordered named.connections q.text m2 named.text.text in
    let read = begun.read order made.facts.ordered in
    let m = piece_made d t c stands is reaching q ns es t.entry named made.code.placed right rights sorts le params placed read.0 read.1 fit.0 fit.1 in
    let places = piece_spots d.signals t.process.variables t.parameters c t.entry q es ns in
    let code : t.piece.code ≡ instructions places = made.code.code ∙ sym (piece_instructions d.signals t.process.variables t.parameters c t.entry q es ns) in
    let shapes_are : shapes places ≡ shapes_from d.signals t.process.variables t.parameters [] (instructions places) = chain_shapes d t places places [] [] m.chain in
    valid d t (record {
      places = places;
      code = code;
      shaped =
          made.facts.shaped ∙ ap (λ (ss : List DraftSignal). shapes_from ss (drafted_variables c.process) t.parameters [] t.piece.code) (sym known.signals)
          ∙ ap (λ (xs : List DraftVariable). shapes_from d.signals xs t.parameters [] t.piece.code) (sym known.variables)
          ∙ ap (λ (code : List Instruction). shapes_from d.signals t.process.variables t.parameters [] code) code ∙ sym shapes_are;
      settled = made.facts.settled ∙ sym (piece_set_at d.signals t.process.variables t.parameters c t.entry q es ns);
      fine = m.fine;
      enters = start_enters d t places t.entry 0 m.start;
      first = λ p here. (let same = one_item (slice_get places 0) p m.start.spot here m.start.there in ap (λ (p : Spot). p.set) same ∙ m.start.set);
      counts = counted.counts;
      initial = λ _. known.initial;
      trigger = known.trigger;
      saves = λ _. known.saves;
      process_limits = λ _. known.limits;
      piece_limits = record {
        depth = let e = made.certificate.depth in omega (arith, e, small.depth);
        effects = let e = made.certificate.effects in omega (arith, e, small.effects);
        size = let e = counted.size in omega (arith, e, small.size);
      };
    })

-- ---- a process

-- The transition of START, or that of an input.
abbrev pub IsInProcess : PlainProcess → Paths.Transition → Type 0
IsInProcess p t = (t ≡ start_transition p) ⊎ ((q : ℕ) × (is : List Input) × (k : ℕ) × (i : Input) × (slice_get (inputs_by_state p) q ≡ Some is) × (slice_get is k ≡ Some i) × (t ≡ input_transition i))

-- For variables not set before the text: if one is read, or a state entered has it as set, it was set at the start.
pub record Tells (c : Scope) (ranges : List ℕ) (before : ℕ) (t : Paths.Transition) : Type 0 where
  pub reads : (v q : ℕ) (id : Identifier) → slice_get (variable_names c.process) v ≡ Some id → sets_in t.first id.name ≡ false → (text_chances c.process t.text id.name q).reads ≡ true → bit_at before v ≡ 1
  pub enters : (v q set : ℕ) (id : Identifier) → slice_get (variable_names c.process) v ≡ Some id → sets_in t.first id.name ≡ false → (text_chances c.process t.text id.name q).enters ≡ true
      → slice_get ranges q ≡ Some set → bit_at set v ≡ 1 → bit_at before v ≡ 1

module _ (c : Scope) (n : ℕ) (d : DraftProcess) (fine : FineProcess c) (ready : IsReadyProcess c) (made : IsProcessOf c.block c.process d)
    (numbers : AreNumbered (process_names c.block)) (here : slice_get (process_names c.block) n ≡ Some c.process.name) (paths : Each (IsKnownPath c.block) (paths_of c.block))
    (lawful : (order : List ℕ) → IsOrder c.process order → (t : Paths.Transition) (before : ℕ) → IsInProcess c.process t → IsSettled c.process (sets_of d.states) before t → Tells c (sets_of d.states) before t)
    (counted : (draft : Draft) (t : Transition) (q : Piece) → IsKnownTransition c draft t → NamedPiece c q → AreSorted c q.text → IsSmall c q → length q.places ≤ length t.parameters → (made : IsPieceOf c t.parameters t.entry q t.piece) → IsCounted c t q made.code.numbers) where
  numbered : AreNumbered (variable_names c.process)
  numbered = are_numbered (variable_names c.process) fine.distinct

  abbrev ranges : List ℕ
  ranges = sets_of d.states

  same_set : (q : ℕ) (s : DraftState) → slice_get d.states q ≡ Some s → slice_get ranges q ≡ Some s.set.0
  same_set q s at = slice_get-map (λ (s : DraftState). s.set.0) d.states q ∙ ap (option_map (λ (s : DraftState). s.set.0)) at

  declared : (q set v : ℕ) → slice_get ranges q ≡ Some set → bit_at set v ≡ 1 → v < length (variable_names c.process)
  declared q set v at has =
      let lt = all_at (λ set. (v : ℕ) → bit_at set v ≡ 1 → v < length (variables_of c.process)) ranges q set made.settled.declared at v has in
      let e = length-map (variables_of c.process) (λ (v : Variable). v.name) in
      omega (arith, lt, e)

  count : length d.states ≡ length (states_of c.process)
  count = sym (length-map d.states (λ (s : DraftState). s.set.0)) ∙ made.settled.count

  timer_count : length d.timers ≡ length (timers_of c.process)
  timer_count = ap length made.timers ∙ length-map (timers_of c.process) (λ (id : Identifier). id.name)

  signal_count : (draft : Draft) → Declares c.block draft → length draft.signals ≡ length (signal_names c.block)
  signal_count draft e =
      let a = ap length e.signals in
      let f = length-map (signals_of c.block) drafted_signal in
      let g = length-map (signals_of c.block) (λ s. s.name) in
      omega (arith, a, f, g)

  abbrev transition : Option Trigger → List Sort → VariableSet → DraftPiece → Transition
  transition trigger ps entry piece = record { number = n; process = d; trigger = trigger; parameters = ps; entry = entry; piece = piece }

  known_transition : (draft : Draft) (trigger : Option Trigger) (ps : List Sort) (entry : VariableSet) (piece : DraftPiece) → Declares c.block draft → HasTrigger draft.signals d trigger → IsKnownTransition c draft (transition trigger ps entry piece)
  known_transition draft trigger ps entry piece e waits =
      let ss = signal_count draft e in
      let xs = ap length made.variables in
      let ys = length-map (variables_of c.process) drafted in
      record {
        signals = e.signals;
        variables = made.variables;
        timers = timer_count;
        states = count;
        trigger = waits;
        initial = subst (All StartsRight) (sym made.variables) (all_start_right (variables_of c.process) fine.initial);
        saves = all_saved c draft.signals d (saves_by_state c.process) d.states ss timer_count fine.saves made.saves;
        limits = record {
          some = let is = made.instances in let one = fine.some in omega (arith, is, one);
          instances = let is = made.instances in let few = fine.instances in omega (arith, is, few);
          states = omega (arith, count, fine.states);
          variables = omega (arith, xs, ys, fine.variables);
          timers = omega (arith, timer_count, fine.timers);
        };
      }

  start_holds : Holds c 0 numbered (flat_map initial_sets (variables_of c.process)) (initial_set d.variables)
  start_holds x v at known = ⊎_elim none set known
    where
      none : bit_at 0 v ≡ 1 → Has (initial_set d.variables) v
      none a = absurd (let e = bit_at-zero v in omega (arith, e, a))

      set : sets_in (flat_map initial_sets (variables_of c.process)) x ≡ true → Has (initial_set d.variables) v
      set b =
          let r = starts_set (variables_of c.process) x b in
          let e : number_of (variable_names c.process) r.name.name ≡ Some r.number = numbered r.number r.name r.there in
          let f : number_of (variable_names c.process) x ≡ number_of (variable_names c.process) r.name.name = number_alike (variable_names c.process) x r.name.name r.same in
          let n : r.number ≡ v = cc in
          subst (Has (initial_set d.variables)) n (subst (λ xs. Has (initial_set xs) r.number) (sym made.variables) r.set)

  process_count : (draft : Draft) → Declares c.block draft → length draft.processes ≡ length (process_names c.block)
  process_count draft e =
      let f = e.processes in
      let g = length-map (processes_of c.block) (λ p. p.name) in
      omega (arith, f, g)

  few : length (variable_names c.process) ≤ 32
  few = let e = length-map (variables_of c.process) (λ (v : Variable). v.name) in omega (arith, e, fine.variables)

  -- The variables that a piece of the process reads.
  begins_with : (before : ℕ) (t : Paths.Transition) (places : List (Option Identifier)) (m : VariableSet) (order : List ℕ) → IsOrder c.process order → NamedText c t.text → NamedConnections c → IsInProcess c.process t → IsSettled c.process ranges before t
      → Holds c before numbered t.first m → ReadText c d.states m t.text
      × ((i : ℕ) (k : PlainConnection) → slice_get c.process.connections i ≡ Some k
      → ReadText c d.states (entry_at (connections_met c order (met c m t.text (map (λ (x : PlainConnection). everything) c.process.connections))) i) k.text)
  begins_with before t places m order ordered text named inside settled holds =
      let tells = lawful order ordered t before inside settled in
      all_read c numbered few ranges d.states declared same_set before t.first t.text m order text named holds (record { reads = tells.reads; enters = tells.enters })

  start_valid : (draft : Draft) → Declares c.block draft → IsValidTransition draft (start_of n d)
  start_valid draft e =
      let t = transition None [] (initial_set d.variables) d.start in
      let q = start_piece c.process in
      let known = known_transition draft None [] (initial_set d.variables) d.start e tt in
      transition_valid c draft t q [] begins c.process.start.at known ready.start ready.small refl (omega arith) refl fine.start
      (λ to x some arr sure. arriving c n numbers here paths draft e.routes (process_count draft e) (begins ∷ []) None (λ s h. absurd (let k : ⊥ = cc in k)) to x arr sure)
      (record { read = λ order ordered. begins_with 0 (start_transition c.process) [] (initial_set d.variables) order ordered ready.start.text.text ready.start.connections (inl refl) made.settled.start start_holds })
      made.start (counted draft t q known ready.start ready.sorted ready.small (omega arith) made.start)

  -- Input i, in a state that is entered with this set.
  one_input : (draft : Draft) → Declares c.block draft → (set : VariableSet) (i : Input) (piece : DraftPiece) → FineInput c i → IsReadyInput c i → IsSettled c.process ranges set.0 (input_transition i) → IsInProcess c.process (input_transition i)
      → IsPieceOf c (trigger_sorts c i.stimulus.name) set (input_piece i) piece → IsValidTransition draft (transition (Some (trigger_of c i.stimulus.name)) (trigger_sorts c i.stimulus.name) set piece)
  one_input draft e set i piece f r settled inside is =
      let id = i.stimulus.name in
      let t = transition (Some (trigger_of c id)) (trigger_sorts c id) set piece in
      let q = input_piece i in
      let sorts = parameter_sorts c.block id.name in
      let l = length-map sorts sort_of_tree in
      let le = r.places in
      let holds : Holds c set.0 numbered [] set = λ x v at known. ⊎_elim (λ a. a) (λ b. absurd (let k : ⊥ = cc in k)) known in
      let known = known_transition draft (Some (trigger_of c id)) (trigger_sorts c id) set piece e (is_there c draft.signals d id (signal_count draft e) timer_count f.trigger) in
      transition_valid c draft t q sorts (takes i.stimulus) i.at known r.named r.small refl (omega (arith, l, le))
      (nil_back (too_many_places sorts i.stimulus) (flat_map (wrong_place (variables_of c.process)) (zip sorts i.stimulus.places)) f.placed) f.whole
      (λ to x some arr sure. arriving c n numbers here paths draft e.routes (process_count draft e) (takes i.stimulus ∷ []) (Some (trigger_of c id))
      (λ s h. answers_input c n numbers here paths draft e.routes (process_count draft e) i.stimulus s f.trigger (first_of (answers c.block c.process s id.name) h)) to x arr sure)
      (record {
        read = λ order ordered.
            begins_with set.0 (input_transition i) i.stimulus.places (places_set c set i.stimulus.places) order ordered r.named.text.text r.named.connections inside settled (places_hold c set.0 numbered i.stimulus.places [] set holds);
      })
      is (counted draft t q known r.named r.sorted r.small le is)

  input_valid : (draft : Draft) → Declares c.block draft → (q : ℕ) (st : DraftState) (k : ℕ) (x : DraftInput) → slice_get d.states q ≡ Some st → slice_get st.inputs k ≡ Some x → IsValidTransition draft (input_of draft.signals n d st x)
  input_valid draft e q st k x at has =
      let b = beside (AreInputsOf c) (inputs_by_state c.process) d.states q st made.inputs at in
      let j = beside (IsInputOf c st.set) b.item st.inputs k x b.holds has in
      let i = j.item in
      let id = i.stimulus.name in
      let r = ready_at c b.item k i (all_ready_at c (inputs_by_state c.process) q b.item ready.inputs b.there) j.there in
      let f = each_at (FineInput c) b.item k i (each_at (Each (FineInput c)) (inputs_by_state c.process) q b.item fine.inputs b.there) j.there in
      let g = beside (λ (set : ℕ) (is : List Input). All (λ i. IsSettled c.process ranges set (input_transition i)) is) ranges (inputs_by_state c.process) q b.item made.settled.inputs b.there in
      let h = same_set q st at in
      let same : g.item ≡ st.set.0 = cc (h, g.there) in
      let s = subst (λ set. IsSettled c.process ranges set (input_transition i)) same (all_at (λ i. IsSettled c.process ranges g.item (input_transition i)) b.item k i g.holds j.there) in
      let inside : IsInProcess c.process (input_transition i) = inr (q, b.item, k, i, b.there, j.there, refl) in
      let valid = one_input draft e st.set i x.piece f r s inside j.holds.piece in
      let params : trigger_sorts c id ≡ trigger_parameters draft.signals (trigger_of c id) = sym (ap (λ (ss : List DraftSignal). trigger_parameters ss (trigger_of c id)) e.signals ∙ trigger_params c id) in
      let counted = subst (λ (ps : List Sort). IsValidTransition draft (transition (Some (trigger_of c id)) ps st.set x.piece)) params valid in
      subst (λ (w : Trigger). IsValidTransition draft (transition (Some w) (trigger_parameters draft.signals w) st.set x.piece)) (sym j.holds.trigger) counted

  pub valid_process : IsValidProcess c.block n d
  valid_process draft Start zero t e at =
      let f : start_of n d ≡ t = cc in
      subst (IsValidTransition draft) f (start_valid draft e)
  valid_process draft Start (suc i) t e at = absurd (let k : ⊥ = cc in k)
  valid_process draft (State q) i t e at = by_state (slice_get d.states q.0) refl at
    where
      by_state : (o : Option DraftState) → slice_get d.states q.0 ≡ o → input_at draft.signals n d i o ≡ Some t → IsValidTransition draft t
      by_state None f h = absurd (let k : ⊥ = cc in k)
      by_state (Some st) f h = by_input (slice_get st.inputs i) refl h
        where
          by_input : (o : Option DraftInput) → slice_get st.inputs i ≡ o → option_map (input_of draft.signals n d st) o ≡ Some t → IsValidTransition draft t
          by_input None g h = absurd (let k : ⊥ = cc in k)
          by_input (Some x) g h =
              let same : input_of draft.signals n d st x ≡ t = cc in
              subst (IsValidTransition draft) same (input_valid draft e q.0 st i x f g)
