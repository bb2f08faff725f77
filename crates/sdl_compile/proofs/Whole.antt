-- The draft of a block, made from its parts.
use Rattle.std.proofs.Common.{◌≡◌, ℕ, zero, suc, ◌<◌, ◌≤◌, false, List, [], ◌∷◌, ◌++◌, length, get_or, map, Option, Some, None, refl, sym, ap, ◌∙◌, subst, arith, nat_lt, length-append}
use Rattle.std.specs.Prelude.{slice_get, All, find, sum_by, option_map}
use Rattle.std.specs.List.{AllZip, flat_map, list_any, position_or_len}
use Rattle.std.specs.Option.{option_map_or}
use Rattle.std.specs.Global.{Vec}
use denote.Ref.{Bor}
use Rattle.std.proofs.lemmas.List.{length-map}
use Rattle.std.proofs.lemmas.List.Elements.{All-nil, All-cons, All-head, All-tail}
use Rattle.std.proofs.lemmas.List.Sums.{sum_by-cons}
use Rattle.sdl_ast.specs.declared.expression.Identifier.{Identifier}
use Rattle.sdl_ast.specs.declared.tree.Process as the_process
use Rattle.sdl_ast.specs.declared.tree.Party.{Party}
use Rattle.sdl_ast.specs.declared.tree.Party.TheVariants.{Environment, Process}
use Rattle.sdl_ast.specs.declared.tree.Path.{Path}
use Rattle.sdl_ast.specs.declared.tree.Route.{Route}
use Rattle.sdl_ast.specs.Plain.{Text, PlainPath, PlainRoute, PlainSignal, PlainProcess, PlainBlock}
use Rattle.sdl_ast.specs.Views.{path_of, route_of, process_of}
use Rattle.turn_code.specs.declared.input.Place.{Place}
use Rattle.turn_code.specs.declared.draft.Draft.{Draft}
use Rattle.turn_code.specs.declared.draft.DraftSignal.{DraftSignal}
use Rattle.turn_code.specs.declared.draft.DraftState.{DraftState}
use Rattle.turn_code.specs.declared.draft.DraftProcess.{DraftProcess}
use Rattle.turn_code.specs.Rules.{inputs_of as state_inputs, pieces_of as draft_pieces}
use Rattle.turn_code.specs.Transitions.{Transition, process_at}
use Rattle.turn_code.specs.Valid.{IsValid, IsValidTransition}
use Rattle.sdl_tables.specs.Names.{Input, same_name, signals_of, signal_names, route_names, routes_of, processes_of, process_names, variables_of, variable_names, timers_of, connector_names, states_of, inputs_by_state}
use Rattle.sdl_tables.specs.Scopes.{repeats, process_scopes, scopes, signal_timers}
use Rattle.sdl_sound.specs.Longest.{Piece, text_budget, text_size, piece_size, piece_depth, piece_effects, input_piece, pieces_of}
use Rattle.sdl_sound.specs.Names.{unknown, party_names, path_unknown, route_unknown, process_unknown}
use Rattle.sdl_sound.specs.Ends.{process_strays}
use Rattle.sdl_sound.specs.Limits.{exceeds, wrong_instances, limits}
use Rattle.sdl_sound.specs.Sorts.{wrong_statement, wrong_declarations, parameter_sorts}
use Rattle.sdl_sound.specs.Divisors.{statement_divisors}
use Rattle.sdl_sound.specs.Decisions.{statement_unanswered}
use Rattle.sdl_sound.specs.Receivers.{paths_of, lost_statement, doubtful_statement}
use Rattle.sdl_sound.specs.Actions.{in_statements}
use Rattle.sdl_sound.specs.Orders.{IsOrder, AreOrders}
use Rattle.sdl_sound.specs.Joins.{process_cycles}
use Rattle.sdl_sound.specs.Laws.{BudgetLaw, ChancesLaw}
use Rattle.sdl_meaning.specs.Named.{NamedPiece, AreSorted}
use Rattle.sdl_meaning.proofs.Counted.{size_is}
use Rattle.sdl_compile.proofs.Kept.{piece_keeps}
use Rattle.sdl_meaning.proofs.Reached.{placed_reached}
use Rattle.sdl_compile.proofs.Lawful.{lawful}
use Rattle.sdl_sound.specs.Sound.{Sound}
use Rattle.sdl_sound.specs.declared.fault.Limit.{Limit}
use Rattle.sdl_meaning.specs.Act.{scope_of}
use Rattle.sdl_meaning.specs.Outcomes.{Scope}
use Rattle.sdl_compile.specs.Made.{IsSmall, IsPieceOf}
use Rattle.sdl_meaning.specs.Declarations.{sort_of_tree, drafted_signal, drafted_signals}
use Rattle.sdl_compile.specs.Drafts.{IsReadyProcess, IsInputOf, AreInputsOf, IsProcessOf, sets_of}
use Rattle.sdl_compile.specs.Blocks.{drafted_routes, Declares}
use Rattle.sdl_compile.specs.Routes.{KnownParty, IsKnown, IsKnownPath, HasFewNames}
use Rattle.sdl_sound.proofs.Items.{Each, each_front, each_back, each_with, each_unmap, each_flat, each_unflat, all_items, each_nil, each_false, each_unfound, each_both, each_at_place as each_at}
use Rattle.sdl_compile.proofs.Knowing.{known}
use Rattle.sdl_meaning.proofs.Numbers.{AreNumbered, are_numbered}
use Rattle.sdl_compile.proofs.Placed.{valid_process, IsCounted, IsKnownTransition}
use Rattle.sdl_compile.proofs.InitialSets.{beside}
use Rattle.sdl_compile.proofs.Ready.{process_fine, ready_process}
use Rattle.sdl_compile.proofs.FineTexts.{FineProcess, small_pieces}
use Rattle.sdl_meaning.proofs.Sorting.{found_at}
use Rattle.std.proofs.lemmas.Option.{slice_get-map as slice_map}
use Rattle.turn_code.proofs.Lists.{at_place as slice_contains, zip_length}
use Rattle.std.proofs.lemmas.Bool.{ltb-false as at_most}
use Rattle.plain_laws.proofs.Lists.{append-nil_left as nil_front, append-nil_right as nil_back}

-- ---- as many pieces in the draft as in the text

inputs_count : (c : Scope) (iss : List (List Input)) (qs : List DraftState) → AllZip (AreInputsOf c) iss qs → state_inputs qs ≡ length (flat_map (map input_piece) iss)
inputs_count c [] [] z = refl
inputs_count c [] (q ∷ qs) z = absurd z
inputs_count c (is ∷ iss) [] z = absurd z
inputs_count c (is ∷ iss) (q ∷ qs) z =
    let rest = inputs_count c iss qs z.1 in
    let first = zip_length (IsInputOf c q.set) is q.inputs z.0 in
    omega (
      arith,
      sum_by-cons (λ (q : DraftState). length q.inputs) q qs,
      first,
      rest,
      length-append (map input_piece is) (flat_map (map input_piece) iss),
      length-map is input_piece,
    )

whole_count : (b : PlainBlock) (ps : List PlainProcess) (ds : List DraftProcess) → AllZip (IsProcessOf b) ps ds → sum_by draft_pieces ds ≡ sum_by (λ (p : PlainProcess). length (pieces_of p)) ps
whole_count b [] [] z = refl
whole_count b [] (d ∷ ds) z = absurd z
whole_count b (p ∷ ps) [] z = absurd z
whole_count b (p ∷ ps) (d ∷ ds) z =
    let rest = whole_count b ps ds z.1 in
    let first = inputs_count (scope_of b p) (inputs_by_state p) d.states z.0.inputs in
    omega (arith, sum_by-cons draft_pieces d ds, sum_by-cons (λ (p : PlainProcess). length (pieces_of p)) p ps, first, rest)

-- ---- properties of a sound block

known_party : (ids : List Identifier) (party : Party) → Each (IsKnown ids) (party_names party) → KnownParty ids party
known_party ids Environment h = tt
known_party ids (Process id) h = h.0

known_path : (b : PlainBlock) (path : PlainPath) → path_unknown b path ≡ [] → IsKnownPath b path
known_path b path e =
    let from = party_names path.from in
    let to = party_names path.to in
    let parties = unknown (process_names b) (from ++ to) in
    let signals = unknown (signal_names b) path.signals in
    let h = known (process_names b) (from ++ to) (nil_front parties signals e) in
    record {
      from = known_party (process_names b) path.from (each_front (IsKnown (process_names b)) from to h);
      to = known_party (process_names b) path.to (each_back (IsKnown (process_names b)) from to h);
      signals = all_items (IsKnown (signal_names b)) path.signals (known (signal_names b) path.signals (nil_back parties signals e));
    }

-- An order of the connections of a process.
pub record HasOrder (p : PlainProcess) : Type 0 where
  pub order : List ℕ
  pub is : IsOrder p order

-- The counts of a piece, and its connections.
counted : (c : Scope) → (draft : Draft) (t : Transition) (q : Piece) → IsKnownTransition c draft t → NamedPiece c q → AreSorted c q.text → IsSmall c q → length q.places ≤ length t.parameters
    → (made : IsPieceOf c t.parameters t.entry q t.piece) → IsCounted c t q made.code.numbers
counted c draft t q there named sorted small places made = record {
  reached = placed_reached c named.connections q.text named.text.text made.code.numbers made.code.placed;
  counts = piece_keeps c q t named sorted places made;
  size = size_is c q named made.code.numbers made.code.placed t.piece.code made.code.code;
}

-- No walk costs more instructions than its code has.
pub each_lawful : BudgetLaw → (ps : List PlainProcess) → flat_map process_cycles ps ≡ [] → Each (λ (p : PlainProcess). (t : Text) → text_budget p t ≤ text_size p t) ps
each_lawful law ps e = each_with (λ (p : PlainProcess). process_cycles p ≡ []) (λ (p : PlainProcess). (t : Text) → text_budget p t ≤ text_size p t) (λ p e t. law p t e) ps (each_nil process_cycles ps e)

pub each_ordered : (ps : List PlainProcess) (orders : List (Vec ℕ)) → AreOrders ps orders → Each HasOrder ps
each_ordered [] orders z = tt
each_ordered (p ∷ ps) [] z = absurd z
each_ordered (p ∷ ps) (v ∷ orders) z = (record { order = v.items; is = z.0 }, each_ordered ps orders z.1)

-- An item with its place in the whole list.
record Held {A : Type 0} (xs : List A) (x : A) : Type 0 where
  place : ℕ
  there : slice_get xs place ≡ Some x

each_held : {A : Type 0} (xs : List A) → Each (Held xs) xs
each_held [] = tt
each_held (x ∷ xs) = (record { place = 0; there = refl }, each_with (Held xs) (Held (x ∷ xs)) (λ y h. record { place = suc h.place; there = h.there }) xs (each_held xs))

module _ (b : PlainBlock) (sound : Sound b) where
  abbrev ps : List PlainProcess
  ps = processes_of b

  within : Each (λ (l : Limit). exceeds b l ≡ false) limits
  within = each_unfound (exceeds b) limits sound.within

  few_processes : length ps ≤ 16
  few_processes = at_most 16 (length ps) within.0

  few_signals : length (signals_of b) ≤ 128
  few_signals = at_most 128 (length (signals_of b)) within.1.1.1.1.0

  few_pieces : sum_by (λ (p : PlainProcess). length (pieces_of p)) ps ≤ 4096
  few_pieces = at_most 4096 (sum_by (λ (p : PlainProcess). length (pieces_of p)) ps) within.1.1.1.1.1.1.0

  four_each : Each (λ (s : PlainSignal). nat_lt 4 (length s.parameters) ≡ false) (signals_of b)
  four_each = each_false (λ (s : PlainSignal). nat_lt 4 (length s.parameters)) (signals_of b) within.1.1.1.1.1.0

  four : (x : List ℕ) → length (parameter_sorts b x) ≤ 4
  four x = by_found (find (λ (s : PlainSignal). same_name x s.name.name) (signals_of b)) (position_or_len (λ (id : Identifier). same_name x id.name) (signal_names b)) (found_at (λ (s : PlainSignal). s.name) x (signals_of b))
    where
      by_found : (o : Option PlainSignal) (k : ℕ) → o ≡ slice_get (signals_of b) k → length (option_map_or (λ (s : PlainSignal). s.parameters) o []) ≤ 4
      by_found None k e = omega arith
      by_found (Some s) k e = at_most 4 (length s.parameters) (each_at (λ (s : PlainSignal). nat_lt 4 (length s.parameters) ≡ false) (signals_of b) k s four_each (sym e))

  pub known_paths : Each (IsKnownPath b) (paths_of b)
  known_paths =
      let routes = flat_map (route_unknown b) (routes_of b) in
      each_flat (IsKnownPath b) (λ (r : PlainRoute). r.paths) (routes_of b)
      (each_with (λ (r : PlainRoute). route_unknown b r ≡ []) (λ (r : PlainRoute). Each (IsKnownPath b) r.paths)
      (λ (r : PlainRoute) e. each_with (λ (p : PlainPath). path_unknown b p ≡ []) (IsKnownPath b) (λ (p : PlainPath). known_path b p) r.paths (each_nil (path_unknown b) r.paths e))
      (routes_of b) (each_nil (route_unknown b) (routes_of b) (nil_front routes (flat_map (process_unknown b) ps) sound.known)))

  distinct_names : flat_map (repeats []) (scopes b) ≡ []
  distinct_names = nil_front (flat_map (repeats []) (scopes b)) (signal_timers b) sound.distinct

  numbers : AreNumbered (process_names b)
  numbers =
      let s = repeats [] (signal_names b) in
      let r = repeats [] (route_names b) in
      let p = repeats [] (process_names b) in
      let rest = flat_map (repeats []) (flat_map process_scopes ps) in
      are_numbered (process_names b) (nil_front p rest (nil_back r (p ++ rest) (nil_back s (r ++ (p ++ rest)) distinct_names)))

  distinct_variables : Each (λ (p : PlainProcess). repeats [] (variable_names p) ≡ []) ps
  distinct_variables =
      let s = repeats [] (signal_names b) in
      let r = repeats [] (route_names b) in
      let p = repeats [] (process_names b) in
      let rest = flat_map (repeats []) (flat_map process_scopes ps) in
      let each = each_nil (repeats []) (flat_map process_scopes ps) (nil_back p rest (nil_back r (p ++ rest) (nil_back s (r ++ (p ++ rest)) distinct_names))) in
      each_with (λ (p : PlainProcess). Each (λ (ids : List Identifier). repeats [] ids ≡ []) (process_scopes p)) (λ (p : PlainProcess). repeats [] (variable_names p) ≡ []) (λ (p : PlainProcess) h. h.0) ps
      (each_unflat (λ (ids : List Identifier). repeats [] ids ≡ []) process_scopes ps each)

  distinct_connectors : Each (λ (p : PlainProcess). repeats [] (connector_names p) ≡ []) ps
  distinct_connectors =
      let s = repeats [] (signal_names b) in
      let r = repeats [] (route_names b) in
      let p = repeats [] (process_names b) in
      let rest = flat_map (repeats []) (flat_map process_scopes ps) in
      let each = each_nil (repeats []) (flat_map process_scopes ps) (nil_back p rest (nil_back r (p ++ rest) (nil_back s (r ++ (p ++ rest)) distinct_names))) in
      each_with (λ (p : PlainProcess). Each (λ (ids : List Identifier). repeats [] ids ≡ []) (process_scopes p)) (λ (p : PlainProcess). repeats [] (connector_names p) ≡ []) (λ (p : PlainProcess) h. h.1.1.0) ps
      (each_unflat (λ (ids : List Identifier). repeats [] ids ≡ []) process_scopes ps each)

  abbrev wrongs : PlainProcess → List ℕ
  wrongs p = in_statements (λ from. wrong_statement b (variables_of p)) p

  abbrev losts : PlainProcess → List ℕ
  losts p = in_statements (lost_statement b p) p

  abbrev doubts : PlainProcess → List ℕ
  doubts p = in_statements (λ from. doubtful_statement b p) p

  abbrev missing : PlainProcess → List ℕ
  missing p = in_statements (λ from. statement_unanswered (variables_of p)) p

  abbrev divisors : PlainProcess → List ℕ
  divisors p = in_statements (λ from. statement_divisors) p

  fine_processes : (qs : List PlainProcess) → Each (λ p. process_unknown b p ≡ []) qs → Each (λ p. wrong_declarations b p ≡ []) qs → Each (λ p. wrongs p ≡ []) qs → Each (λ p. losts p ≡ []) qs → Each (λ p. doubts p ≡ []) qs
      → Each (λ p. missing p ≡ []) qs → Each (λ p. divisors p ≡ []) qs → Each (λ p. process_strays p ≡ []) qs → Each (λ p. nat_lt 64 (length (states_of p)) ≡ false) qs → Each (λ p. nat_lt 32 (length (variables_of p)) ≡ false) qs
      → Each (λ p. nat_lt 8 (length (timers_of p)) ≡ false) qs → Each (λ p. wrong_instances p.instances ≡ false) qs → Each (λ p. Each (IsSmall (scope_of b p)) (pieces_of p)) qs → Each (λ p. repeats [] (variable_names p) ≡ []) qs → Each (λ p. repeats [] (connector_names p) ≡ []) qs
      → Each (λ p. FineProcess (scope_of b p)) qs
  fine_processes [] u w s l d a v e q x t i small distinct others = tt
  fine_processes (p ∷ qs) u w s l d a v e q x t i small distinct others = (
    process_fine (scope_of b p) u.0 w.0 s.0 l.0 d.0 a.0 v.0 e.0 q.0 x.0 t.0 i.0 small.0 distinct.0 others.0,
    fine_processes qs u.1 w.1 s.1 l.1 d.1 a.1 v.1 e.1 q.1 x.1 t.1 i.1 small.1 distinct.1 others.1,
  )

  signal_limit : length (signal_names b) ≤ 128
  signal_limit = let h = few_signals in omega (arith, h, length-map (signals_of b) (λ (s : PlainSignal). s.name))

  named_there : (n : ℕ) (p : PlainProcess) → slice_get ps n ≡ Some p → slice_get (process_names b) n ≡ Some p.name
  named_there n p e = slice_map (λ (p : PlainProcess). p.name) ps n ∙ ap (option_map (λ (p : PlainProcess). p.name)) e

  -- ---- what the functions that make the parts require

  pub few_names : HasFewNames b
  few_names = record {
    processes = let h = few_processes in omega (arith, h, length-map ps (λ (p : PlainProcess). p.name));
    signals = signal_limit;
  }

  abbrev IsKnownIn : Path → Type 0
  IsKnownIn p = IsKnownPath b (path_of p)

  known_route : (r : Route) → route_unknown b (route_of r) ≡ [] → All IsKnownIn r.paths.items
  known_route r e =
      let paths = r.paths.items in
      all_items IsKnownIn paths
      (each_with (λ (p : Path). path_unknown b (path_of p) ≡ []) IsKnownIn (λ (p : Path). known_path b (path_of p)) paths
      (each_unmap (λ (p : PlainPath). path_unknown b p ≡ []) path_of paths (each_nil (path_unknown b) (map path_of paths) e)))

  pub known_routes : (rs : List (Bor Route)) → map (λ r. route_of r.now) rs ≡ routes_of b → All (λ (r : Bor Route). All IsKnownIn r.now.paths.items) rs
  known_routes rs e =
      let none : Each (λ (r : PlainRoute). route_unknown b r ≡ []) (routes_of b) =
      each_nil (route_unknown b) (routes_of b) (nil_front (flat_map (route_unknown b) (routes_of b)) (flat_map (process_unknown b) ps) sound.known) in
      let these = subst (Each (λ (r : PlainRoute). route_unknown b r ≡ [])) (sym e) none in
      all_items (λ (r : Bor Route). All IsKnownIn r.now.paths.items) rs
      (each_with (λ (r : Bor Route). route_unknown b (route_of r.now) ≡ []) (λ (r : Bor Route). All IsKnownIn r.now.paths.items) (λ (r : Bor Route). known_route r.now) rs
      (each_unmap (λ (r : PlainRoute). route_unknown b r ≡ []) (λ (r : Bor Route). route_of r.now) rs these))

  -- ---- the rules of a draft

  few_parameters : (ss : List PlainSignal) → Each (λ (s : PlainSignal). nat_lt 4 (length s.parameters) ≡ false) ss → All (λ (s : DraftSignal). length s.parameters ≤ 4) (map drafted_signal ss)
  few_parameters [] h = All-nil (λ (s : DraftSignal). length s.parameters ≤ 4)
  few_parameters (s ∷ ss) h =
      let e = at_most 4 (length s.parameters) h.0 in
      All-cons (λ (s : DraftSignal). length s.parameters ≤ 4) (drafted_signal s) (map drafted_signal ss) (omega (arith, e, length-map s.parameters sort_of_tree)) (few_parameters ss h.1)

  -- ---- with a bound on the longest paths, and orders of the connections

  module _ (law : Each (λ (p : PlainProcess). (t : Text) → text_budget p t ≤ text_size p t) (processes_of b)) (orders : Each (λ (p : PlainProcess). HasOrder p) (processes_of b)) where
    small_each : Each (λ (p : PlainProcess). Each (IsSmall (scope_of b p)) (pieces_of p)) ps
    small_each =
        by_process ps law (each_false (λ (p : PlainProcess). list_any (λ (q : Piece). nat_lt 512 (piece_size p q)) (pieces_of p)) ps within.1.1.1.1.1.1.1.0)
        (each_false (λ (p : PlainProcess). list_any (λ (q : Piece). nat_lt 16 (piece_depth p q)) (pieces_of p)) ps within.1.1.1.1.1.1.1.1.0)
        (each_false (λ (p : PlainProcess). list_any (λ (q : Piece). nat_lt 32 (piece_effects p q)) (pieces_of p)) ps within.1.1.1.1.1.1.1.1.1.0)
      where
        by_process : (qs : List PlainProcess) → Each (λ (p : PlainProcess). (t : Text) → text_budget p t ≤ text_size p t) qs → Each (λ (p : PlainProcess). list_any (λ (q : Piece). nat_lt 512 (piece_size p q)) (pieces_of p) ≡ false) qs
            → Each (λ (p : PlainProcess). list_any (λ (q : Piece). nat_lt 16 (piece_depth p q)) (pieces_of p) ≡ false) qs → Each (λ (p : PlainProcess). list_any (λ (q : Piece). nat_lt 32 (piece_effects p q)) (pieces_of p) ≡ false) qs
            → Each (λ (p : PlainProcess). Each (IsSmall (scope_of b p)) (pieces_of p)) qs
        by_process [] l e f g = tt
        by_process (p ∷ qs) l e f g = (small_pieces (scope_of b p) (pieces_of p) l.0 e.0 f.0 g.0, by_process qs l.1 e.1 f.1 g.1)

    are_fine : Each (λ p. FineProcess (scope_of b p)) ps
    are_fine =
        let routes = flat_map (route_unknown b) (routes_of b) in
        let declared = flat_map (wrong_declarations b) ps in
        let wrong = flat_map wrongs ps in
        fine_processes ps (each_nil (process_unknown b) ps (nil_back routes (flat_map (process_unknown b) ps) sound.known)) (each_nil (wrong_declarations b) ps (nil_front declared wrong sound.sorted))
        (each_nil wrongs ps (nil_back declared wrong sound.sorted)) (each_nil losts ps sound.received) (each_nil doubts ps sound.single) (each_nil missing ps sound.answered) (each_nil divisors ps sound.divided) (each_nil process_strays ps sound.ended)
        (each_false (λ (p : PlainProcess). nat_lt 64 (length (states_of p))) ps within.1.0) (each_false (λ (p : PlainProcess). nat_lt 32 (length (variables_of p))) ps within.1.1.0)
        (each_false (λ (p : PlainProcess). nat_lt 8 (length (timers_of p))) ps within.1.1.1.0)
        (each_false (λ (p : PlainProcess). wrong_instances p.instances) ps within.1.1.1.1.1.1.1.1.1.1.0) small_each distinct_variables distinct_connectors

    are_ready : Each (λ p. IsReadyProcess (scope_of b p)) ps
    are_ready =
        each_with (λ p. (FineProcess (scope_of b p) × HasOrder p) × Held ps p) (λ p. IsReadyProcess (scope_of b p))
        (λ p h. ready_process (scope_of b p) h.1.place numbers (named_there h.1.place p h.1.there) known_paths four h.0.1.order h.0.1.is h.0.0 signal_limit)
        ps (each_both (λ p. FineProcess (scope_of b p) × HasOrder p) (Held ps) ps (each_both (λ p. FineProcess (scope_of b p)) HasOrder ps are_fine orders) (each_held ps))

    pub all_ready : All (λ p. IsReadyProcess (scope_of b p)) ps
    all_ready = all_items (λ p. IsReadyProcess (scope_of b p)) ps are_ready

    -- A draft of a sound block is valid if its processes are made from those of the block.
    pub valid : ChancesLaw → (d : Draft) (ds : List DraftProcess) → d.signals ≡ drafted_signals b → d.routes ≡ drafted_routes b → d.processes ≡ ds → AllZip (IsProcessOf b) ps ds → IsValid d
    valid chances d ds signals routes e zips =
        let size = zip_length (IsProcessOf b) ps ds zips in
        let l = ap length e in
        let declares : Declares b d = record { signals = signals; routes = routes; processes = omega (arith, l, size) } in
        record {
          limits = record {
            processes = let h = few_processes in omega (arith, h, size, l);
            signals = let h = few_signals in let f = ap length signals in omega (arith, h, f, length-map (signals_of b) drafted_signal);
            parameters = subst (All (λ (s : DraftSignal). length s.parameters ≤ 4)) (sym signals) (few_parameters (signals_of b) four_each);
            pieces = let h = few_pieces in omega (arith, h, whole_count b ps ds zips, ap (sum_by draft_pieces) e);
          };
          each = λ n s i t at. by_process n s i t declares (slice_get d.processes n) (ap (λ ds. slice_get ds n) (sym e)) at;
        }
      where
        by_process : (n : ℕ) (s : Place) (i : ℕ) (t : Transition) → Declares b d → (o : Option DraftProcess) → slice_get ds n ≡ o → process_at d.signals n s i o ≡ Some t → IsValidTransition d t
        by_process n s i t declares None f at = absurd (let k : ⊥ = cc in k)
        by_process n s i t declares (Some x) f at =
            let h = beside (IsProcessOf b) ps ds n x zips f in
            let fine = each_at (λ p. FineProcess (scope_of b p)) ps n h.item are_fine h.there in
            let ready = each_at (λ p. IsReadyProcess (scope_of b p)) ps n h.item are_ready h.there in
            let p = h.item in
            let c = scope_of b p in
            let inside = slice_contains ps n p h.there in
            valid_process c n x fine ready h.holds numbers (named_there n p h.there) known_paths (λ order ordered t before here settled. lawful b p chances sound inside (sets_of x.states) order ordered t before here settled) (counted c) d s i t declares at

-- ---- the processes one by one

pub zip_unmap : {A B C : Type 0} (R : B → C → Type 0) (f : A → B) (xs : List A) (ys : List C) → AllZip R (map f xs) ys → AllZip (λ x y. R (f x) y) xs ys
zip_unmap R f [] [] z = tt
zip_unmap R f [] (y ∷ ys) z = absurd z
zip_unmap R f (x ∷ xs) [] z = absurd z
zip_unmap R f (x ∷ xs) (y ∷ ys) z = (z.0, zip_unmap R f xs ys z.1)

zip_at : {A B : Type 0} (R : A → B → Type 0) (xs : List A) (ys : List B) (i : ℕ) (d : A) (e : B) → i < length xs → AllZip R xs ys → R (get_or xs i d) (get_or ys i e)
zip_at R [] [] i d e lt z = absurd (omega arith)
zip_at R [] (y ∷ ys) i d e lt z = absurd z
zip_at R (x ∷ xs) [] i d e lt z = absurd z
zip_at R (x ∷ xs) (y ∷ ys) zero d e lt z = z.0
zip_at R (x ∷ xs) (y ∷ ys) (suc i) d e lt z = zip_at R xs ys i d e (omega arith) z.1

-- The row found for one process.
pub row_at : {X : Type 0} (R : PlainProcess → List X → Type 0) (all : List PlainProcess) (ts : List the_process.Process) (rows : List (Vec X)) (i : ℕ) (t : the_process.Process) (v : Vec X) (row : List X) → map process_of ts ≡ all → i < length ts
    → t ≡ get_or ts i t → v ≡ get_or rows i v → row ≡ v.items → AllZip (λ p (v : Vec X). R p v.items) all rows → R (process_of t) row
row_at {X} R all ts rows i t v row m lt e f g zips =
    let these = zip_unmap (λ p (v : Vec X). R p v.items) process_of ts rows (subst (λ all. AllZip (λ p (v : Vec X). R p v.items) all rows) (sym m) zips) in
    let at = zip_at (λ t (v : Vec X). R (process_of t) v.items) ts rows i t v lt these in
    let first = subst (λ t. R (process_of t) (get_or rows i v).items) (sym e) at in
    let second = subst (λ (v : Vec X). R (process_of t) v.items) (sym f) first in
    subst (R (process_of t)) (sym g) second

pub paired : {X : Type 0} (R : PlainProcess → List X → Type 0) (all : List PlainProcess) (ts : List the_process.Process) (rows : List (Vec X)) → map process_of ts ≡ all → AllZip (λ p (v : Vec X). R p v.items) all rows → length rows ≡ length ts
paired {X} R all ts rows m zips =
    let e = zip_length (λ p (v : Vec X). R p v.items) all rows zips in
    let f = ap length m in
    omega (arith, e, f, length-map ts process_of)

-- What holds of each process holds of that in table i.
pub one_ready : (P : PlainProcess → Type 0) (all : List PlainProcess) (ts : List the_process.Process) (i : ℕ) (t : the_process.Process) → map process_of ts ≡ all → i < length ts → t ≡ get_or ts i t → All P all → P (process_of t)
one_ready P all ts i t m lt e h = subst (λ t. P (process_of t)) (sym e) (at_place ts i t lt (subst (All P) (sym m) h))
  where
    at_place : (ts : List the_process.Process) (i : ℕ) (d : the_process.Process) → i < length ts → All P (map process_of ts) → P (process_of (get_or ts i d))
    at_place [] i d lt h = absurd (omega arith)
    at_place (t ∷ ts) zero d lt h = All-head P (process_of t) (map process_of ts) h
    at_place (t ∷ ts) (suc i) d lt h = at_place ts i d (omega arith) (All-tail P (process_of t) (map process_of ts) h)
