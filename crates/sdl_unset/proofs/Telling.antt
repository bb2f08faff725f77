-- The chances of a variable in a transition and the walks of the transition, in both directions.
use Rattle.std.proofs.Common.{◌≡◌, ℕ, ◌==◌, true, false, not, ◌&&◌, ◌↔◌, List, [], ◌++◌, length, Option, None, Some, refl, sym, ap, ◌∙◌, subst, inl, inr}
use Rattle.std.specs.Prelude.{Contains}
use Rattle.std.specs.List.{flat_map}
use Rattle.std.specs.Option.{option_map_or}
use Rattle.std.proofs.lemmas.Bool.{not-true, eqb-true, eq-eqb, and_parts as and_true, and_from as both_true, or_cases as or_true, or_left as true_or, or_right as or_else}
use Rattle.sdl_ast.specs.Plain.{PlainProcess, PlainBlock}
use Rattle.sdl_tables.specs.Names.{number_of, states_of, is_state, variables_of, processes_of, routes_of, input_parts}
use Rattle.sdl_sound.specs.Paths.{Way, onward, stops, enters as into, way_state, Walks, Follows, Transition, reads_first, sets_in}
use Rattle.sdl_sound.specs.Chances.{Chances, event_chances, behind, text_chances}
use Rattle.sdl_sound.specs.Laws.{Reads, Keeps, IsTextOf}
use Rattle.sdl_sound.specs.Actions.{in_statements}
use Rattle.sdl_sound.specs.Decisions.{statement_unanswered}
use Rattle.sdl_sound.specs.Names.{statement_unknown, process_unknown, input_unknown, saves_unknown, route_unknown}
use Rattle.sdl_sound.specs.Sound.{Sound}
use Rattle.sdl_sound.specs.Orders.{IsOrder}
use Rattle.sdl_sound.proofs.Items.{each_nil, each_at}
use Rattle.sdl_unset.proofs.Chancing.{reads-now, sets-neither, IsWhole, IsBefore, AreRanked, has_walk, follows_some, walk_tells, walk_shown}
use Rattle.sdl_unset.proofs.Ranks.{AreFine, are_fine, rank_of, are_ranked, is_whole}
use Rattle.sdl_sound.proofs.Walks.{reads_first-append, sets_in-append, reads-later}
use Rattle.plain_laws.proofs.Lists.{append-nil_right as nil_back}

state_is : (q : ℕ) (o : Option ℕ) → option_map_or (λ n. n == q) o false ≡ true → o ≡ Some q
state_is q None h = let bad : false ≡ true = h in absurd (let k : ⊥ = cc in k)
state_is q (Some n) h = ap Some (eqb-true n q h)

is_it : (q : ℕ) (o : Option ℕ) → o ≡ Some q → option_map_or (λ n. n == q) o false ≡ true
is_it q o h = ap (λ (u : Option ℕ). option_map_or (λ n. n == q) u false) h ∙ eq-eqb q q refl

-- x isn't set before the text.
pub reads_after : (p : PlainProcess) (rank : List ℕ → ℕ) (t : Transition) (x : List ℕ) (q : ℕ) → AreRanked p rank
    → IsWhole (IsBefore p rank (length p.connections)) t.text → sets_in t.first x ≡ false → (text_chances p t.text x q).reads ≡ true → Reads p t x
reads_after p rank t x q ranked whole before h =
    let w = (walk_shown p rank x q ranked t.text whole).reads h in
    record { events = w.0; end = way_state w.1; walk = (length p.connections, w.1, w.2, refl); first = reads-later t.first w.0 x before w.3 }

pub keeps_after : (p : PlainProcess) (rank : List ℕ → ℕ) (t : Transition) (x : List ℕ) (q : ℕ) → AreRanked p rank
    → IsWhole (IsBefore p rank (length p.connections)) t.text → sets_in t.first x ≡ false → (text_chances p t.text x q).enters ≡ true → Keeps p t x q
keeps_after p rank t x q ranked whole before h =
    let w = (walk_shown p rank x q ranked t.text whole).enters h in
    record {
      events = w.0;
      state = w.1;
      walk = (length p.connections, into w.1, w.2, refl);
      number = state_is q (number_of (states_of p) w.1) w.3;
      keeps = sets-neither t.first w.0 x before w.4;
    }

-- The chances of the first events and of the text after them.
abbrev pub transition_chances : PlainProcess → Transition → List ℕ → ℕ → Chances
transition_chances p t x q = behind (event_chances t.first x) (text_chances p t.text x q)

pub reads_exactly : (p : PlainProcess) (rank : List ℕ → ℕ) (t : Transition) (x : List ℕ) (q : ℕ) → AreRanked p rank
    → IsWhole (IsBefore p rank (length p.connections)) t.text → ((transition_chances p t x q).reads ≡ true) ↔ Reads p t x
reads_exactly p rank t x q ranked whole =
    let m = length p.connections in (
      λ h. elim (or_true (reads_first t.first x) (not (sets_in t.first x) && (text_chances p t.text x q).reads) h) [
        | inl now ↦
            let w = has_walk (Follows p m) (IsBefore p rank m) (follows_some p rank ranked m) t.text whole in
            record { events = w.0; end = way_state w.1; walk = (m, w.1, w.2, refl); first = reads-now t.first w.0 x now }
        | inr later ↦
            let parts = and_true (not (sets_in t.first x)) (text_chances p t.text x q).reads later in
            reads_after p rank t x q ranked whole (not-true (sets_in t.first x) parts.0) parts.1
      ],
      λ r.
          let told = walk_tells p rank x q ranked t.text whole r.walk.0 r.events r.walk.1 r.walk.2 in
          elim (or_true (reads_first t.first x) (not (sets_in t.first x) && reads_first r.events x) (sym (reads_first-append t.first r.events x) ∙ r.first)) [
            | inl now ↦ true_or (reads_first t.first x) (not (sets_in t.first x) && (text_chances p t.text x q).reads) now
            | inr later ↦
                let parts = and_true (not (sets_in t.first x)) (reads_first r.events x) later in
                or_else (reads_first t.first x) (not (sets_in t.first x) && (text_chances p t.text x q).reads)
                (both_true (not (sets_in t.first x)) (text_chances p t.text x q).reads parts.0 (told.reads parts.1))
          ],
    )

-- A way that ends in a state is `into` that state.
into_state : (way : Way) (s : List ℕ) → Some s ≡ way_state way → way ≡ into s
into_state onward s h = let bad : Some s ≡ None = h in absurd (let k : ⊥ = cc in k)
into_state stops s h = let bad : Some s ≡ None = h in absurd (let k : ⊥ = cc in k)
into_state (into z) s h = let same : Some s ≡ Some z = h in let one : s ≡ z = cc in ap into (sym one)

pub keeps_exactly : (p : PlainProcess) (rank : List ℕ → ℕ) (t : Transition) (x : List ℕ) (q : ℕ) → AreRanked p rank
    → IsWhole (IsBefore p rank (length p.connections)) t.text → ((transition_chances p t x q).enters ≡ true) ↔ Keeps p t x q
keeps_exactly p rank t x q ranked whole = (
  λ h.
      let parts = and_true (not (sets_in t.first x)) (text_chances p t.text x q).enters h in
      keeps_after p rank t x q ranked whole (not-true (sets_in t.first x) parts.0) parts.1,
  λ r.
      let walk = subst (λ (w : Way). Walks (Follows p r.walk.0) t.text r.events w) (into_state r.walk.1 r.state r.walk.3) r.walk.2 in
      let told = walk_tells p rank x q ranked t.text whole r.walk.0 r.events (into r.state) walk in
      let parts = and_true (not (sets_in t.first x)) (not (sets_in r.events x)) (sym (sets_in-append t.first r.events x) ∙ ap not r.keeps) in
      both_true (not (sets_in t.first x)) (text_chances p t.text x q).enters parts.0
      (told.enters (both_true (is_state (states_of p) q r.state) (not (sets_in r.events x)) (is_it q (number_of (states_of p) r.state) r.number) parts.1)),
)

-- ---- in a sound block

pub fine_process : (b : PlainBlock) (p : PlainProcess) → process_unknown b p ≡ [] → in_statements (λ from. statement_unanswered (variables_of p)) p ≡ [] → AreFine p
fine_process b p known answered =
    let ins = flat_map (input_unknown b p) (input_parts p) in
    let saves = flat_map (saves_unknown b p) p.states in
    let all = in_statements (λ from. statement_unknown b p) p in
    are_fine b p (nil_back saves all (nil_back ins (saves ++ all) known)) answered

pub sound_fine : (b : PlainBlock) (p : PlainProcess) → Sound b → Contains (processes_of b) p → AreFine p
sound_fine b p sound among =
    let known = each_nil (process_unknown b) (processes_of b) (nil_back (flat_map (route_unknown b) (routes_of b)) (flat_map (process_unknown b) (processes_of b)) sound.known) in
    let asked = λ (r : PlainProcess). in_statements (λ from. statement_unanswered (variables_of r)) r in
    let answered = each_nil asked (processes_of b) sound.answered in
    fine_process b p (each_at (λ r. process_unknown b r ≡ []) (processes_of b) p known among) (each_at (λ r. asked r ≡ []) (processes_of b) p answered among)

pub chances_shown : (b : PlainBlock) (p : PlainProcess) (order : List ℕ) (t : Transition) (x : List ℕ) (q : ℕ)
    → Sound b → Contains (processes_of b) p → IsOrder p order → IsTextOf p t.text → sets_in t.first x ≡ false
    → ((text_chances p t.text x q).reads ≡ true → Reads p t x) × ((text_chances p t.text x q).enters ≡ true → Keeps p t x q)
chances_shown b p order t x q sound among is text before =
    let fine = sound_fine b p sound among in
    let ranked = are_ranked p order fine is in
    let whole = is_whole p order fine is t.text text in
    (reads_after p (rank_of p order) t x q ranked whole before, keeps_after p (rank_of p order) t x q ranked whole before)
