-- The summary of a transition, made from its chances; and the graph of a process.
use Rattle.std.proofs.Common.{◌≡◌, ℕ, zero, suc, ◌+◌, ◌<◌, ◌≤◌, true, false, List, [], ◌∷◌, ◌++◌, map, take, length, None, Some, get_or, refl, sym, ap, ◌∙◌, subst, arith, inl, inr}
use Rattle.std.specs.Prelude.{slice_get, Contains}
use Rattle.std.specs.List.{AllZip, enumerate_from}
use Rattle.std.specs.Global.{Vec}
use Rattle.std.proofs.lemmas.Bool.{cases_eq}
use Rattle.std.proofs.lemmas.List.{length-map, map_more, take_more, length-take-le}
use Rattle.std.proofs.lemmas.List.Elements.{Contains-append_left, Contains-append_right, Contains-append_cases}
use Rattle.std.proofs.lemmas.Option.{slice_get_within}
use Rattle.sdl_unset.specs.Graph.{has}
use Rattle.sdl_unset.specs.Order.{AreSorted}
use Rattle.sdl_sound.proofs.Lists.{get_push_cases}
use Rattle.sdl_unset.specs.declared.paths.Passage.{Passage}
use Rattle.sdl_unset.specs.declared.paths.Summary.{Summary}
use Rattle.sdl_unset.specs.declared.paths.Graph.{Graph}
use Rattle.sdl_ast.specs.declared.expression.Identifier.{Identifier}
use Rattle.sdl_ast.specs.Plain.{PlainProcess}
use Rattle.sdl_tables.specs.Names.{Variable, variable_names, variables_of, states_of, Input, inputs_of, inputs_by_state, of_state, part_inputs}
use Rattle.sdl_sound.specs.Paths.{Transition, start_transition, input_transition}
use Rattle.sdl_sound.specs.Chances.{leaving, event_chances, behind, text_chances}
use Rattle.sdl_unset.specs.Graphs.{IsSummaryOf, IsGraphOf}
use Rattle.sdl_unset.specs.Flows.{mask_at, Stands, ArePassages, IsSummaryBy, AreSummariesBy}
use Rattle.sdl_sound.specs.Orders.{IsOrder}
use Rattle.sdl_unset.specs.declared.walker.Walker.{Walker}
use Rattle.sdl_unset.proofs.Bits.{has_none}
use Rattle.sdl_sound.proofs.Items.{Each, each_always, each_map, each_with}
use Rattle.sdl_unset.proofs.Chancing.{IsWhole, IsBefore, AreRanked}
use Rattle.sdl_unset.proofs.Ranks.{AreFine, rank_of, are_ranked, is_whole, each_contains}
use Rattle.sdl_unset.proofs.Telling.{reads_exactly, keeps_exactly}
use Rattle.std.proofs.lemmas.Slice.Zip.{all_zipped_more as zip_push}
use Rattle.sdl_unset.proofs.Walkers.{mask_past}

-- ---- passages

none_has : (v : ℕ) → has 0 v ≡ true → ⊥
none_has v h = let bad : false ≡ true = sym (has_none v) ∙ h in cc

mask-last : (masks : List ℕ) (m : ℕ) → mask_at (masks ++ m ∷ []) (length masks) ≡ m
mask-last [] m = refl
mask-last (k ∷ masks) m = mask-last masks m

mask-before : (masks : List ℕ) (m q : ℕ) → (q ≡ length masks → ⊥) → mask_at (masks ++ m ∷ []) q ≡ mask_at masks q
mask-before [] m zero h = absurd (h refl)
mask-before [] m (suc q) h = refl
mask-before (k ∷ masks) m zero h = refl
mask-before (k ∷ masks) m (suc q) h = mask-before masks m q (λ e. h (ap suc e))

contains_none : {A : Type 0} (x : A) → Contains [] x → ⊥
contains_none x c = omega (arith, c.1)

contains_one : {A : Type 0} (x y : A) → Contains (x ∷ []) y → x ≡ y
contains_one x y c =
    let first : c.0 ≡ 0 = omega (arith, c.1) in
    subst (λ k. get_or (x ∷ []) k y ≡ y) first c.2

pub no_passages : ArePassages [] []
no_passages = λ v q. (λ h. absurd (contains_none h.0 h.1), λ h. absurd (none_has v h))

more_passages : (masks : List ℕ) (m : ℕ) (passages : List Passage) → ArePassages masks passages
    → ArePassages (masks ++ m ∷ []) (passages ++ record { state = length masks; keeps = m } ∷ [])
more_passages masks m passages are = λ v q. (
  λ h. elim (Contains-append_cases passages (record { state = length masks; keeps = m } ∷ []) h.0 h.1) [
    | inl among ↦
        let there = (are v q).0 (h.0, among, h.2, h.3) in
        elim (cases_eq q (length masks)) [
          | inl e ↦ absurd (none_has v (ap (λ k. has k v) (sym (mask_past masks q (omega (arith, e)))) ∙ there))
          | inr ne ↦ ap (λ k. has k v) (mask-before masks m q ne) ∙ there
        ]
    | inr among ↦
        let only : record { state = length masks; keeps = m } ≡ h.0 = contains_one (record { state = length masks; keeps = m }) h.0 among in
        let at : length masks ≡ q = ap (λ (u : Passage). u.state) only ∙ h.3 in
        ap (λ k. has k v) (ap (mask_at (masks ++ m ∷ [])) (sym at) ∙ mask-last masks m) ∙ (ap (λ (u : Passage). has u.keeps v) only ∙ h.2)
  ],
  λ h. elim (cases_eq q (length masks)) [
    | inl e ↦ (
      record { state = length masks; keeps = m },
      Contains-append_right passages (record { state = length masks; keeps = m } ∷ []) (record { state = length masks; keeps = m }) (0, omega arith, refl),
      ap (λ k. has k v) (sym (mask-last masks m) ∙ ap (mask_at (masks ++ m ∷ [])) (sym e)) ∙ h,
      sym e,
    )
    | inr ne ↦
        let there = (are v q).1 (ap (λ k. has k v) (sym (mask-before masks m q ne)) ∙ h) in
        (there.0, Contains-append_left passages (record { state = length masks; keeps = m } ∷ []) there.0 there.1, there.2, there.3)
  ],
)

-- An empty mask needs no passage.
skipped_passage : (masks : List ℕ) (m : ℕ) (passages : List Passage) → m ≡ 0 → ArePassages masks passages → ArePassages (masks ++ m ∷ []) passages
skipped_passage masks m passages none are = λ v q. (
  λ h.
      let there = (are v q).0 h in
      elim (cases_eq q (length masks)) [
        | inl e ↦ absurd (none_has v (ap (λ k. has k v) (sym (mask_past masks q (omega (arith, e)))) ∙ there))
        | inr ne ↦ ap (λ k. has k v) (mask-before masks m q ne) ∙ there
      ],
  λ h. elim (cases_eq q (length masks)) [
    | inl e ↦ absurd (none_has v (ap (λ k. has k v) (sym (ap (mask_at (masks ++ m ∷ [])) e ∙ (mask-last masks m ∙ none))) ∙ h))
    | inr ne ↦ (are v q).1 (ap (λ k. has k v) (sym (mask-before masks m q ne)) ∙ h)
  ],
)

pub passage_added : (masks : List ℕ) (i : ℕ) (passages : List Passage) → i < length masks → ArePassages (take i masks) passages
    → ArePassages (take (i + 1) masks) (passages ++ record { state = i; keeps = get_or masks i 0 } ∷ [])
passage_added masks i passages within are =
    let m = get_or masks i 0 in
    let at : length (take i masks) ≡ i = length-take-le i masks (omega (arith, within)) in
    subst (λ (list : List ℕ). ArePassages list (passages ++ record { state = i; keeps = m } ∷ [])) (sym (take_more masks i 0 within))
    (subst (λ (n : ℕ). ArePassages (take i masks ++ m ∷ []) (passages ++ record { state = n; keeps = m } ∷ [])) at (more_passages (take i masks) m passages are))

pub passage_skipped : (masks : List ℕ) (i : ℕ) (passages : List Passage) → i < length masks → get_or masks i 0 ≡ 0 → ArePassages (take i masks) passages
    → ArePassages (take (i + 1) masks) passages
passage_skipped masks i passages within none are =
    subst (λ (list : List ℕ). ArePassages list passages) (sym (take_more masks i 0 within)) (skipped_passage (take i masks) (get_or masks i 0) passages none are)

-- ---- the order of the passages

-- The passages are in order, and lead to states below n.
abbrev pub AreBelow : List Passage → ℕ → Type 0
AreBelow ps n = AreSorted ps × ((i : ℕ) (p : Passage) → slice_get ps i ≡ Some p → p.state < n)

pub below_none : AreBelow [] 0
below_none = (λ i j p q lt at_i at_j. absurd (nothing p at_i), λ i p at. absurd (nothing p at))
  where
    nothing : (p : Passage) → None ≡ Some p → ⊥
    nothing p e = cc

pub below_later : (ps : List Passage) (n : ℕ) → AreBelow ps n → AreBelow ps (n + 1)
below_later ps n h = (h.0, λ i p at. omega (arith, h.1 i p at))

pub below_push : (ps : List Passage) (n keeps : ℕ) → AreBelow ps n → AreBelow (ps ++ record { state = n; keeps = keeps } ∷ []) (n + 1)
below_push ps n keeps h =
    let new : Passage = record { state = n; keeps = keeps } in (
      λ i j p q lt at_i at_j. elim (get_push_cases ps new q j at_j) [
        | inl old ↦ elim (get_push_cases ps new p i at_i) [
          | inl same ↦ h.0 i j p q lt same old
          | inr e ↦ absurd (omega (arith, lt, e.0, slice_get_within ps j q old))
        ]
        | inr last ↦
            let state : q.state ≡ n = ap (λ (z : Passage). z.state) last.1 in
            elim (get_push_cases ps new p i at_i) [
              | inl same ↦ omega (arith, h.1 i p same, state)
              | inr e ↦ absurd (omega (arith, lt, e.0, last.0))
            ]
      ],
      λ i p at. elim (get_push_cases ps new p i at) [
        | inl same ↦ omega (arith, h.1 i p same)
        | inr e ↦ omega (arith, ap (λ (z : Passage). z.state) e.1)
      ],
    )

-- ---- summaries

pub below : (p : PlainProcess) (v : ℕ) (id : Identifier) → length (variables_of p) ≤ 32 → slice_get (variable_names p) v ≡ Some id → v < 32
below p v id few there =
    let within = slice_get_within (variable_names p) v id there in
    let same : length (variable_names p) ≡ length (variables_of p) = length-map (variables_of p) (λ (x : Variable). x.name) in
    omega arith

pub summary_by : (p : PlainProcess) (t : Transition) (w : Walker) (passages : Vec Passage) → length (variables_of p) ≤ 32
    → Stands p (λ x q. behind (behind leaving (event_chances t.first x)) (text_chances p t.text x q)) w → ArePassages w.enters.items passages.items → AreSorted passages.items
    → IsSummaryBy p t (record { reads = w.reads; passages = passages })
unfolding Stands
summary_by p t w passages few s are sorted = record {
  reads = λ v q id there. (s.1 v q id (below p v id few there) there).0;
  passes = λ v q id there.
      let bit = (s.1 v q id (below p v id few there) there).2 in (
        λ h. sym bit ∙ (are v q).0 (h.passage, h.among, h.keeps, h.ends),
        λ h. let found = (are v q).1 (bit ∙ h) in record { passage = found.0; among = found.1; keeps = found.2; ends = found.3 },
      );
  sorted = sorted;
}

pub summary_of : (p : PlainProcess) (rank : List ℕ → ℕ) (t : Transition) (s : Summary) → AreRanked p rank → IsWhole (IsBefore p rank (length p.connections)) t.text
    → IsSummaryBy p t s → IsSummaryOf p t s
summary_of p rank t s ranked whole by = record {
  reads = λ v id there.
      let same = by.reads v 0 id there in
      let told = reads_exactly p rank t id.name 0 ranked whole in
      (λ h. told.0 (sym same ∙ h), λ r. same ∙ told.1 r);
  passes = λ v q id there.
      let same = by.passes v q id there in
      let told = keeps_exactly p rank t id.name q ranked whole in
      (λ h. told.0 (same.0 h), λ k. same.1 (told.1 k));
  sorted = by.sorted;
}

-- ---- the graph

-- One more row.
pub zip_more : {X A B : Type 0} (R : A → B → Type 0) (g : X → A) (xs : List X) (i : ℕ) (x : X) (ys : List B) (y : B) → i < length xs → x ≡ get_or xs i x
    → AllZip R (map g (take i xs)) ys → R (g x) y → AllZip R (map g (take (i + 1) xs)) (ys ++ y ∷ [])
zip_more R g xs i x ys y within is h r =
    subst (λ zs. AllZip R zs (ys ++ y ∷ [])) (ap (λ u. map g (take i xs) ++ g u ∷ []) is ∙ sym (map_more g xs i x within))
    (zip_push R (map g (take i xs)) ys (g x) y h r)

zip_with : {A B : Type 0} (P : A → Type 0) (R S : A → B → Type 0) → ((x : A) (y : B) → P x → R x y → S x y) → (xs : List A) (ys : List B) → Each P xs → AllZip R xs ys → AllZip S xs ys
zip_with P R S f [] [] e h = tt
zip_with P R S f [] (y ∷ ys) e h = absurd h
zip_with P R S f (x ∷ xs) [] e h = absurd h
zip_with P R S f (x ∷ xs) (y ∷ ys) e h = (f x y e.0 h.0, zip_with P R S f xs ys e.1 h.1)

pub graph_is : (p : PlainProcess) (order : List ℕ) (g : Graph) → AreFine p → IsOrder p order → IsSummaryBy p (start_transition p) g.start
    → AllZip (AreSummariesBy p) (inputs_by_state p) g.states.items → IsGraphOf p g
graph_is p order g fine is start states =
    let rank = rank_of p order in
    let ranked = are_ranked p order fine is in
    let whole = is_whole p order fine is in
    let P = λ (i : Input). IsWhole (IsBefore p rank (length p.connections)) i.text in
    let R = λ (i : Input) (s : Summary). IsSummaryBy p (input_transition i) s in
    let S = λ (i : Input) (s : Summary). IsSummaryOf p (input_transition i) s in
    let each : (s : ℕ) → Each P (inputs_of p s) =
    λ s. each_with (λ (i : Input). Contains (inputs_of p s) i) P (λ i among. whole i.text (inr (inl (s, i, among, refl)))) (inputs_of p s) (each_contains (inputs_of p s)) in
    let all : Each (Each P) (inputs_by_state p) =
    each_map (Each P) (λ (s : ℕ × Identifier). of_state part_inputs p s.0) (enumerate_from 0 (states_of p))
    (each_always (λ (s : ℕ × Identifier). Each P (of_state part_inputs p s.0)) (λ s. each s.0) (enumerate_from 0 (states_of p))) in
    record {
      start = summary_of p rank (start_transition p) g.start ranked (whole p.start.text (inl refl)) start;
      states = zip_with (Each P) (AreSummariesBy p) (λ (is : List Input) (v : Vec Summary). AllZip S is v.items)
          (λ inputs v e h. zip_with P R S (λ i s w by. summary_of p rank (input_transition i) s ranked w by) inputs v.items e h) (inputs_by_state p) g.states.items all states;
    }
