-- From the fates of the variables to the sets of the states.
use Rattle.std.proofs.Common.{◌≡◌, ℕ, suc, ◌+◌, ◌<◌, Bool, true, false, not, List, [], ◌∷◌, map, length, Option, None, Some, ◌++◌, refl, sym, ap, ◌∙◌, subst, arith, get_or, if◌then◌else◌, true≢false, inl, inr, ◌⊎◌}
use Rattle.std.specs.Prelude.{slice_get, All}
use Rattle.std.specs.List.{enumerate_from}
use Rattle.std.specs.Option.{option_map_or}
use Rattle.std.specs.Int.{bit_at}
use Rattle.std.specs.Global.{Vec}
use Rattle.std.proofs.lemmas.List.{length-map}
use Rattle.std.proofs.lemmas.List.Elements.{All-contains}
use Rattle.std.proofs.lemmas.Option.{slice_get-get_or, slice_get_within}
use Rattle.sdl_unset.specs.declared.paths.Summary.{Summary}
use Rattle.sdl_unset.specs.declared.paths.Graph.{Graph}
use Rattle.sdl_unset.specs.declared.paths.Fate.{Fate}
use Rattle.sdl_unset.specs.declared.paths.Fate.TheVariants.{Unset, Set}
use Rattle.sdl_unset.specs.declared.paths.Step as number
use Rattle.sdl_unset.specs.declared.paths.Step.TheVariants.{Input as By}
use Rattle.sdl_unset.specs.Graph as graph
use Rattle.sdl_unset.specs.Graph.{has, IsSeen, IsSafe, IsClosedSet}
use Rattle.sdl_ast.specs.Plain.{PlainProcess, PlainBlock}
use Rattle.sdl_ast.specs.declared.expression.Identifier.{Identifier}
use Rattle.sdl_tables.specs.Names.{number_of, variable_names, variables_of, states_of, Input, inputs_of, inputs_by_state}
use Rattle.sdl_sound.specs.Names.{process_unknown}
use Rattle.sdl_sound.specs.Paths.{Event, IsWalk, Transition, start_transition, input_transition, reads_first, sets_in, NeverReadsUnset}
use Rattle.sdl_unset.specs.Graphs.{IsSummaryOf}
use Rattle.sdl_sound.specs.Settled.{IsSettled, AreSettled}
use Rattle.sdl_unset.specs.Fates.{IsFate, AreFates, AreSet, is_set_in, set_bit}
use Rattle.sdl_unset.proofs.PathNames.{input_in_graph, inputs_back}
use Rattle.sdl_unset.proofs.Numbers.{never_reads}
use Rattle.plain_laws.proofs.Places.{there_is, no_place}
use Rattle.plain_laws.proofs.Pairwise.{zip_by as all_zip_by}

-- ---- places

pub numbered_length : {X : Type 0} (f : ℕ → List Input) (xs : List X) (k : ℕ) → length (map (λ s. f s.0) (enumerate_from k xs)) ≡ length xs
numbered_length f [] k = refl
numbered_length f (x ∷ xs) k = ap suc (numbered_length f xs (k + 1))

-- ---- the fate of a declared variable

-- A declared variable is set, and these are its marks.
pub record IsMarked (p : PlainProcess) (g : Graph) (fates : List Fate) (v : ℕ) : Type 0 where
  pub marks : Vec Bool
  pub there : slice_get fates v ≡ Some (Set marks)
  pub none : (path : List number.Step) → graph.ReadsUnset g v path → ⊥
  pub closed : IsClosedSet g v marks.items

marked_by : (p : PlainProcess) (g : Graph) (fates : List Fate) (v : ℕ) (f : Fate) → AreSet fates → slice_get fates v ≡ Some f → IsFate g v f → IsMarked p g fates v
marked_by p g fates v (Unset path) set there fate = absurd (set v path there)
marked_by p g fates v (Set marks) set there fate = record { marks = marks; there = there; none = fate.0; closed = fate.1 }

marked_at : (p : PlainProcess) (fates : List Fate) (v : ℕ) (o : Option Fate) → (a : AreFates p fates) → AreSet fates → v < length fates
    → slice_get fates v ≡ o → IsMarked p a.graph fates v
marked_at p fates v None a set within e = absurd (no_place fates v within e)
marked_at p fates v (Some f) a set within e = marked_by p a.graph fates v f set e (a.each v f e)

pub marked : (p : PlainProcess) (fates : List Fate) (v : ℕ) (id : Identifier) → (a : AreFates p fates) → AreSet fates
    → slice_get (variable_names p) v ≡ Some id → IsMarked p a.graph fates v
marked p fates v id a set var =
    let names : length (variable_names p) ≡ length (variables_of p) = length-map (variables_of p) (λ x. x.name) in
    let within : v < length fates = omega (arith, slice_get_within (variable_names p) v id var, names, a.count) in
    marked_at p fates v (slice_get fates v) a set within refl

-- ---- bits

abbrev bit_if : Option Bool → ℕ
bit_if o = if option_map_or not o false then 1 else 0

bit_cases : (o : Option Bool) → bit_if o ≡ 1 → o ≡ Some false
bit_cases None h = absurd (omega (arith, h))
bit_cases (Some true) h = absurd (omega (arith, h))
bit_cases (Some false) h = refl

bit_of : (fates : List Fate) (q v : ℕ) (marks : Vec Bool) → slice_get fates v ≡ Some (Set marks)
    → set_bit fates q v ≡ bit_if (slice_get marks.items q)
bit_of fates q v marks there = ap (λ o. option_map_or (λ f. if is_set_in f q then 1 else 0) o 0) there

-- A variable in the set of a state isn't marked there.
unmarked : (fates : List Fate) (q v set : ℕ) (marks : Vec Bool) → slice_get fates v ≡ Some (Set marks) → bit_at set v ≡ set_bit fates q v
    → bit_at set v ≡ 1 → slice_get marks.items q ≡ Some false
unmarked fates q v set marks there bit one = bit_cases (slice_get marks.items q) (sym (bit_of fates q v marks there) ∙ sym bit ∙ one)

-- A variable that isn't marked is in the set.
bit_from : (fates : List Fate) (q v set : ℕ) (marks : Vec Bool) → slice_get fates v ≡ Some (Set marks) → bit_at set v ≡ set_bit fates q v
    → slice_get marks.items q ≡ Some false → bit_at set v ≡ 1
bit_from fates q v set marks there bit free =
    bit ∙ bit_of fates q v marks there ∙ ap bit_if free

mark_by : (marks : List Bool) (q : ℕ) (o : Option Bool) → slice_get marks q ≡ o → (slice_get marks q ≡ Some false) ⊎ IsSeen marks q
mark_by marks q None e = inr (λ within. let bad : None ≡ Some (get_or marks q false) = sym e ∙ slice_get-get_or marks q false within in absurd (cc))
mark_by marks q (Some true) e = inr (λ within. e)
mark_by marks q (Some false) e = inl e

mark_cases : (marks : List Bool) (q : ℕ) → (slice_get marks q ≡ Some false) ⊎ IsSeen marks q
mark_cases marks q = mark_by marks q (slice_get marks q) refl

-- ---- a transition

-- The bits of the sets are those of the fates.
abbrev pub AreBits : List Fate → List ℕ → Type 0
AreBits fates sets = (q set : ℕ) → slice_get sets q ≡ Some set → (v : ℕ) → bit_at set v ≡ set_bit fates q v

-- Each variable is set before the transition, or the transition is safe for it.
abbrev IsCovered : PlainProcess → Graph → List Fate → ℕ → Summary → Type 0
IsCovered p g fates before sum = (v : ℕ) (m : IsMarked p g fates v) → (bit_at before v ≡ 1) ⊎ IsSafe sum v m.marks.items

settled_reads : (p : PlainProcess) (fates : List Fate) (before : ℕ) (u : Transition) (sum : Summary) (a : AreFates p fates) → AreSet fates
    → IsSummaryOf p u sum → IsCovered p a.graph fates before sum → (events : List Event) (end : Option (List ℕ)) (v : ℕ) (id : Identifier)
    → IsWalk p u.text events end → slice_get (variable_names p) v ≡ Some id → reads_first (u.first ++ events) id.name ≡ true → bit_at before v ≡ 1
settled_reads p fates before u sum a set is covered events end v id walk var first =
    let m = marked p fates v id a set var in
    elim (covered v m) [
      | inl one ↦ one
      | inr safe ↦
          let read : has sum.reads v ≡ true = (is.reads v id var).1 (record { events = events; end = end; walk = walk; first = first }) in
          absurd (true≢false (sym read ∙ safe.reads))
    ]

settled_states : (p : PlainProcess) (fates : List Fate) (sets : List ℕ) (before : ℕ) (u : Transition) (sum : Summary) (a : AreFates p fates) → AreSet fates
    → AreBits fates sets → IsSummaryOf p u sum → IsCovered p a.graph fates before sum → (events : List Event) (s : List ℕ) (q set v : ℕ) (id : Identifier)
    → IsWalk p u.text events (Some s) → number_of (states_of p) s ≡ Some q → slice_get sets q ≡ Some set → slice_get (variable_names p) v ≡ Some id
    → bit_at set v ≡ 1 → sets_in (u.first ++ events) id.name ≡ false → bit_at before v ≡ 1
settled_states p fates sets before u sum a all bits is covered events s q set v id walk state there var one left =
    let m = marked p fates v id a all var in
    elim (covered v m) [
      | inl done ↦ done
      | inr safe ↦
          let passes = (is.passes v q id var).1 (record { events = events; state = s; walk = walk; number = state; keeps = left }) in
          let seen : IsSeen m.marks.items passes.passage.state =
          All-contains (λ p. has p.keeps v ≡ true → IsSeen m.marks.items p.state) _ _ safe.covers passes.among passes.keeps in
          let here : IsSeen m.marks.items q = subst (IsSeen m.marks.items) passes.ends seen in
          let free : slice_get m.marks.items q ≡ Some false = unmarked fates q v set m.marks m.there (bits q set there v) one in
          let bad : Some true ≡ Some false = sym (here (slice_get_within m.marks.items q false free)) ∙ free in
          absurd (cc)
    ]

settled_by : (p : PlainProcess) (fates : List Fate) (sets : List ℕ) (before : ℕ) (u : Transition) (sum : Summary) (a : AreFates p fates) → AreSet fates
    → AreBits fates sets → IsSummaryOf p u sum → IsCovered p a.graph fates before sum → IsSettled p sets before u
settled_by p fates sets before u sum a set bits is covered = record {
  reads = settled_reads p fates before u sum a set is covered;
  states = settled_states p fates sets before u sum a set bits is covered;
}

-- An input of a state.
input_covered : (p : PlainProcess) (fates : List Fate) (sets : List ℕ) (q i set : ℕ) (t : Summary) (a : AreFates p fates) → AreBits fates sets
    → slice_get sets q ≡ Some set → graph.input_at a.graph q i ≡ Some t → IsCovered p a.graph fates set t
input_covered p fates sets q i set t a bits there leads v m = elim (mark_cases m.marks.items q) [
  | inl free ↦ inl (bit_from fates q v set m.marks m.there (bits q set there v) free)
  | inr seen ↦ inr (m.closed.states q seen (By q i) t (refl, leads))
]

input_settled : (p : PlainProcess) (fates : List Fate) (sets : List ℕ) (q i set : ℕ) (inp : Input) (a : AreFates p fates) → AreSet fates → AreBits fates sets
    → slice_get sets q ≡ Some set → q < length (states_of p) → slice_get (inputs_of p q) i ≡ Some inp → IsSettled p sets set (input_transition inp)
input_settled p fates sets q i set inp a all bits there within e =
    let state = there_is (states_of p) q within in
    let found = input_in_graph p a.graph q i state.0 inp a.is state.1 e in
    settled_by p fates sets set (input_transition inp) found.0 a all bits found.2 (input_covered p fates sets q i set found.0 a bits there found.1)

-- ---- all states

bit_declared : (fates : List Fate) (q v : ℕ) (o : Option Fate) → slice_get fates v ≡ o → set_bit fates q v ≡ 1 → v < length fates
bit_declared fates q v None e one =
    let zero_is : set_bit fates q v ≡ 0 = ap (λ o. option_map_or (λ f. if is_set_in f q then 1 else 0) o 0) e in
    absurd (omega (arith, one, zero_is))
bit_declared fates q v (Some f) e one = slice_get_within fates v f e

pub settled : (p : PlainProcess) (fates : List Fate) (sets : List ℕ) (a : AreFates p fates) → AreSet fates → length sets ≡ length (states_of p)
    → AreBits fates sets → AreSettled p sets
settled p fates sets a all count bits = record {
  count = count;
  declared = λ q d within v one.
      let there : slice_get sets q ≡ Some (get_or sets q d) = slice_get-get_or sets q d within in
      let bit : set_bit fates q v ≡ 1 = sym (bits q (get_or sets q d) there v) ∙ one in
      omega (arith, bit_declared fates q v (slice_get fates v) refl bit, a.count);
  start = settled_by p fates sets 0 (start_transition p) a.graph.start a all bits a.is.start (λ v m. inr m.closed.start);
  inputs =
      let numbered : length (inputs_by_state p) ≡ length (states_of p) = numbered_length (inputs_of p) (states_of p) 0 in
      all_zip_by (λ set is. All (λ i. IsSettled p sets set (input_transition i)) is) sets (inputs_by_state p) (count ∙ sym numbered)
      (λ q set is there state k d within.
      let back = inputs_back p q is state in
      let input : slice_get (inputs_of p q) k ≡ Some (get_or is k d) = ap (λ l. slice_get l k) (sym back.1) ∙ slice_get-get_or is k d within in
      input_settled p fates sets q k set (get_or is k d) a all bits there back.0 input);
}

-- No path reads a variable unset.
pub never : (b : PlainBlock) (p : PlainProcess) (fates : List Fate) → process_unknown b p ≡ [] → AreFates p fates → AreSet fates → NeverReadsUnset p
never b p fates known a set = never_reads b p a.graph known a.is (λ v id var. (marked p fates v id a set var).none)
