-- From paths by numbers to paths by names.
use Rattle.std.proofs.Common.{◌≡◌, ℕ, zero, suc, ◌+◌, ◌<◌, true, List, [], ◌∷◌, map, length, None, Some, refl, sym, ap, ◌∙◌, subst, arith}
use Rattle.std.specs.Prelude.{slice_get, Contains}
use Rattle.std.specs.List.{AllZip, enumerate_from}
use Rattle.std.specs.Option.{option_map_or, option_and_then}
use Rattle.std.specs.Global.{Vec}
use Rattle.std.proofs.lemmas.Option.{slice_get_within}
use Rattle.sdl_unset.specs.declared.paths.Summary.{Summary}
use Rattle.sdl_unset.specs.declared.paths.Graph.{Graph}
use Rattle.sdl_unset.specs.declared.paths.Step as number
use Rattle.sdl_unset.specs.declared.paths.Step.TheVariants.{Start as First, Input as By}
use Rattle.sdl_unset.specs.Order.{IsSorted}
use Rattle.sdl_unset.specs.Graph as graph
use Rattle.sdl_unset.specs.Graph.{input_at}
use Rattle.sdl_ast.specs.Plain.{PlainProcess}
use Rattle.sdl_ast.specs.declared.expression.Identifier.{Identifier}
use Rattle.sdl_tables.specs.Names.{same_name, number_of, variable_names, states_of, Input, inputs_of, inputs_by_state}
use Rattle.sdl_sound.specs.Paths.{Leads, start_transition, input_transition, inputs_in, ReadsFrom, ReadsUnset}
use Rattle.sdl_unset.specs.Graphs.{IsSummaryOf, IsGraphOf}
use Rattle.sdl_unset.specs.Fates.{IsStep, IsNamed}
use Rattle.sdl_sound.specs.declared.fault.Step.{Step}
use Rattle.sdl_sound.proofs.Numbered.{number_names}
use Rattle.plain_laws.proofs.Options.{some_of}
use Rattle.plain_laws.proofs.Pairwise.{zip_beside as all_zip_left}
use Rattle.plain_laws.proofs.Places.{among_at}

-- ---- lists paired by place

pub all_zip_right : {A B : Type 0} (R : A → B → Type 0) (xs : List A) (ys : List B) (i : ℕ) (y : B) → AllZip R xs ys
    → slice_get ys i ≡ Some y → (x : A) × (slice_get xs i ≡ Some x) × R x y
all_zip_right R [] [] i y h e = let bad : None ≡ Some y = e in absurd (cc)
all_zip_right R [] (b ∷ ys) i y h e = absurd h
all_zip_right R (a ∷ xs) [] i y h e = absurd h
all_zip_right R (a ∷ xs) (b ∷ ys) zero y h e =
    let other : b ≡ y = let s : Some b ≡ Some y = e in cc in
    (a, refl, subst (R a) other h.0)
all_zip_right R (a ∷ xs) (b ∷ ys) (suc i) y h e = all_zip_right R xs ys i y h.1 e

enumerated : {X : Type 0} (f : ℕ → List Input) (xs : List X) (k q : ℕ) (x : X) → slice_get xs q ≡ Some x
    → slice_get (map (λ s. f s.0) (enumerate_from k xs)) q ≡ Some (f (k + q))
enumerated f [] k q x e = let bad : None ≡ Some x = e in absurd (cc)
enumerated f (y ∷ xs) k zero x e = let same : k ≡ k + 0 = omega arith in ap (λ n. Some (f n)) same
enumerated f (y ∷ xs) k (suc q) x e = let same : (k + 1) + q ≡ k + suc q = omega arith in enumerated f xs (k + 1) q x e ∙ ap (λ n. Some (f n)) same

enumerated_back : {X : Type 0} (f : ℕ → List Input) (xs : List X) (k q : ℕ) (is : List Input)
    → slice_get (map (λ s. f s.0) (enumerate_from k xs)) q ≡ Some is → (q < length xs) × (is ≡ f (k + q))
enumerated_back f [] k q is e = let bad : None ≡ Some is = e in absurd (cc)
enumerated_back f (y ∷ xs) k zero is e =
    let same : k ≡ k + 0 = omega arith in
    let s : f k ≡ is = let t : Some (f k) ≡ Some is = e in cc in
    (omega arith, sym s ∙ ap f same)
enumerated_back f (y ∷ xs) k (suc q) is e =
    let same : (k + 1) + q ≡ k + suc q = omega arith in
    let rest = enumerated_back f xs (k + 1) q is e in
    (omega (arith, rest.0), rest.1 ∙ ap f same)

-- The inputs of a state that exists.
pub inputs_at : (p : PlainProcess) (q : ℕ) (id : Identifier) → slice_get (states_of p) q ≡ Some id
    → slice_get (inputs_by_state p) q ≡ Some (inputs_of p q)
inputs_at p q id e = let same : 0 + q ≡ q = omega arith in enumerated (inputs_of p) (states_of p) 0 q id e ∙ ap (λ n. Some (inputs_of p n)) same

pub inputs_back : (p : PlainProcess) (q : ℕ) (is : List Input) → slice_get (inputs_by_state p) q ≡ Some is
    → (q < length (states_of p)) × (is ≡ inputs_of p q)
inputs_back p q is e =
    let same : 0 + q ≡ q = omega arith in
    let told = enumerated_back (inputs_of p) (states_of p) 0 q is e in
    (told.0, told.1 ∙ ap (inputs_of p) same)

-- ---- inputs, by numbers in the graph and in the tree

abbrev pub AreSummaries : PlainProcess → List Input → Vec Summary → Type 0
AreSummaries p is v = AllZip (λ i s. IsSummaryOf p (input_transition i) s) is v.items

-- An input of the graph is one of the process.
pub input_of_graph : (p : PlainProcess) (g : Graph) (q i : ℕ) (t : Summary) → IsGraphOf p g → input_at g q i ≡ Some t
    → (inp : Input) × (slice_get (inputs_of p q) i ≡ Some inp) × (q < length (states_of p)) × IsSummaryOf p (input_transition inp) t
input_of_graph p g q i t is e =
    let row = some_of (λ (v : Vec Summary). slice_get v.items i) (slice_get g.states.items q) t e in
    let state = all_zip_right (AreSummaries p) (inputs_by_state p) g.states.items q row.0 is.states row.1 in
    let back = inputs_back p q state.0 state.1 in
    let input = all_zip_right (λ inp s. IsSummaryOf p (input_transition inp) s) state.0 row.0.items i t state.2 row.2 in
    (input.0, ap (λ l. slice_get l i) (sym back.1) ∙ input.1, back.0, input.2)

-- An input of the process is one of the graph.
pub input_in_graph : (p : PlainProcess) (g : Graph) (q i : ℕ) (id : Identifier) (inp : Input) → IsGraphOf p g
    → slice_get (states_of p) q ≡ Some id → slice_get (inputs_of p q) i ≡ Some inp
    → (t : Summary) × (input_at g q i ≡ Some t) × IsSummaryOf p (input_transition inp) t
input_in_graph p g q i id inp is state there =
    let row = all_zip_left (AreSummaries p) (inputs_by_state p) g.states.items q (inputs_of p q) is.states (inputs_at p q id state) in
    let input = all_zip_left (λ j s. IsSummaryOf p (input_transition j) s) (inputs_of p q) row.0.items i inp row.2 there in
    (input.0, ap (option_and_then (λ (v : Vec Summary). slice_get v.items i)) row.1 ∙ input.1, input.2)

-- The passages of a graph are in order.
pub graph_sorted : (p : PlainProcess) (g : Graph) → IsGraphOf p g → IsSorted g
graph_sorted p g is = record { start = is.start.sorted; states = λ s i t at. (input_of_graph p g s i t is at).3.sorted }

-- ---- a path by numbers, with its names

-- The step that a state takes on an input.
leads_named : (p : PlainProcess) (s : List ℕ) (q i : ℕ) (n : Step) → number_of (states_of p) s ≡ Some q
    → IsNamed p (By q i) n → (inp : Input) → slice_get (inputs_of p q) i ≡ Some inp → Leads p (Some s) n (input_transition inp)
leads_named p s q i n state (id, here, j, there, signal, same, is) inp inp_is =
    let found = number_names (states_of p) s q state in
    let one : found.0 ≡ id = let e : Some found.0 ≡ Some id = sym found.1 ∙ here in cc in
    let two : j ≡ inp = let e : Some j ≡ Some inp = sym there ∙ inp_is in cc in
    let inputs : inputs_in p s ≡ inputs_of p q = ap (λ o. option_map_or (inputs_of p) o []) state in
    let among : Contains (inputs_in p s) inp = subst (λ (l : List Input). Contains l inp) (sym inputs) (among_at (inputs_of p q) i inp inp_is) in
    let named : same_name s id.name ≡ true = ap (λ (d : Identifier). same_name s d.name) (sym one) ∙ found.2 in
    let heard : same_name signal inp.stimulus.name.name ≡ true = ap (λ (d : Input). same_name signal d.stimulus.name.name) (sym two) ∙ same in
    subst (λ (m : Step). Leads p (Some s) m (input_transition inp)) (sym is) (named, inp, among, heard, refl)

names_from : (p : PlainProcess) (g : Graph) (v : ℕ) (id : Identifier) → IsGraphOf p g → slice_get (variable_names p) v ≡ Some id
    → (path : List number.Step) (steps : List Step) (q : ℕ) (s : List ℕ) → number_of (states_of p) s ≡ Some q
    → graph.ReadsFrom g v (Some q) path → AllZip (IsNamed p) path steps → ReadsFrom p (Some s) steps id.name
names_from p g v id is var [] steps q s state reads named = absurd reads
names_from p g v id is var (First ∷ []) steps q s state (t, leads, reads) named = absurd leads
names_from p g v id is var (First ∷ next ∷ path) steps q s state (t, r, leads, passes, rest) named = absurd leads
names_from p g v id is var (By k i ∷ path) [] q s state reads named = absurd named
names_from p g v id is var (By k i ∷ []) (n ∷ n2 ∷ steps) q s state reads named = absurd named.1
names_from p g v id is var (By k i ∷ next ∷ path) (n ∷ []) q s state reads named = absurd named.1
names_from p g v id is var (By k i ∷ []) (n ∷ []) q s state (t, leads, reads) named =
    let input = input_of_graph p g q i t is leads.1 in
    let step : IsNamed p (By q i) n = subst (λ (m : ℕ). IsNamed p (By m i) n) leads.0 named.0 in
    let told = (input.3.reads v id var).0 reads in
    (input_transition input.0, leads_named p s q i n state step input.0 input.1, told.events, told.end, told.walk, told.first)
names_from p g v id is var (By k i ∷ next ∷ path) (n ∷ n2 ∷ steps) q s state (t, r, leads, passes, rest) named =
    let input = input_of_graph p g q i t is leads.1 in
    let step : IsNamed p (By q i) n = subst (λ (m : ℕ). IsNamed p (By m i) n) leads.0 named.0 in
    let left = (input.3.passes v r id var).0 passes in (
      input_transition input.0,
      leads_named p s q i n state step input.0 input.1,
      left.events,
      left.state,
      left.walk,
      left.keeps,
      names_from p g v id is var (next ∷ path) (n2 ∷ steps) r left.state left.number rest named.1,
    )

-- A path by numbers that reads a variable unset is one by names.
pub named_reads : (p : PlainProcess) (g : Graph) (v : ℕ) (id : Identifier) → IsGraphOf p g → slice_get (variable_names p) v ≡ Some id
    → (path : List number.Step) (steps : List Step) → graph.ReadsUnset g v path → AllZip (IsNamed p) path steps → ReadsUnset p steps id.name
named_reads p g v id is var [] steps reads named = absurd reads
named_reads p g v id is var (By q i ∷ []) steps (t, leads, reads) named = absurd leads
named_reads p g v id is var (By q i ∷ next ∷ path) steps (t, r, leads, passes, rest) named = absurd leads
named_reads p g v id is var (First ∷ path) [] reads named = absurd named
named_reads p g v id is var (First ∷ []) (n ∷ n2 ∷ steps) reads named = absurd named.1
named_reads p g v id is var (First ∷ next ∷ path) (n ∷ []) reads named = absurd named.1
named_reads p g v id is var (First ∷ []) (n ∷ []) (t, leads, reads) named =
    let sum : IsSummaryOf p (start_transition p) t = subst (IsSummaryOf p (start_transition p)) (sym leads) is.start in
    let told = (sum.reads v id var).0 reads in
    let first : Leads p None n (start_transition p) = subst (λ (m : Step). Leads p None m (start_transition p)) (sym named.0) refl in
    (start_transition p, first, told.events, told.end, told.walk, told.first)
named_reads p g v id is var (First ∷ next ∷ path) (n ∷ n2 ∷ steps) (t, r, leads, passes, rest) named =
    let sum : IsSummaryOf p (start_transition p) t = subst (IsSummaryOf p (start_transition p)) (sym leads) is.start in
    let left = (sum.passes v r id var).0 passes in
    let first : Leads p None n (start_transition p) = subst (λ (m : Step). Leads p None m (start_transition p)) (sym named.0) refl in (
      start_transition p,
      first,
      left.events,
      left.state,
      left.walk,
      left.keeps,
      names_from p g v id is var (next ∷ path) (n2 ∷ steps) r left.state left.number rest named.1,
    )

-- ---- the process has each step of such a path

step_there : (p : PlainProcess) (g : Graph) (q s i : ℕ) (t : Summary) → IsGraphOf p g → graph.Leads g (Some s) (By q i) t → IsStep p (By q i)
step_there p g q s i t is leads =
    let input = input_of_graph p g s i t is leads.1 in
    let within : i < length (inputs_of p s) = slice_get_within (inputs_of p s) i input.0 input.1 in
    subst (λ (m : ℕ). IsStep p (By m i)) (sym leads.0) (input.2, within)

steps_from : (p : PlainProcess) (g : Graph) (v : ℕ) → IsGraphOf p g → (path : List number.Step) (place : graph.Place)
    → graph.ReadsFrom g v place path → (k : ℕ) (step : number.Step) → slice_get path k ≡ Some step → IsStep p step
steps_from p g v is [] place reads k step e = absurd reads
steps_from p g v is (First ∷ path) place reads zero step e = let same : First ≡ step = let s : Some First ≡ Some step = e in cc in subst (IsStep p) same tt
steps_from p g v is (By q i ∷ []) None reads zero step e = absurd reads.1
steps_from p g v is (By q i ∷ next ∷ path) None reads zero step e = absurd reads.2
steps_from p g v is (By q i ∷ []) (Some s) reads zero step e =
    let same : By q i ≡ step = let h : Some (By q i) ≡ Some step = e in cc in subst (IsStep p) same (step_there p g q s i reads.0 is reads.1)
steps_from p g v is (By q i ∷ next ∷ path) (Some s) reads zero step e =
    let same : By q i ≡ step = let h : Some (By q i) ≡ Some step = e in cc in subst (IsStep p) same (step_there p g q s i reads.0 is reads.2)
steps_from p g v is (one ∷ []) place reads (suc k) step e = let bad : None ≡ Some step = e in absurd (cc)
steps_from p g v is (one ∷ next ∷ path) place reads (suc k) step e = steps_from p g v is (next ∷ path) (Some reads.1) reads.4 k step e

pub steps_there : (p : PlainProcess) (g : Graph) (v : ℕ) → IsGraphOf p g → (path : List number.Step) → graph.ReadsUnset g v path
    → (k : ℕ) (step : number.Step) → slice_get path k ≡ Some step → IsStep p step
steps_there p g v is path reads = steps_from p g v is path None reads
