-- The counts of connections, known before a piece is counted, and the counts of the piece.
use Rattle.std.proofs.Common.{◌≡◌, ℕ, suc, ◌+◌, ◌<◌, ◌≤◌, ⊎_elim, Bool, true, false, cond, List, [], ◌∷◌, ◌++◌, length, length-append, set, replicate, Some, IsSome, refl, sym, ap, ◌∙◌, subst, arith, length-set, get_or-set_same, get_or-set_other}
use Rattle.std.specs.Prelude.{slice_get, get_or, nat_eq, is_some, Contains}
use Rattle.std.specs.List.{sum_by}
use Rattle.std.specs.Option.{option_map_or}
use Rattle.std.proofs.lemmas.Bool.{cases_eq, eqb-true as same_number}
use Rattle.std.proofs.lemmas.List.Sums.{sum_by-cons}
use Rattle.std.proofs.lemmas.Option.{slice_get-get_or}
use Rattle.sdl_ast.specs.declared.tree.Join as tree_join
use Rattle.sdl_ast.specs.Plain.{Text, PlainConnection, PlainProcess}
use Rattle.turn_code.specs.declared.instruction.Instruction.{Instruction}
use Rattle.sdl_tables.specs.Names.{Variable, variables_of}
use Rattle.sdl_sound.specs.Going.{goes_on as may_go_on}
use Rattle.sdl_sound.specs.Longest.{Piece, budget, effects, joined as measure_joined}
use Rattle.sdl_emit.specs.Measures.{capped, IsMeasureOf, AreMeasures}
use Rattle.sdl_emit.specs.sdl_measures_types.measures.Measure.{Measure}
use Rattle.sdl_compile.specs.declared.counts.Counted.{Counted}
use Rattle.sdl_compile.specs.declared.counts.Counted.TheVariants.{Instructions, Effects}
use Rattle.sdl_meaning.specs.Outcomes.{Scope, connector_at}
use Rattle.sdl_meaning.specs.Named.{NamedText, NamedPiece}
use Rattle.sdl_emit.specs.Scopes.{places_by}
use Rattle.sdl_compile.specs.Made.{IsSmall}
use Rattle.sdl_meaning.specs.Code.{number_or_zero, places_code, text_code, text_at, size_at, code_joins, ArePlaced, place_in, text_place, connections_place, connections_code, piece_code}
use Rattle.sdl_compile.specs.PlaceCounts.{weight, number_at, AreCounts, AreCountsFrom, AreWithin}
use Rattle.sdl_compile.specs.Counts.{measure_of, measured, piece_count}
use Rattle.sdl_meaning.proofs.Sizes.{places_size, text_size_is, connections_size}
use Rattle.sdl_meaning.proofs.Branches.{EachJoin}
use Rattle.sdl_meaning.proofs.Joining.{has_connection}
use Rattle.sdl_compile.proofs.Counting.{IsWeight, tally}
use Rattle.sdl_meaning.proofs.Measured.{Below, budget_below, effects_below, all_placed, each_of, each_named}
use Rattle.sdl_meaning.proofs.SameMeasures.{budget_same, effects_same}
use Rattle.sdl_emit.proofs.Gathering.{text_there}
use Rattle.sdl_compile.proofs.Piecewise.{size_some, first_counts, are_counts, join_is}
use Rattle.sdl_compile.proofs.Weights.{effects_weigh, tally_budget, tally_effects, places_ones, places_none}
use Rattle.turn_code.proofs.Lists.{at_place as contains_at}
use Rattle.sdl_meaning.proofs.Acts.{tail_contains as in_tail}
use Rattle.sdl_emit.proofs.Spacing.{zero_at}
use Rattle.plain_laws.proofs.Pairwise.{zip_beside as zip_at}

-- ---- the list of known counts, while it is made

pub record Filled (targets : List ℕ) (m : ℕ → ℕ) (ns known : List ℕ) (count i : ℕ) : Type 0 where
  pub size : length known ≡ count
  pub few : AreWithin 512 known
  pub done : (k n : ℕ) → k < i → slice_get ns k ≡ Some n → number_at known (places_by targets n) ≡ m n

pub none_filled : (targets : List ℕ) (m : ℕ → ℕ) (ns known : List ℕ) (count : ℕ) → known ≡ replicate count 0 → length known ≡ count → Filled targets m ns known count 0
none_filled targets m ns known count e l = record {
  size = l;
  few = λ k. let h = ap (λ known. get_or known k 0) e ∙ zero_at count k in omega (arith, h);
  done = λ k n lt at. absurd (omega (arith, lt));
}

pub one_filled : (targets : List ℕ) (m : ℕ → ℕ) (ns known : List ℕ) (count i n : ℕ)
    → ((n m : ℕ) → Contains ns n → Contains ns m → places_by targets n ≡ places_by targets m → n ≡ m)
    → Filled targets m ns known count i → slice_get ns i ≡ Some n → places_by targets n < count → m n ≤ 512 → Filled targets m ns (set known (places_by targets n) (m n)) count (i + 1)
one_filled targets m ns known count i n apart h at inside small = record {
  size = length-set known p (m n) ∙ h.size;
  few = λ k. ⊎_elim (λ (e : k ≡ p). let f = here k e in omega (arith, f, small)) (λ e. let f = get_or-set_other known p k (m n) 0 e in let g = h.few k in omega (arith, f, g)) (cases_eq k p);
  done = λ k o lt there. ⊎_elim
      (λ (e : places_by targets o ≡ p). let f = apart o n (contains_at ns k o there) (contains_at ns i n at) e in here (places_by targets o) e ∙ ap m (sym f))
      (λ e. get_or-set_other known p (places_by targets o) (m n) 0 e ∙ h.done k o (before k o lt there e) there)
      (cases_eq (places_by targets o) p);
}
  where
    p : ℕ
    p = places_by targets n

    here : (k : ℕ) → k ≡ p → number_at (set known p (m n)) k ≡ m n
    here k e = ap (number_at (set known p (m n))) e ∙ get_or-set_same known p (m n) 0 (omega (arith, inside, h.size))

    before : (k o : ℕ) → k < i + 1 → slice_get ns k ≡ Some o → (places_by targets o ≡ p → ⊥) → k < i
    before k o lt there e = ⊎_elim (λ (f : k ≡ i). absurd (e (ap (places_by targets) (let g : o ≡ n = cc (f, there, at) in g)))) (λ f. omega (arith, lt, f)) (cases_eq k i)

pub all_filled : (targets : List ℕ) (m : ℕ → ℕ) (ns known : List ℕ) (count i : ℕ) → Filled targets m ns known count i → length ns ≤ i → (n : ℕ) → Contains ns n → number_at known (places_by targets n) ≡ m n
all_filled targets m ns known count i h le n there = h.done there.0 n (omega (arith, there.1, le)) (slice_get-get_or ns there.0 n there.1 ∙ ap Some there.2)

-- ---- places of connections are apart

place_from : (c : Scope) (ns : List ℕ) (p n : ℕ) → Contains ns n → p ≤ place_in c p ns n
place_from c [] p n h = absurd (omega (arith, h.1))
place_from c (m ∷ ms) p n h = by_test (nat_eq m n) refl (λ h. place_from c ms (p + size_at c m) n h)
  where
    by_test : (t : Bool) → nat_eq m n ≡ t → (Contains ms n → p + size_at c m ≤ place_in c (p + size_at c m) ms n) → p ≤ cond t p (place_in c (p + size_at c m) ms n)
    by_test true e f = omega arith
    by_test false e f = let g = f (in_tail m ms n e h) in omega (arith, g)

pub place_apart : (c : Scope) (ns : List ℕ) (p n o : ℕ) → ((k : ℕ) → Contains ns k → 1 ≤ size_at c k) → Contains ns n → Contains ns o → place_in c p ns n ≡ place_in c p ns o → n ≡ o
place_apart c [] p n o some h k e = absurd (omega (arith, h.1))
place_apart c (m ∷ ms) p n o some h k e =
    by_tests (nat_eq m n) (nat_eq m o) refl refl e (λ f g e. place_apart c ms (p + size_at c m) n o (λ i there. some i (suc there.0, omega (arith, there.1), there.2)) (in_tail m ms n f h) (in_tail m ms o g k) e)
  where
    q : ℕ
    q = p + size_at c m

    here : 1 ≤ size_at c m
    here = some m (0, omega arith, refl)

    by_tests : (x y : Bool) → nat_eq m n ≡ x → nat_eq m o ≡ y → cond x p (place_in c q ms n) ≡ cond y p (place_in c q ms o)
        → (nat_eq m n ≡ false → nat_eq m o ≡ false → place_in c q ms n ≡ place_in c q ms o → n ≡ o) → n ≡ o
    by_tests true true f g e rest = sym (same_number m n f) ∙ same_number m o g
    by_tests true false f g e rest = absurd (let z = place_from c ms q o (in_tail m ms o g k) in omega (arith, z, here, e))
    by_tests false true f g e rest = absurd (let z = place_from c ms q n (in_tail m ms n f h) in omega (arith, z, here, e))
    by_tests false false f g e rest = rest f g e

-- ---- measures and counts

abbrev pub by : Counted → List Variable → (List ℕ → ℕ) → Text → ℕ
by Instructions vs join t = budget vs join t 0
by Effects vs join t = effects join t 0

abbrev pub alike : Counted → ℕ
alike Instructions = 1
alike Effects = 0

weighs : (c : Scope) (x : Counted) → IsWeight c (weight x) (alike x)
weighs c Instructions = record { jumping = λ n. refl; state = λ n. refl; stopping = refl; dropping = refl; testing = λ n r. refl; choosing = λ n choice. refl }
weighs c Effects = effects_weigh c

same : (c : Scope) (x : Counted) (f g : List ℕ → ℕ) (t : Text) → EachJoin (λ (j : tree_join.Join). f j.connector.name ≡ g j.connector.name) t → by x (variables_of c.process) f t ≡ by x (variables_of c.process) g t
same c Instructions f g t h = budget_same (variables_of c.process) f g t 0 0 h refl
same c Effects f g t h = effects_same (variables_of c.process) f g t 0 0 h refl

tallies : (c : Scope) (x : Counted) (join : List ℕ → ℕ) (t : Text) → NamedText c t → tally c (weight x) (alike x) join t 0 ≡ by x (variables_of c.process) join t
tallies c Instructions join t named = tally_budget c join t 0 0 refl
tallies c Effects join t named = tally_effects c join t 0 0 named refl

below : (c : Scope) (x : Counted) (join : List ℕ → ℕ) (t : Text) (b : ℕ) → NamedText c t → by x (variables_of c.process) join t ≤ b → EachJoin (Below c join b) t
below c Instructions join t b named le = budget_below c join t 0 b named le
below c Effects join t b named le = effects_below c join t 0 b named le

abbrev pub what_counts : (c : Scope) (x : Counted) → ℕ → ℕ
what_counts c x n = by x (variables_of c.process) (measure_joined (by x) c.process) (text_at c n)

-- A connection that is placed has a text, and counts no more than the piece.
pub record IsWithinPiece (c : Scope) (x : Counted) (b n : ℕ) : Type 0 where
  pub connection : PlainConnection
  pub there : slice_get c.process.connections n ≡ Some connection
  pub small : what_counts c x n ≤ b

module _ (c : Scope) (x : Counted) (q : Piece) (ns : List ℕ) (placed : ArePlaced c q.text ns) (named : NamedPiece c q) where
  abbrev join : List ℕ → ℕ
  join = measure_joined (by x) c.process

  within_text : (t : Text) (b : ℕ) → NamedText c t → by x (variables_of c.process) join t ≤ b → (j : tree_join.Join) → Contains (code_joins c t) j → IsWithinPiece c x b (number_or_zero (connector_at c j.connector))
  within_text t b named_t le j at =
      let some = each_of c (λ (j : tree_join.Join). IsSome (connector_at c j.connector)) t j (each_named c t named_t) at in
      let w = has_connection c j.connector some in
      let small = each_of c (Below c join b) t j (below c x join t b named_t le) at in
      let is = join_is c (weight x) (alike x) (weighs c x) (by x) (same c x) (tallies c x) named.connections j.connector w in
      record { connection = w.connection; there = w.there; small = omega (arith, small, is) }

  pub within_piece : (n : ℕ) → Contains ns n → IsWithinPiece c x (by x (variables_of c.process) join q.text) n
  within_piece n h = all_placed c q.text ns placed (IsWithinPiece c x (by x (variables_of c.process) join q.text))
      (λ j at. within_text q.text (by x (variables_of c.process) join q.text) named.text.text (omega arith) j at)
      (λ m w j at. within_text (text_at c m) (by x (variables_of c.process) join q.text)
      (subst (NamedText c) (sym (text_there c m w.connection w.there)) (named.connections.texts m w.connection w.there).text) w.small j at) n h

  pub connection_some : (n : ℕ) → Contains ns n → 1 ≤ size_at c n
  connection_some n h =
      let w = within_piece n h in
      size_some c (text_at c n) (subst (λ t. may_go_on t ≡ false) (sym (text_there c n w.connection w.there)) (named.connections.texts n w.connection w.there).ended)

small_cap : (n : ℕ) → n ≤ 512 → capped n ≡ n
small_cap n le = omega (arith, le)

measure_is : (p : PlainProcess) (k : PlainConnection) (m : Measure) (x : Counted) → IsMeasureOf p k m → measure_of x m ≡ capped (measure_joined (by x) p k.name.name)
measure_is p k m Instructions h = h.budget
measure_is p k m Effects h = h.effects

pub measured_is : (c : Scope) (x : Counted) (q : Piece) (ns : List ℕ) (placed : ArePlaced c q.text ns) (named : NamedPiece c q) (ms : List Measure) → AreMeasures c.process ms → by x (variables_of c.process) (measure_joined (by x) c.process) q.text ≤ 512
    → (n : ℕ) → Contains ns n → (measured x ms n ≡ what_counts c x n) × (measured x ms n ≤ 512)
measured_is c x q ns placed named ms measures le n h =
    let w = within_piece c x q ns placed named n h in
    let k = w.connection in
    let z = zip_at (IsMeasureOf c.process) c.process.connections ms n k measures w.there in
    let at : connector_at c k.name ≡ Some n = named.connections.numbered n k w.there in
    let id = has_connection c k.name (ap is_some at) in
    let is = join_is c (weight x) (alike x) (weighs c x) (by x) (same c x) (tallies c x) named.connections k.name id in
    let number : number_or_zero (connector_at c k.name) ≡ n = ap number_or_zero at in
    let this = is ∙ ap (what_counts c x) number in
    let m : measured x ms n ≡ measure_of x z.0 = ap (λ o. option_map_or (λ (m : Measure). measure_of x m) o 0) z.1 in
    let cap = measure_is c.process k z.0 x z.2 in
    let small = small_cap (what_counts c x n) (omega (arith, w.small, le)) in
    let all : measured x ms n ≡ what_counts c x n = m ∙ cap ∙ ap capped this ∙ small in
    (all, omega (arith, all, w.small, le))

-- The counts of a piece, if the counts of its connections are known.
pub piece_is : (c : Scope) (x : Counted) (q : Piece) (ns : List ℕ) (placed : ArePlaced c q.text ns) (named : NamedPiece c q) (code : List Instruction) (known counts : List ℕ) → code ≡ piece_code c q ns → AreCountsFrom (weight x) known code counts
    → ((n : ℕ) → Contains ns n → number_at known (place_in c (connections_place c q) ns n) ≡ what_counts c x n) → AreCounts (weight x) code counts × (number_at counts 0 ≡ piece_count x c.process q)
piece_is c x q ns placed named code known counts is from at = (
  are_counts c (weight x) (alike x) (weighs c x) (by x) (same c x) (tallies c x) q ns placed named code known counts is from at,
  first_counts c (weight x) (alike x) (weighs c x) (by x) (same c x) (tallies c x) q ns placed named code known counts is from at ∙ by_kind x,
)
  where
    by_kind : (x : Counted) → sum_by (weight x) (places_code c 0 q.places) + by x (variables_of c.process) (measure_joined (by x) c.process) q.text ≡ piece_count x c.process q
    by_kind Instructions = let h = places_ones c q.places in omega (arith, h)
    by_kind Effects = let h = places_none c 0 q.places in omega (arith, h)

-- ---- the places are inside the code

place_fits : (c : Scope) (ns : List ℕ) (p n : ℕ) → Contains ns n → place_in c p ns n + size_at c n ≤ p + sum_by (size_at c) ns
place_fits c [] p n h = absurd (omega (arith, h.1))
place_fits c (m ∷ ms) p n h = by_test (nat_eq m n) refl (λ h. place_fits c ms (p + size_at c m) n h)
  where
    by_test : (t : Bool) → nat_eq m n ≡ t → (Contains ms n → place_in c (p + size_at c m) ms n + size_at c n ≤ p + size_at c m + sum_by (size_at c) ms)
        → cond t p (place_in c (p + size_at c m) ms n) + size_at c n ≤ p + sum_by (size_at c) (m ∷ ms)
    by_test true e f = let s = ap (size_at c) (same_number m n e) in omega (arith, s, sum_by-cons (size_at c) m ms)
    by_test false e f = let g = f (in_tail m ms n e h) in omega (arith, g, sum_by-cons (size_at c) m ms)

pub code_length : (c : Scope) (q : Piece) (ns : List ℕ) → length (piece_code c q ns) ≡ connections_place c q + sum_by (size_at c) ns
code_length c q ns =
    let to = place_in c (connections_place c q) ns in
    let a = places_code c 0 q.places in
    let b = text_code c to (text_place q) q.text in
    let d = connections_code c to (connections_place c q) ns in
    omega (arith, length-append a (b ++ d), length-append b d, places_size c 0 q.places, text_size_is c to (text_place q) q.text, connections_size c to (connections_place c q) ns)

pub place_inside : (c : Scope) (q : Piece) (ns : List ℕ) → ArePlaced c q.text ns → NamedPiece c q → (n : ℕ) → Contains ns n → place_in c (connections_place c q) ns n < length (piece_code c q ns)
place_inside c q ns placed named n h =
    let fits = place_fits c ns (connections_place c q) n h in
    let some = connection_some c Instructions q ns placed named n h in
    omega (arith, fits, some, code_length c q ns)

pub counts_small : (c : Scope) (x : Counted) (q : Piece) → IsSmall c q → by x (variables_of c.process) (measure_joined (by x) c.process) q.text ≤ 512
counts_small c Instructions q small = let h = small.budget in omega (arith, h)
counts_small c Effects q small = let h = small.effects in omega (arith, h)
