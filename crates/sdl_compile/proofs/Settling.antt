-- The facts of a piece need this: its text and connections read what is set, and the sets of connections fit.
use Rattle.std.proofs.Common.{◌≡◌, ℕ, zero, suc, ◌+◌, ◌<◌, ◌≤◌, Bool, true, false, List, [], ◌∷◌, ◌++◌, inl, inr, length, map, Some, refl, sym, ap, ◌∙◌, subst, arith, length-append, append_assoc}
use Rattle.std.specs.Prelude.{slice_get, nat_eq}
use Rattle.std.specs.Int.{bit_at}
use Rattle.std.proofs.lemmas.Bool.Decides.{nat_tests}
use Rattle.std.proofs.lemmas.List.{length-map}
use Rattle.sdl_ast.specs.declared.expression.Identifier.{Identifier}
use Rattle.sdl_ast.specs.Plain.{Text, PlainConnection}
use Rattle.turn_code.specs.declared.variable_set.VariableSet.{VariableSet}
use Rattle.turn_code.specs.declared.draft.DraftState.{DraftState}
use Rattle.turn_code.specs.Sets.{Has}
use Rattle.sdl_tables.specs.Names.{variable_names}
use Rattle.sdl_sound.specs.Orders.{IsOrder}
use Rattle.sdl_sound.specs.Paths.{Event, sets_in}
use Rattle.sdl_sound.specs.Chances.{text_chances, chances_by}
use Rattle.sdl_meaning.specs.Outcomes.{Scope}
use Rattle.sdl_meaning.specs.Named.{NamedText, NamedConnections}
use Rattle.sdl_compile.specs.Reads.{everything, ReadText}
use Rattle.sdl_compile.specs.Entries.{entry_at, met, connections_met}
use Rattle.sdl_meaning.proofs.Numbers.{AreNumbered}
use Rattle.sdl_meaning.proofs.Branches.{EachJoin}
use Rattle.sdl_meaning.proofs.Joining.{has_connection, each_join}
use Rattle.sdl_compile.proofs.Walks.{Holds, by_bool}
use Rattle.sdl_compile.proofs.Unset.{Safe, IsFewer, of_text, piece_reads}
use Rattle.sdl_compile.proofs.Entering.{number_at, IsOther, IsIn, JoinsNone, AreApart, Fits, AllFit, TextFits, fits_less, met_fits, met_length, connections_shrink, connections_fit}

-- ---- the order of connections

module _ (c : Scope) (order : List ℕ) (is : IsOrder c.process order) (named : NamedConnections c) where
  other : (i n p m : ℕ) → slice_get order i ≡ Some n → slice_get order p ≡ Some m → i ≤ p → (k : PlainConnection) → slice_get c.process.connections n ≡ Some k → EachJoin (IsOther c m) k.text
  other i n p m at there le k e =
      each_join c (IsOther c m) k.text (named.texts n k e).text
      (λ j first second some. λ same.
      let h = has_connection c j.connector some in
      let b = is.behind i n (number_at c j.connector) k j at e first h.number in
      let f = is.once b.0 p m (b.2 ∙ ap Some same) there in
      let z : ⊥ = omega (arith, b.1, f, le) in z)

  -- These are in the order from place p on.
  abbrev Tail : List ℕ → ℕ → Type 0
  Tail [] p = Unit {0}
  Tail (m ∷ l) p = (slice_get order p ≡ Some m) × Tail l (p + 1)

  joins_none : (l : List ℕ) (i n p : ℕ) → slice_get order i ≡ Some n → i ≤ p → Tail l p → JoinsNone c l n
  joins_none [] i n p at le tail = tt
  joins_none (m ∷ l) i n p at le tail = (λ k e. other i n p m at tail.0 le k e, joins_none l i n (p + 1) at (omega (arith, le)) tail.1)

  apart : (l : List ℕ) (p : ℕ) → Tail l p → AreApart c l
  apart [] p tail = tt
  apart (n ∷ l) p tail = (joins_none (n ∷ l) p n p tail.0 (omega arith) tail, apart l (p + 1) tail.1)

  at_end : (before l : List ℕ) (n k : ℕ) → length before ≡ k → slice_get (before ++ n ∷ l) k ≡ Some n
  at_end [] l n zero f = refl
  at_end [] l n (suc k) f = absurd (omega (arith, f))
  at_end (x ∷ before) l n zero f = absurd (omega (arith, f))
  at_end (x ∷ before) l n (suc k) f = at_end before l n k (omega (arith, f))

  tail_of : (before l : List ℕ) (p : ℕ) → order ≡ before ++ l → length before ≡ p → Tail l p
  tail_of before [] p e f = tt
  tail_of before (n ∷ l) p e f = (
    ap (λ x. slice_get x p) e ∙ at_end before l n p f,
    tail_of (before ++ n ∷ []) l (p + 1) (e ∙ sym (append_assoc before (n ∷ []) l)) (omega (arith, f, length-append before (n ∷ []))),
  )

  pub are_apart : AreApart c order
  are_apart = apart order 0 (tail_of [] order 0 refl refl)

  fit_at : (es : List VariableSet) (l : List ℕ) (i n : ℕ) → AllFit c es l → slice_get l i ≡ Some n → Fits c es n
  fit_at es [] i n h at = absurd (let k : ⊥ = cc in k)
  fit_at es (m ∷ l) zero n h at = let e : m ≡ n = cc in subst (Fits c es) e h.0
  fit_at es (m ∷ l) (suc i) n h at = fit_at es l i n h.1 at

  within : {A : Type 0} (xs : List A) (v : ℕ) (x : A) → slice_get xs v ≡ Some x → v < length xs
  within [] v x e = absurd (let k : ⊥ = cc in k)
  within (y ∷ xs) zero x e = omega arith
  within (y ∷ xs) (suc v) x e = let h = within xs v x e in omega (arith, h)

  all_inside : (t : Text) (size : ℕ) → size ≡ length c.process.connections → NamedText c t → EachJoin (IsIn c size) t
  all_inside t size e text =
      each_join c (IsIn c size) t text
      (λ j first second some.
      let h = has_connection c j.connector some in
      let lt = within c.process.connections (number_at c j.connector) h.connection h.there in
      omega (arith, lt, e))

  -- The sets of a piece's connections fit at each of its JOINs.
  pub all_fit : (t : Text) (m : VariableSet) → NamedText c t
      → TextFits c (connections_met c order (met c m t (map (λ (x : PlainConnection). everything) c.process.connections))) m t
      × ((n : ℕ) (k : PlainConnection) → slice_get c.process.connections n ≡ Some k
      → TextFits c (connections_met c order (met c m t (map (λ (x : PlainConnection). everything) c.process.connections))) (entry_at (connections_met c order (met c m t (map (λ (x : PlainConnection). everything) c.process.connections))) n) k.text)
  all_fit t m text =
      let start = map (λ (x : PlainConnection). everything) c.process.connections in
      let es = met c m t start in
      let l = length-map c.process.connections (λ (x : PlainConnection). everything) in
      let long : length es ≡ length c.process.connections = met_length c m t start ∙ l in
      let own = met_fits c m t start (length start) refl (all_inside t (length start) l text) in
      let all = connections_fit c order es are_apart (λ n k e. all_inside k.text (length es) long (named.texts n k e).text) in (
        fits_less c es (connections_met c order es) (connections_shrink c order es) m t own,
        λ n k e. let i = is.each n (within c.process.connections n k e) in fit_at (connections_met c order es) order i.0 n all i.1 k e,
      )

-- ---- what is set as a piece begins

module _ (c : Scope) (numbered : AreNumbered (variable_names c.process)) (few : length (variable_names c.process) ≤ 32) (ranges : List ℕ) (ss : List DraftState)
    (declared : (q set v : ℕ) → slice_get ranges q ≡ Some set → bit_at set v ≡ 1 → v < length (variable_names c.process))
    (same : (q : ℕ) (s : DraftState) → slice_get ss q ≡ Some s → slice_get ranges q ≡ Some s.set.0) where
  -- The chances of a text for each variable that the start of its transition doesn't set.
  pub record Starts (before : ℕ) (first : List Event) (t : Text) : Type 0 where
    pub reads : (v q : ℕ) (id : Identifier) → slice_get (variable_names c.process) v ≡ Some id → sets_in first id.name ≡ false → (text_chances c.process t id.name q).reads ≡ true → bit_at before v ≡ 1
    pub enters : (v q set : ℕ) (id : Identifier) → slice_get (variable_names c.process) v ≡ Some id → sets_in first id.name ≡ false → (text_chances c.process t id.name q).enters ≡ true
        → slice_get ranges q ≡ Some set → bit_at set v ≡ 1 → bit_at before v ≡ 1

  starts_safe : (before : ℕ) (first : List Event) (t : Text) (m : VariableSet) → Holds c before numbered first m → Starts before first t
      → Safe c numbered few ranges ss declared same m (of_text c numbered few ranges ss declared same (λ x q. chances_by c.process (length c.process.connections) x q) t)
  starts_safe before first t m holds starts v q id at =
      by_bool (nat_eq (bit_at m.0 v) 1)
      (λ e. inl (let f : bit_at m.0 v ≡ 1 = grind (arith, nat_tests) in f))
      (λ e.
      let not_has : Has m v → ⊥ = λ has. unequal e has in
      by_bool (sets_in first id.name)
      (λ s. inl (holds id.name v (numbered v id at) (inr s)))
      (λ s. inr (record {
        reads = none (text_chances c.process t id.name q).reads (λ r. not_has (holds id.name v (numbered v id at) (inl (starts.reads v q id at s r))));
        enters = λ set is has. none (text_chances c.process t id.name q).enters (λ r. not_has (holds id.name v (numbered v id at) (inl (starts.enters v q set id at s r is has))));
      })))
    where
      unequal : nat_eq (bit_at m.0 v) 1 ≡ false → bit_at m.0 v ≡ 1 → ⊥
      unequal e f = grind (arith, nat_tests, e, f)

      none : (b : Bool) → (b ≡ true → ⊥) → b ≡ false
      none true h = absurd (h refl)
      none false h = refl

  -- A piece and its connections read what is set.
  pub all_read : (before : ℕ) (first : List Event) (t : Text) (m : VariableSet) (order : List ℕ) → NamedText c t → NamedConnections c → Holds c before numbered first m → Starts before first t
      → ReadText c ss m t × ((i : ℕ) (k : PlainConnection) → slice_get c.process.connections i ≡ Some k
      → ReadText c ss (entry_at (connections_met c order (met c m t (map (λ (x : PlainConnection). everything) c.process.connections))) i) k.text)
  all_read before first t m order text named holds starts =
      piece_reads c numbered few ranges ss declared same named.steps (λ i k e. (named.texts i k e).text)
      (λ i k e.
      each_join c (IsFewer c numbered few ranges ss declared same named.steps (named.steps i)) k.text (named.texts i k e).text
      (λ j first second some. let h = has_connection c j.connector some in named.fewer i (number_at c j.connector) k j e first h.number))
      (length c.process.connections) t m order text
      (each_join c (IsFewer c numbered few ranges ss declared same named.steps (length c.process.connections)) t text
      (λ j first second some. let h = has_connection c j.connector some in named.few (number_at c j.connector) (inside c.process.connections (number_at c j.connector) h.connection h.there)))
      (starts_safe before first t m holds starts)
    where
      inside : {A : Type 0} (xs : List A) (v : ℕ) (x : A) → slice_get xs v ≡ Some x → v < length xs
      inside [] v x e = absurd (let k : ⊥ = cc in k)
      inside (y ∷ xs) zero x e = omega arith
      inside (y ∷ xs) (suc v) x e = let h = inside xs v x e in omega (arith, h)
