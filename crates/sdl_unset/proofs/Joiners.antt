-- The walkers of the connections, one at a time, in an order in which each comes after those that it joins.
use Rattle.std.proofs.Common.{◌≡◌, ℕ, zero, suc, ◌+◌, ◌<◌, ◌≤◌, Bool, true, false, if◌then◌else◌, cond, List, [], ◌∷◌, map, length, Option, None, Some, get_or, set, refl, sym, ap, ◌∙◌, subst, arith, inl, inr}
use Rattle.std.specs.Prelude.{slice_get, option_and_then, nat_lt, All}
use Rattle.std.specs.Option.{option_map, option_map_or}
use Rattle.std.proofs.lemmas.Bool.{cases_eq, cases_lt, lt-ltb, le-ltb, ltb-true}
use Rattle.std.proofs.lemmas.Option.{slice_get-get_or, slice_get_within, slice_get-map, get_or_from_slice_get, same_Some as some_same}
use Rattle.std.proofs.lemmas.List.{length-set, length-map}
use Rattle.std.proofs.lemmas.List.Folds.{find_at}
use Rattle.sdl_ast.specs.declared.expression.Identifier.{Identifier}
use Rattle.sdl_ast.specs.declared.tree.Connection.{Connection}
use Rattle.sdl_ast.specs.Views.{connection_of}
use Rattle.sdl_ast.specs.Plain.{PlainConnection, PlainProcess}
use Rattle.sdl_tables.specs.Names.{same_name, number_of, connector_names, connection_named, states_of}
use Rattle.sdl_sound.specs.Orders.{IsOrder}
use Rattle.sdl_sound.specs.Chances.{Chances, no_chances, last_chances, chances, chances_by, joined_chances}
use Rattle.sdl_unset.specs.Flows.{Stands, AreTold, text_doings}
use Rattle.sdl_unset.specs.declared.walker.Walker.{Walker}
use Rattle.sdl_unset.proofs.Chancing.{IsBefore, AreRanked, chances-same, by_same}
use Rattle.sdl_unset.proofs.Ranks.{AreFine, rank_of, number_at, numbered, place_in, place_there, below_all, are_ranked}
use Rattle.sdl_unset.proofs.Walkers.{stands_same}
use Rattle.plain_laws.proofs.Places.{there_is}
use Rattle.plain_laws.proofs.Searches.{position-map}
use Rattle.sdl_sound.proofs.Numbered.{unnumbered as not_named}

-- The chances that are known when the first i connections of the order have been walked.
abbrev pub told_upto : PlainProcess → List ℕ → ℕ → List ℕ → ℕ → List ℕ → Chances
told_upto p order i x q y = if nat_lt (rank_of p order y) i then joined_chances p x q y else no_chances

none_some : {A : Type 0} (o : Option A) (a : A) → o ≡ None → o ≡ Some a → ⊥
none_some o a h k = let bad : None ≡ Some a = sym h ∙ k in cc

-- A name with a number is the name of a connection.
numbers : (p : PlainProcess) (y : List ℕ) → number_of (connector_names p) y ≡ cond (nat_lt (number_at p y) (length p.connections)) (Some (number_at p y)) None
numbers p y = position-map (λ (id : Identifier). same_name y id.name) (λ (c : PlainConnection). c.name) p.connections

found_at : (p : PlainProcess) (y : List ℕ) → connection_named p y ≡ slice_get p.connections (number_at p y)
found_at p y = find_at (λ (d : PlainConnection). same_name y d.name.name) p.connections

named_by : (p : PlainProcess) (y : List ℕ) (n : ℕ) → number_of (connector_names p) y ≡ Some n
    → (c : PlainConnection) × (connection_named p y ≡ Some c) × (slice_get p.connections n ≡ Some c) × (number_at p y ≡ n)
named_by p y n h = by_test (nat_lt (number_at p y) (length p.connections)) refl (sym (numbers p y) ∙ h)
  where
    by_test : (b : Bool) → nat_lt (number_at p y) (length p.connections) ≡ b → cond b (Some (number_at p y)) None ≡ Some n
        → (c : PlainConnection) × (connection_named p y ≡ Some c) × (slice_get p.connections n ≡ Some c) × (number_at p y ≡ n)
    by_test true lt e =
        let same : number_at p y ≡ n = some_same (number_at p y) n e in
        let there = there_is p.connections (number_at p y) (ltb-true (number_at p y) (length p.connections) lt) in
        (there.0, found_at p y ∙ there.1, subst (λ (k : ℕ). slice_get p.connections k ≡ Some there.0) same there.1, same)
    by_test false ge e = absurd (none_some None n refl e)

joined_none : (p : PlainProcess) (n : ℕ) (x : List ℕ) (q : ℕ) (y : List ℕ) → connection_named p y ≡ None → chances_by p n x q y ≡ no_chances
joined_none p zero x q y h = refl
joined_none p (suc n) x q y h =
    ap (λ (o : Option PlainConnection). option_map_or (λ c. last_chances (chances (states_of p) (chances_by p n x q) x q c.text)) o no_chances) h

upto_none : (p : PlainProcess) (order : List ℕ) (i : ℕ) (x : List ℕ) (q : ℕ) (y : List ℕ) → connection_named p y ≡ None → told_upto p order i x q y ≡ no_chances
upto_none p order i x q y h = either (nat_lt (rank_of p order y) i)
  where
    either : (b : Bool) → (if b then joined_chances p x q y else no_chances) ≡ no_chances
    either true = joined_none p (length p.connections) x q y h
    either false = refl

upto_there : (p : PlainProcess) (order : List ℕ) (i : ℕ) (x : List ℕ) (q : ℕ) (y : List ℕ) → rank_of p order y < i → told_upto p order i x q y ≡ joined_chances p x q y
upto_there p order i x q y h = ap (λ (b : Bool). if b then joined_chances p x q y else no_chances) (lt-ltb (rank_of p order y) i h)

upto_not : (p : PlainProcess) (order : List ℕ) (i : ℕ) (x : List ℕ) (q : ℕ) (y : List ℕ) → i ≤ rank_of p order y → told_upto p order i x q y ≡ no_chances
upto_not p order i x q y h = ap (λ (b : Bool). if b then joined_chances p x q y else no_chances) (le-ltb (rank_of p order y) i h)

-- The others stay unchanged.
upto_other : (p : PlainProcess) (order : List ℕ) (i : ℕ) (x : List ℕ) (q : ℕ) (y : List ℕ) → (rank_of p order y ≡ i → ⊥)
    → told_upto p order i x q y ≡ told_upto p order (i + 1) x q y
upto_other p order i x q y other = elim (cases_lt (rank_of p order y) i) [
  | inl lt ↦ upto_there p order i x q y lt ∙ sym (upto_there p order (i + 1) x q y (omega (arith, lt)))
  | inr ge ↦ upto_not p order i x q y ge ∙ sym (upto_not p order (i + 1) x q y (omega (arith, ge, other)))
]

-- The connection at place i joins only those before it, so its chances are all that may happen in it.
pub this_one : (p : PlainProcess) (order : List ℕ) (i : ℕ) (y : List ℕ) (c : PlainConnection) (x : List ℕ) (q : ℕ) → AreRanked p (rank_of p order)
    → connection_named p y ≡ Some c → rank_of p order y ≡ i → i < length p.connections
    → last_chances (chances (states_of p) (told_upto p order i x q) x q c.text) ≡ told_upto p order (i + 1) x q y
this_one p order i y c x q ranked named at within =
    by_count (length p.connections) refl ∙ sym (upto_there p order (i + 1) x q y (omega (arith, at)))
  where
    agree : (m : ℕ) → length p.connections ≡ suc m → (z : List ℕ) → IsBefore p (rank_of p order) (rank_of p order y) z → told_upto p order i x q z ≡ chances_by p m x q z
    agree m h z before =
        upto_there p order i x q z (omega (arith, before.0, at))
        ∙ by_same p (rank_of p order) x q ranked (length p.connections) m z (omega (arith, before.0, at, within)) (omega (arith, before.0, at, within, h)) before.1 before.2

    by_count : (m : ℕ) → length p.connections ≡ m → last_chances (chances (states_of p) (told_upto p order i x q) x q c.text) ≡ joined_chances p x q y
    by_count zero h = absurd (omega (arith, within, h))
    by_count (suc m) h =
        let told = λ (d : PlainConnection). last_chances (chances (states_of p) (chances_by p m x q) x q d.text) in
        ap last_chances (chances-same (states_of p) x q (told_upto p order i x q) (chances_by p m x q) (IsBefore p (rank_of p order) (rank_of p order y)) (agree m h) c.text (ranked y c named))
        ∙ sym (ap (λ (k : ℕ). chances_by p k x q y) h ∙ ap (λ (o : Option PlainConnection). option_map_or told o no_chances) named)

-- ---- one more walker

pub told_first : (p : PlainProcess) (order : List ℕ) (walkers : List Walker) → length walkers ≡ length p.connections → All (Stands p (λ x q. no_chances)) walkers
    → AreTold p (told_upto p order 0) walkers
unfolding AreTold
told_first p order walkers count idle = (
  λ y n w is there.
      stands_same p (λ x q. no_chances) (λ x q. told_upto p order 0 x q y) w (λ x q. sym (upto_not p order 0 x q y (omega arith)))
      (subst (Stands p (λ x q. no_chances)) (get_or_from_slice_get walkers n w w there) (idle n w (slice_get_within walkers n w there))),
  λ y none x q. upto_not p order 0 x q y (omega arith),
)

-- If no walker is known for a name, no connection has this name.
not_told : (p : PlainProcess) (walkers : List Walker) (y : List ℕ) → length walkers ≡ length p.connections
    → option_and_then (slice_get walkers) (number_of (connector_names p) y) ≡ None → connection_named p y ≡ None
not_told p walkers y count none = by_number (number_of (connector_names p) y) refl none
  where
    by_number : (o : Option ℕ) → number_of (connector_names p) y ≡ o → option_and_then (slice_get walkers) o ≡ None → connection_named p y ≡ None
    by_number None h e = not_named p y h
    by_number (Some n) h e =
        let named = named_by p y n h in
        let there = there_is walkers n (omega (arith, count, slice_get_within p.connections n named.0 named.2)) in
        absurd (none_some (slice_get walkers n) there.0 e there.1)

set_same : {A : Type 0} (xs : List A) (n : ℕ) (w v : A) → slice_get (set xs n w) n ≡ Some v → w ≡ v
set_same [] n w v h = absurd (none_some None v refl h)
set_same (x ∷ xs) zero w v h = some_same w v h
set_same (x ∷ xs) (suc n) w v h = set_same xs n w v h

set_other : {A : Type 0} (xs : List A) (n m : ℕ) (w : A) → (m ≡ n → ⊥) → slice_get (set xs n w) m ≡ slice_get xs m
set_other [] n m w h = refl
set_other (x ∷ xs) zero zero w h = absurd (h refl)
set_other (x ∷ xs) zero (suc m) w h = refl
set_other (x ∷ xs) (suc n) zero w h = refl
set_other (x ∷ xs) (suc n) (suc m) w h = set_other xs n m w (λ e. h (ap suc e))

pub told_more : (p : PlainProcess) (order : List ℕ) (walkers : List Walker) (i n : ℕ) (c : PlainConnection) (w : Walker) → AreFine p → IsOrder p order
    → length walkers ≡ length p.connections → slice_get order i ≡ Some n → slice_get p.connections n ≡ Some c
    → ((told : List ℕ → ℕ → List ℕ → Chances) → AreTold p told walkers → Stands p (λ x q. last_chances (text_doings p told c.text x q)) w)
    → AreTold p (told_upto p order i) walkers → AreTold p (told_upto p order (i + 1)) (set walkers n w)
unfolding AreTold
told_more p order walkers i n c w fine is count at there walked told = (
  λ y m v h found.
      let named = named_by p y m h in
      elim (cases_eq m n) [
        | inl e ↦
            let here : w ≡ v = set_same walkers n w v (subst (λ (k : ℕ). slice_get (set walkers n w) k ≡ Some v) e found) in
            let same : named.0 ≡ c = some_same named.0 c (sym named.2 ∙ (ap (slice_get p.connections) e ∙ there)) in
            let connection : connection_named p y ≡ Some c = named.1 ∙ ap Some same in
            let rank : rank_of p order y ≡ i = is.once (rank_of p order y) i n (subst (λ (k : ℕ). slice_get order (place_in order k) ≡ Some n) (sym (named.3 ∙ e)) (place_there order n i at)) at in
            let within : i < length p.connections = subst (λ (k : ℕ). k < length p.connections) rank (below_all p order y c is connection) in
            subst (Stands p (λ x q. told_upto p order (i + 1) x q y)) here
            (stands_same p (λ x q. last_chances (text_doings p (told_upto p order i) c.text x q)) (λ x q. told_upto p order (i + 1) x q y) w
            (λ x q. this_one p order i y c x q (are_ranked p order fine is) connection rank within) (walked (told_upto p order i) told))
        | inr ne ↦
            let place : slice_get order (rank_of p order y) ≡ Some m = subst (λ (k : ℕ). slice_get order (rank_of p order y) ≡ Some k) named.3 (numbered p order y named.0 is named.1).place in
            let other : rank_of p order y ≡ i → ⊥ = λ e. ne (some_same m n (sym place ∙ (ap (slice_get order) e ∙ at))) in
            stands_same p (λ x q. told_upto p order i x q y) (λ x q. told_upto p order (i + 1) x q y) v (λ x q. upto_other p order i x q y other)
            (told.0 y m v h (sym (set_other walkers n m w ne) ∙ found))
      ],
  λ y none x q. upto_none p order (i + 1) x q y (not_told p (set walkers n w) y (length-set walkers n w ∙ count) none),
)

pub told_all : (p : PlainProcess) (order : List ℕ) (walkers : List Walker) (i : ℕ) → IsOrder p order → length order ≤ i → length walkers ≡ length p.connections
    → AreTold p (told_upto p order i) walkers → AreTold p (λ x q y. joined_chances p x q y) walkers
unfolding AreTold
told_all p order walkers i is past count told = (
  λ y n w h found.
      let named = named_by p y n h in
      let below = below_all p order y named.0 is named.1 in
      stands_same p (λ x q. told_upto p order i x q y) (λ x q. joined_chances p x q y) w
      (λ x q. upto_there p order i x q y (omega (arith, below, past, is.count))) (told.0 y n w h found),
  λ y none x q. joined_none p (length p.connections) x q y (not_told p walkers y count none),
)

pub number_within : (p : PlainProcess) (order : List ℕ) (i : ℕ) → IsOrder p order → i < length order → get_or order i 0 < length p.connections
number_within p order i is within = is.known i (get_or order i 0) (slice_get-get_or order i 0 within)

-- As above, for the connections that the code holds.
pub code_within : (p : PlainProcess) (order : List ℕ) (i : ℕ) (connections : List Connection) → IsOrder p order → i < length order → map connection_of connections ≡ p.connections
    → get_or order i 0 < length connections
code_within p order i connections is within same =
    let count : length p.connections ≡ length connections = ap length (sym same) ∙ length-map connections connection_of in
    omega (arith, number_within p order i is within, count)

pub code_there : (p : PlainProcess) (connections : List Connection) (n : ℕ) (c : Connection) → map connection_of connections ≡ p.connections → n < length connections → c ≡ get_or connections n c
    → slice_get p.connections n ≡ Some (connection_of c)
code_there p connections n c same within is =
    ap (λ (list : List PlainConnection). slice_get list n) (sym same)
    ∙ (slice_get-map connection_of connections n ∙ ap (option_map connection_of) (slice_get-get_or connections n c within ∙ ap Some (sym is)))
