-- The due timers of a table are those of its map.
use Rattle.std.proofs.Common.{◌≡◌, ℕ, ◌≤◌, ◌+◌, Bool, true, false, ◌||◌, ◌&&◌, cond, T, List, [], ◌∷◌, get_or, map, is_some, Option, Some, None, refl, sym, ap, subst, ◌∙◌, inl, inr, arith, nat_le, ◌==◌, Decides, Ordering}
use Rattle.std.specs.declared.cmp.Ordering.TheVariants.{Less, Equal, Greater}
use Rattle.std.specs.Ordering.{eq_by_cmp, is_lt, is_eq, ordering_reverse, ordering_then, nat_cmp}
use Rattle.std.specs.List.{filter, list_any, IsDistinct, AllByRecursion}
use Rattle.std.specs.List.Sorted.{IsPermutation, IsSorted, IsStrictlySortedBy}
use Rattle.std.specs.Cmp.{unsigned_tied}
use Rattle.std.specs.FinMap as finite
use Rattle.std.specs.FinMap.{find, is_sorted, get-from_sorted, get-from_entries, get-entries, entries_sorted, contains_key-keys, entries-from_sorted, same_map}
use Rattle.std.specs.FinMap.Entries.{below_all}
use Rattle.std.proofs.lemmas.List.Sorted.{list_any-IsPermutation}
use Rattle.std.proofs.lemmas.Map.Keys.{sorted_from_all_adjacent, sorted_head, sorted_tail, IsDistinct-IsPermutation, apart_from_distinct}
use Rattle.std.proofs.lemmas.Cmp.{eq_by_cmp_equiv}
use Rattle.std.proofs.lemmas.Bool.{false≢true, and_from as both}
use Rattle.std.proofs.lemmas.Bool.Decides.{Decides-like, Decides-and, Decides-eqb, leb_tells}
use Rattle.std.proofs.lemmas.Map.Views.{Contains-from_any, list_any-from_Contains, tells_apart}
use Rattle.std.proofs.lemmas.Option.{same_Some}
use Rattle.tick_wheel.specs.TimerId.{TimerId, timer_cmp}
use Rattle.tick_wheel.specs.Table.{timer_at, entries_from, deadlines_of}
use Rattle.tick_wheel.specs.Timers.{Deadlines, due, due_cmp, in_order, pairs, IsDue}
use Rattle.tick_wheel.specs.declared.Due.{Due}
use Rattle.tick_wheel.proofs.Orders.{dues_total, exact_dues, exact_timers}
use Rattle.tick_wheel.proofs.TableLemmas.{entries-deadlines_of, get-deadlines_of, not_found}
use Rattle.plain_laws.proofs.Options.{is_Equal as tied}

-- the due timers, in the order of the places
abbrev pub due_from : ℕ → ℕ → List (Option ℕ) → List Due
due_from clock place [] = []
due_from clock place (None ∷ table) = due_from clock (place + 1) table
due_from clock place (Some deadline ∷ table) =
    let later = due_from clock (place + 1) table in
    cond (nat_le deadline clock) (record { deadline = deadline; timer = timer_at place } ∷ later) later

-- the entries of a set
abbrev marked : List Due → List (Due × Unit {0})
marked pairs = map (λ d. (d, tt {0})) pairs

-- in a strictly sorted list no pair is below the first one
below_marked : (d : Due) (pairs : List Due) → AllByRecursion (λ e. due_cmp d e ≡ Less) pairs → below_all due_cmp d (marked pairs) ≡ true
below_marked d [] h = refl
below_marked d (e ∷ pairs) h = both _ _ (ap is_lt h.0) (below_marked d pairs h.1)

marked_sorted : (pairs : List Due) → IsStrictlySortedBy due_cmp pairs → is_sorted due_cmp (marked pairs) ≡ true
marked_sorted [] h = refl
marked_sorted (d ∷ pairs) h = both _ _ (below_marked d pairs (sorted_head due_cmp d pairs h)) (marked_sorted pairs (sorted_tail due_cmp d pairs h))

unmarked : (pairs : List Due) → map (λ (e : Due × Unit {0}). e.0) (marked pairs) ≡ pairs
unmarked [] = refl
unmarked (d ∷ pairs) = ap (λ ds. d ∷ ds) (unmarked pairs)

find_marked : (q : Due) (pairs : List Due) → find due_cmp q (marked pairs) ≡ cond (list_any (eq_by_cmp due_cmp q) pairs) (Some (tt {0})) None
find_marked q [] = refl
find_marked q (d ∷ pairs) = elim (eq_by_cmp due_cmp q d) as (λ b. cond b (Some (tt {0})) (find due_cmp q (marked pairs)) ≡ cond (b || list_any (eq_by_cmp due_cmp q) pairs) (Some (tt {0})) None) [
  | true ↦ refl
  | false ↦ find_marked q pairs
]

-- a strictly sorted list is its own ordered list
in_order-sorted : (pairs : List Due) → IsStrictlySortedBy due_cmp pairs → in_order pairs ≡ pairs
unfolding in_order
in_order-sorted pairs h =
    let sorted : T (is_sorted due_cmp (marked pairs)) = subst T (sym (marked_sorted pairs h)) tt in
    let same : finite.from_entries {R = due_cmp} (marked pairs) ≡ finite.from_sorted (marked pairs) = same_map dues_total exact_dues _ _ (λ q. get-from_entries dues_total (marked pairs) q ∙ sym (get-from_sorted due_cmp (marked pairs) q sorted)) in
    ap finite.keys same ∙ ap (map (λ (e : Due × Unit {0}). e.0)) (entries-from_sorted due_cmp (marked pairs) sorted) ∙ unmarked pairs

-- the ordered list depends only on which elements a list has
pub in_order-same : (xs ys : List Due) → ((d : Due) → list_any (eq_by_cmp due_cmp d) xs ≡ list_any (eq_by_cmp due_cmp d) ys) → in_order xs ≡ in_order ys
unfolding in_order
in_order-same xs ys same = ap finite.keys (same_map dues_total exact_dues _ _ (λ q.
    get-from_entries dues_total (marked xs) q ∙ find_marked q xs
    ∙ ap (λ b. cond b (Some (tt {0})) None) (same q)
    ∙ sym (find_marked q ys) ∙ sym (get-from_entries dues_total (marked ys) q)))

in_order-IsPermutation : (xs ys : List Due) → IsPermutation xs ys → in_order xs ≡ in_order ys
in_order-IsPermutation xs ys p = in_order-same xs ys (λ q. list_any-IsPermutation (eq_by_cmp due_cmp q) xs ys p)

-- neighbours that are sorted and differ are in strict order
rises : (r : Ordering) → is_lt (ordering_reverse r) ≡ false → is_eq r ≡ false → r ≡ Less
rises Less h e = refl
rises Equal h e = cc
rises Greater h e = cc

IsStrictlySortedBy-from_distinct : (xs : List Due) → IsSorted due_cmp xs → IsDistinct (eq_by_cmp due_cmp) xs → IsStrictlySortedBy due_cmp xs
IsStrictlySortedBy-from_distinct [] s h = sorted_from_all_adjacent dues_total [] (record { deadline = 0; timer = timer_at 0 }) (λ k lt. absurd (omega arith))
IsStrictlySortedBy-from_distinct (x ∷ xs) s h = sorted_from_all_adjacent dues_total (x ∷ xs) x (λ k lt.
    let a = get_or (x ∷ xs) k x in
    let b = get_or (x ∷ xs) (k + 1) x in
    rises (due_cmp a b) (ap is_lt (sym (dues_total.antisymm b a)) ∙ s k x (omega arith) lt) (apart_from_distinct (eq_by_cmp due_cmp) (x ∷ xs) k (k + 1) x h (omega arith) lt))

-- a sorted permutation of distinct pairs is their ordered list
pub in_order-from_sort : (xs ys : List Due) → IsDistinct (eq_by_cmp due_cmp) xs → IsPermutation xs ys → IsSorted due_cmp ys → ys ≡ in_order xs
in_order-from_sort xs ys distinct moved sorted =
    sym (in_order-sorted ys (IsStrictlySortedBy-from_distinct ys sorted (IsDistinct-IsPermutation (eq_by_cmp due_cmp) (eq_by_cmp_equiv dues_total).symm xs ys moved distinct)))
    ∙ sym (in_order-IsPermutation xs ys moved)

-- the pairs of a map whose deadline has come, in the order of the table
due_from-filter : (clock place : ℕ) (table : List (Option ℕ)) → filter (λ d. nat_le d.deadline clock) (map (λ (e : TimerId × ℕ). record { deadline = e.1; timer = e.0 }) (entries_from place table)) ≡ due_from clock place table
due_from-filter clock place [] = refl
due_from-filter clock place (None ∷ table) = due_from-filter clock (place + 1) table
due_from-filter clock place (Some d ∷ table) = rw (due_from-filter clock (place + 1) table) refl

-- whether a deadline is that of a pair, and has come by a clock
abbrev pub is_that : Due → ℕ → Option ℕ → Bool
is_that d clock None = false
is_that d clock (Some deadline) = (d.deadline == deadline) && nat_le deadline clock

is_eq-then : (r s : Ordering) → is_eq (ordering_then r s) ≡ (is_eq r && is_eq s)
is_eq-then Less s = refl
is_eq-then Equal s = refl
is_eq-then Greater s = refl

pub same_pair : (d e : Due) → eq_by_cmp due_cmp d e ≡ ((d.deadline == e.deadline) && eq_by_cmp timer_cmp d.timer e.timer)
same_pair d e = is_eq-then (nat_cmp d.deadline e.deadline) (timer_cmp d.timer e.timer) ∙ ap (λ b. b && eq_by_cmp timer_cmp d.timer e.timer) (unsigned_tied d.deadline e.deadline)

-- by cases on: the pair has this deadline, this timer; the deadline has come
front_is : (deadline timer come later : Bool) (d : Due) (clock : ℕ) → (timer ≡ true → later ≡ false) → cond come ((deadline && timer) || later) later ≡ cond timer (deadline && come) later
front_is true true true later d clock none = refl
front_is true true false later d clock none = none refl
front_is false true true later d clock none = none refl
front_is false true false later d clock none = none refl
front_is true false true later d clock none = refl
front_is true false false later d clock none = refl
front_is false false true later d clock none = refl
front_is false false false later d clock none = refl

pub any_of : (p : Due → Bool) (b : Bool) (x : Due) (xs : List Due) → list_any p (cond b (x ∷ xs) xs) ≡ cond b (p x || list_any p xs) (list_any p xs)
any_of p true x xs = refl
any_of p false x xs = refl

is_that-cond : (d : Due) (clock : ℕ) (b : Bool) (x y : Option ℕ) → is_that d clock (cond b x y) ≡ cond b (is_that d clock x) (is_that d clock y)
is_that-cond d clock true x y = refl
is_that-cond d clock false x y = refl

-- a pair is due in a table exactly if its timer has its deadline there, and that has come
due_from-has : (clock place : ℕ) (table : List (Option ℕ)) (d : Due) → list_any (eq_by_cmp due_cmp d) (due_from clock place table) ≡ is_that d clock (find timer_cmp d.timer (entries_from place table))
due_from-has clock place [] d = refl
due_from-has clock place (None ∷ table) d = due_from-has clock (place + 1) table d
due_from-has clock place (Some f ∷ table) d =
    let this = eq_by_cmp timer_cmp d.timer (timer_at place) in
    let front : Due = record { deadline = f; timer = timer_at place } in
    let later = due_from clock (place + 1) table in
    let rest = due_from-has clock (place + 1) table d in
    any_of (eq_by_cmp due_cmp d) (nat_le f clock) front later
    ∙ ap (λ b. cond (nat_le f clock) (b || list_any (eq_by_cmp due_cmp d) later) (list_any (eq_by_cmp due_cmp d) later)) (same_pair d front)
    ∙ front_is (d.deadline == f) this (nat_le f clock) (list_any (eq_by_cmp due_cmp d) later) d clock (λ t. rest ∙ ap (is_that d clock) (not_found d.timer place (place + 1) table t (omega arith)))
    ∙ ap (cond this ((d.deadline == f) && nat_le f clock)) rest
    ∙ sym (is_that-cond d clock this (Some f) (find timer_cmp d.timer (entries_from (place + 1) table)))

-- a list of exactly the pairs that a table has and whose deadlines have come: its ordered list is `due`
pub due-from_has : (table : List (Option ℕ)) (clock : ℕ) (xs : List Due) → ((d : Due) → list_any (eq_by_cmp due_cmp d) xs ≡ is_that d clock (finite.get (deadlines_of table) d.timer)) → in_order xs ≡ due (deadlines_of table) clock
unfolding due
due-from_has table clock xs has =
    in_order-same xs (due_from clock 0 table) (λ d. has d ∙ ap (is_that d clock) (get-deadlines_of table d.timer) ∙ sym (due_from-has clock 0 table d))
    ∙ ap in_order (sym (due_from-filter clock 0 table) ∙ ap (λ es. filter (λ d. nat_le d.deadline clock) (map (λ (e : TimerId × ℕ). record { deadline = e.1; timer = e.0 }) es)) (sym (entries-deadlines_of table)))

Decides-le : (a b : ℕ) → Decides (nat_le a b) (a ≤ b)
Decides-le a b = elim (leb_tells a b) [
  | inl within ↦ (λ _. within.1, λ _. within.0)
  | inr above ↦ (λ e. absurd (false≢true (sym above.0 ∙ e)), λ h. absurd (omega (arith, h, above.1)))
]

pub is_that-means : (d : Due) (clock : ℕ) (o : Option ℕ) → Decides (is_that d clock o) ((o ≡ Some d.deadline) × (d.deadline ≤ clock))
is_that-means d clock None = (λ e. absurd (false≢true e), λ h. let none : None ≡ Some d.deadline = h.0 in cc)
is_that-means d clock (Some f) =
    Decides-like ((d.deadline == f) && nat_le f clock) (λ (h : (d.deadline ≡ f) × (f ≤ clock)). (ap Some (sym h.0), omega (arith, h.0, h.1))) (λ h. let same : f ≡ d.deadline = same_Some f d.deadline h.0 in (sym same, omega (arith, same, h.1)))
    (Decides-and (d.deadline == f) (nat_le f clock) (Decides-eqb d.deadline f) (Decides-le f clock))

-- ---- any map

first : (a b : Bool) → T (a && b) → T a
first true b p = tt
first false b p = p

second : (a b : Bool) → T (a && b) → T b
second true b p = p
second false b p = absurd p

less : (r : Ordering) → T (is_lt r) → r ≡ Less
less Less p = refl
less Equal p = absurd p
less Greater p = absurd p

-- a timer below all of a list isn't found there
not_below : (q : TimerId) (es : List (TimerId × ℕ)) → T (below_all timer_cmp q es) → find timer_cmp q es ≡ None
not_below q [] h = refl
not_below q (e ∷ es) h = ap (λ r. cond (is_eq r) (Some e.1) (find timer_cmp q es)) (less _ (first _ _ h)) ∙ not_below q es (second _ _ h)

not_later : (q x : TimerId) (es : List (TimerId × ℕ)) → eq_by_cmp timer_cmp q x ≡ true → T (below_all timer_cmp x es) → find timer_cmp q es ≡ None
not_later q x es t h = not_below q es (subst (λ y. T (below_all timer_cmp y es)) (sym (exact_timers q x (tied _ t))) h)

-- the pairs among some entries whose deadline has come
abbrev due_among : ℕ → List (TimerId × ℕ) → List Due
due_among clock es = filter (λ d. nat_le d.deadline clock) (map (λ (e : TimerId × ℕ). record { deadline = e.1; timer = e.0 }) es)

due_among-has : (clock : ℕ) (es : List (TimerId × ℕ)) (d : Due) → T (is_sorted timer_cmp es) → list_any (eq_by_cmp due_cmp d) (due_among clock es) ≡ is_that d clock (find timer_cmp d.timer es)
due_among-has clock [] d h = refl
due_among-has clock (e ∷ es) d h =
    let this = eq_by_cmp timer_cmp d.timer e.0 in
    let front : Due = record { deadline = e.1; timer = e.0 } in
    let later = due_among clock es in
    let rest = due_among-has clock es d (second _ _ h) in
    any_of (eq_by_cmp due_cmp d) (nat_le e.1 clock) front later
    ∙ ap (λ b. cond (nat_le e.1 clock) (b || list_any (eq_by_cmp due_cmp d) later) (list_any (eq_by_cmp due_cmp d) later)) (same_pair d front)
    ∙ front_is (d.deadline == e.1) this (nat_le e.1 clock) (list_any (eq_by_cmp due_cmp d) later) d clock (λ t. rest ∙ ap (is_that d clock) (not_later d.timer e.0 es t (first _ _ h)))
    ∙ ap (cond this ((d.deadline == e.1) && nat_le e.1 clock)) rest
    ∙ sym (is_that-cond d clock this (Some e.1) (find timer_cmp d.timer es))

some_if : (b : Bool) → is_some (cond b (Some (tt {0})) None) ≡ b
some_if true = refl
some_if false = refl

in_order-has : (d : Due) (xs : List Due) → list_any (eq_by_cmp due_cmp d) (in_order xs) ≡ list_any (eq_by_cmp due_cmp d) xs
unfolding in_order
in_order-has d xs =
    sym (contains_key-keys (finite.from_entries {R = due_cmp} (marked xs)) d)
    ∙ ap is_some (get-from_entries dues_total (marked xs) d ∙ find_marked d xs) ∙ some_if (list_any (eq_by_cmp due_cmp d) xs)

keys_above : (d : Due) (es : List (Due × Unit {0})) → T (below_all due_cmp d es) → AllByRecursion (λ e. due_cmp d e ≡ Less) (map (λ (e : Due × Unit {0}). e.0) es)
keys_above d [] h = tt
keys_above d (e ∷ es) h = (less _ (first _ _ h), keys_above d es (second _ _ h))

keys_rise : (es : List (Due × Unit {0})) → T (is_sorted due_cmp es) → IsStrictlySortedBy due_cmp (map (λ (e : Due × Unit {0}). e.0) es)
unfolding IsStrictlySortedBy
keys_rise [] h = tt
keys_rise (e ∷ es) h = (keys_above e.0 es (first _ _ h), keys_rise es (second _ _ h))

in_order-rises : (xs : List Due) → IsStrictlySortedBy due_cmp (in_order xs)
unfolding in_order
in_order-rises xs =
    let m = finite.from_entries {R = due_cmp} (marked xs) in
    keys_rise (finite.entries m) (entries_sorted m)

-- a pair is due exactly if its timer has its deadline, and that has come
pub due-has : (deadlines : Deadlines) (clock : ℕ) (d : Due) → list_any (eq_by_cmp due_cmp d) (due deadlines clock) ≡ is_that d clock (finite.get deadlines d.timer)
unfolding due
due-has deadlines clock d =
    let es = finite.entries deadlines in
    in_order-has d (due_among clock es) ∙ due_among-has clock es d (entries_sorted deadlines) ∙ ap (is_that d clock) (sym (get-entries deadlines d.timer))

pub due-rises : (deadlines : Deadlines) (clock : ℕ) → IsStrictlySortedBy due_cmp (due deadlines clock)
unfolding due
due-rises deadlines clock = in_order-rises (due_among clock (finite.entries deadlines))

-- in each map, at each clock
pub all_due : (deadlines : Deadlines) (clock : ℕ) → IsDue deadlines clock (due deadlines clock)
all_due deadlines clock = record {
  exactly = λ d.
      let means = is_that-means d clock (finite.get deadlines d.timer) in
      (λ h. means.0 (sym (due-has deadlines clock d) ∙ list_any-from_Contains (eq_by_cmp_equiv dues_total) d (due deadlines clock) h), λ h. Contains-from_any (tells_apart exact_dues) d (due deadlines clock) (due-has deadlines clock d ∙ means.1 h));
  in_order = due-rises deadlines clock;
}
