-- The due timers in the visited lists are all due timers, and the number of timers in these lists.
use Rattle.std.proofs.Common.{◌≡◌, ℕ, zero, suc, ◌<◌, ◌≤◌, ◌+◌, ◌-◌, ◌*◌, ◌/◌, ◌%◌, min, Bool, true, false, cond, ◌||◌, ◌&&◌, ◌==◌, List, [], ◌∷◌, ◌++◌, length, get_or, map, map-id, take, length-take-le, length-append, append_assoc, take_all, refl, sym, ap, ◌∙◌, inl, inr, arith, eqb, nat_le, Option, Some, None}
use Rattle.std.specs.List.{list_any, filter, IsDistinct, AllByRecursion, range_with_len, slice_get}
use Rattle.std.specs.Ordering.{eq_by_cmp, is_eq}
use Rattle.std.specs.FinMap as finite
use Rattle.std.specs.FinMap.{find}
use Rattle.std.proofs.lemmas.Bool.Decides.{nat_tests, eqb_tells, leb_tells}
use Rattle.std.proofs.lemmas.Cmp.{nat_eq_equiv}
use Rattle.std.proofs.lemmas.List.Folds.{list_any-append}
use Rattle.std.proofs.lemmas.List.FromFn.{map-range_with_len_more}
use Rattle.std.proofs.lemmas.List.Sums.{length-filter}
use Rattle.std.proofs.lemmas.List.{get_or_default}
use Rattle.std.proofs.lemmas.Map.Made.{length-from_same_keys}
use Rattle.std.proofs.Math.Bool.{or-false}
use Rattle.std.proofs.Math.ListN.{get_or-eq_default}
use Rattle.tick_wheel.specs.Sizes.{SLOTS}
use Rattle.plain_laws.specs.Limits.{MOST_TIMERS_EACH}
use Rattle.tick_wheel.specs.TimerId.{TimerId, timer_cmp}
use Rattle.tick_wheel.specs.Table.{timer_at, entries_from, deadlines_of, PLACES}
use Rattle.tick_wheel.specs.Timers.{due_cmp, in_order, due}
use Rattle.tick_wheel.specs.Turning.{is_near, near_count}
use Rattle.tick_wheel.specs.Slots.{IsWheel, due_before, due_of, visited}
use Rattle.tick_wheel.specs.declared.Due.{Due}
use Rattle.tick_wheel.proofs.Orders.{same_place, earlier_place, timer_at-rises}
use Rattle.tick_wheel.proofs.TableLemmas.{deadlines_of-at, get-deadlines_of, entries-deadlines_of, later-at}
use Rattle.tick_wheel.proofs.DueLemmas.{is_that, same_pair, any_of, due-from_has}
use Rattle.tick_wheel.proofs.Lists.{distinct-none, distinct-more, take-more, none-left}
use Rattle.tick_wheel.proofs.SlotLemmas.{near, near_place, near-at, near-min, visited-has, visited-distinct, visited-few}

-- ---- timers of places

same_number : (i j : ℕ) → eq_by_cmp timer_cmp (timer_at i) (timer_at j) ≡ eqb i j
same_number i j = elim (eqb_tells i j) [
  | inl is ↦ same_place i j is.1 ∙ sym is.0
  | inr off ↦ elim (leb_tells i j) [
    | inl low ↦ ap is_eq (timer_at-rises i j (omega (arith, low.1, off.1))) ∙ sym off.0
    | inr high ↦ earlier_place j i high.1 ∙ sym off.0
  ]
]

own_place : (q : TimerId) → q.number < MOST_TIMERS_EACH → q ≡ timer_at (q.actor * MOST_TIMERS_EACH + q.number)
own_place q h = (let a : q.actor ≡ (q.actor * MOST_TIMERS_EACH + q.number) / MOST_TIMERS_EACH = omega arith in
    let b : q.number ≡ (q.actor * MOST_TIMERS_EACH + q.number) % MOST_TIMERS_EACH = omega arith in
    λ i. record { actor = a i; number = b i })

-- a number that no timer of a place has
strange : (q : TimerId) (i : ℕ) → MOST_TIMERS_EACH ≤ q.number → eq_by_cmp timer_cmp q (timer_at i) ≡ false
strange q i h = grind (arith, nat_tests)

strange-found : (q : TimerId) (place : ℕ) (table : List (Option ℕ)) → MOST_TIMERS_EACH ≤ q.number → find timer_cmp q (entries_from place table) ≡ None
strange-found q place [] h = refl
strange-found q place (None ∷ table) h = strange-found q (place + 1) table h
strange-found q place (Some d ∷ table) h = rw (strange q place h) (strange-found q (place + 1) table h)

beyond-found : (j place : ℕ) (table : List (Option ℕ)) → place + length table ≤ j → find timer_cmp (timer_at j) (entries_from place table) ≡ None
beyond-found j place [] h = refl
beyond-found j place (None ∷ table) h = beyond-found j (place + 1) table (omega arith)
beyond-found j place (Some d ∷ table) h = rw (earlier_place place j (omega arith)) (beyond-found j (place + 1) table (omega arith))

pub any-place : (table : List (Option ℕ)) (p : ℕ) → finite.get (deadlines_of table) (timer_at p) ≡ get_or table p None
any-place table p = elim (leb_tells (length table) p) [
  | inl out ↦ get-deadlines_of table (timer_at p) ∙ beyond-found p 0 table (omega (arith, out.1)) ∙ sym (get_or-eq_default table None {n = p} out.1)
  | inr within ↦ deadlines_of-at table p None within.1
]

-- ---- the due timers at some places

-- by cases on: the pair has this deadline, this timer; the deadline has come
before_is : (deadline timer come later : Bool) → cond come ((deadline && timer) || later) later ≡ ((timer && (deadline && come)) || later)
before_is true true true later = refl
before_is true true false later = refl
before_is true false true later = refl
before_is true false false later = refl
before_is false true true later = refl
before_is false true false later = refl
before_is false false true later = refl
before_is false false false later = refl

none_before : (t later : Bool) → later ≡ ((t && false) || later)
none_before true later = refl
none_before false later = refl

due_before-has : (clock q : ℕ) (o : Option ℕ) (later : List Due) (d : Due) → list_any (eq_by_cmp due_cmp d) (due_before clock q o later) ≡ ((eq_by_cmp timer_cmp d.timer (timer_at q) && is_that d clock o) || list_any (eq_by_cmp due_cmp d) later)
due_before-has clock q None later d = none_before (eq_by_cmp timer_cmp d.timer (timer_at q)) (list_any (eq_by_cmp due_cmp d) later)
due_before-has clock q (Some f) later d =
    let front : Due = record { deadline = f; timer = timer_at q } in
    any_of (eq_by_cmp due_cmp d) (nat_le f clock) front later
    ∙ ap (λ b. cond (nat_le f clock) (b || list_any (eq_by_cmp due_cmp d) later) (list_any (eq_by_cmp due_cmp d) later)) (same_pair d front)
    ∙ before_is (d.deadline == f) (eq_by_cmp timer_cmp d.timer (timer_at q)) (nat_le f clock) (list_any (eq_by_cmp due_cmp d) later)

twice : (m x : Bool) → (x || (m && x)) ≡ x
twice true true = refl
twice true false = refl
twice false true = refl
twice false false = refl

due_of-has : (clock : ℕ) (table : List (Option ℕ)) (places : List ℕ) (p : ℕ) (d : Due) → d.timer ≡ timer_at p → list_any (eq_by_cmp due_cmp d) (due_of clock table places) ≡ (list_any (eqb p) places && is_that d clock (get_or table p None))
due_of-has clock table [] p d e = refl
due_of-has clock table (q ∷ places) p d e =
    due_before-has clock q (get_or table q None) (due_of clock table places) d
    ∙ (λ i. (eq_by_cmp timer_cmp (e i) (timer_at q) && is_that d clock (get_or table q None)) || due_of-has clock table places p d e i)
    ∙ ap (λ b. (b && is_that d clock (get_or table q None)) || (list_any (eqb p) places && is_that d clock (get_or table p None))) (same_number p q)
    ∙ elim (eqb_tells p q) [
      | inl is ↦ rw is.0 (ap (λ x. is_that d clock (get_or table x None) || (list_any (eqb p) places && is_that d clock (get_or table p None))) (sym is.1) ∙ twice (list_any (eqb p) places) (is_that d clock (get_or table p None)))
      | inr off ↦ rw off.0 refl
    ]

due_of-strange : (clock : ℕ) (table : List (Option ℕ)) (places : List ℕ) (d : Due) → MOST_TIMERS_EACH ≤ d.timer.number → list_any (eq_by_cmp due_cmp d) (due_of clock table places) ≡ false
due_of-strange clock table [] d h = refl
due_of-strange clock table (q ∷ places) d h =
    due_before-has clock q (get_or table q None) (due_of clock table places) d
    ∙ (λ i. (strange d.timer q h i && is_that d clock (get_or table q None)) || due_of-strange clock table places d h i)

false_right : (b : Bool) → (b && false) ≡ false
false_right true = refl
false_right false = refl

abbrev Apart : ℕ → ℕ → List Due → Type 0
Apart q f ds = AllByRecursion (λ e. eq_by_cmp due_cmp (record { deadline = f; timer = timer_at q }) e ≡ false) ds

apart_before : (clock q f r : ℕ) (o : Option ℕ) (later : List Due) → eqb q r ≡ false → Apart q f later → Apart q f (due_before clock r o later)
apart_before clock q f r None later e h = h
apart_before clock q f r (Some g) later e h = elim (nat_le g clock) as (λ b. Apart q f (cond b (record { deadline = g; timer = timer_at r } ∷ later) later)) [
  | true ↦ (same_pair (record { deadline = f; timer = timer_at q }) (record { deadline = g; timer = timer_at r }) ∙ ap (λ b. (f == g) && b) (same_number q r ∙ e) ∙ false_right (f == g), h)
  | false ↦ h
]

due_of-apart : (clock q f : ℕ) (table : List (Option ℕ)) (places : List ℕ) → AllByRecursion (λ y. eqb q y ≡ false) places → Apart q f (due_of clock table places)
due_of-apart clock q f table [] h = tt
due_of-apart clock q f table (r ∷ places) h = apart_before clock q f r (get_or table r None) (due_of clock table places) h.0 (due_of-apart clock q f table places h.1)

distinct_before : (clock q : ℕ) (o : Option ℕ) (later : List Due) → ((f : ℕ) → Apart q f later) → IsDistinct (eq_by_cmp due_cmp) later → IsDistinct (eq_by_cmp due_cmp) (due_before clock q o later)
unfolding IsDistinct
distinct_before clock q None later a d = d
distinct_before clock q (Some f) later a d = elim (nat_le f clock) as (λ b. IsDistinct (eq_by_cmp due_cmp) (cond b (record { deadline = f; timer = timer_at q } ∷ later) later)) [
  | true ↦ (a f, d)
  | false ↦ d
]

pub due_of-distinct : (clock : ℕ) (table : List (Option ℕ)) (places : List ℕ) → IsDistinct eqb places → IsDistinct (eq_by_cmp due_cmp) (due_of clock table places)
unfolding IsDistinct
due_of-distinct clock table [] d = tt
due_of-distinct clock table (q ∷ places) d = distinct_before clock q (get_or table q None) (due_of clock table places) (λ f. due_of-apart clock q f table places d.0) (due_of-distinct clock table places d.1)

pub due_of-append : (clock : ℕ) (table : List (Option ℕ)) (xs ys : List ℕ) → due_of clock table (xs ++ ys) ≡ due_of clock table xs ++ due_of clock table ys
due_of-append clock table [] ys = refl
due_of-append clock table (q ∷ xs) ys = ap (due_before clock q (get_or table q None)) (due_of-append clock table xs ys) ∙ before_append clock q (get_or table q None) (due_of clock table xs) (due_of clock table ys)
  where
    before_append : (clock q : ℕ) (o : Option ℕ) (xs ys : List Due) → due_before clock q o (xs ++ ys) ≡ due_before clock q o xs ++ ys
    before_append clock q None xs ys = refl
    before_append clock q (Some f) xs ys = elim (nat_le f clock) as (λ b. cond b (record { deadline = f; timer = timer_at q } ∷ (xs ++ ys)) (xs ++ ys) ≡ cond b (record { deadline = f; timer = timer_at q } ∷ xs) xs ++ ys) [ true ↦ refl | false ↦ refl ]

pub due_of-few : (clock : ℕ) (table : List (Option ℕ)) (places : List ℕ) → length (due_of clock table places) ≤ length places
due_of-few clock table [] = omega arith
due_of-few clock table (q ∷ places) = before_few clock q (get_or table q None) (due_of clock table places) (length places) (due_of-few clock table places)
  where
    before_few : (clock q : ℕ) (o : Option ℕ) (later : List Due) (n : ℕ) → length later ≤ n → length (due_before clock q o later) ≤ suc n
    before_few clock q None later n h = omega arith
    before_few clock q (Some f) later n h = elim (nat_le f clock) as (λ b. length (cond b (record { deadline = f; timer = timer_at q } ∷ later) later) ≤ suc n) [ true ↦ omega arith | false ↦ omega arith ]

-- ---- near

pub near-is : (clock n d : ℕ) → is_near clock n d ≡ near clock n d
unfolding is_near
near-is clock zero d = refl
near-is clock (suc n) d =
    let test : ℕ → Bool = λ step. eqb (d % SLOTS) ((clock + step) % SLOTS) in
    let next : suc n ≡ n + 1 = omega arith in
    let grown : range_with_len 1 (suc n) ≡ range_with_len 1 n ++ suc n ∷ [] =
    sym (map-id (range_with_len 1 (suc n))) ∙ ap (λ k. map (λ x. x) (range_with_len 1 k)) next ∙ map-range_with_len_more (λ x. x) 1 n (suc n) (omega arith) ∙ ap (λ xs. xs ++ suc n ∷ []) (map-id (range_with_len 1 n)) in
    ap (list_any test) grown
    ∙ list_any-append test (range_with_len 1 n) (suc n ∷ [])
    ∙ (λ i. near-is clock n d i || or-false (test (suc n)) i)

-- the places whose deadlines are near
abbrev near_places : ℕ → ℕ → ℕ → List (Option ℕ) → List ℕ
near_places clock n place [] = []
near_places clock n place (None ∷ table) = near_places clock n (place + 1) table
near_places clock n place (Some d ∷ table) = cond (near clock n d) (place ∷ near_places clock n (place + 1) table) (near_places clock n (place + 1) table)

near_places-count : (clock n place : ℕ) (table : List (Option ℕ)) → length (filter (λ (d : Due). is_near clock n d.deadline) (map (λ (e : TimerId × ℕ). record { deadline = e.1; timer = e.0 }) (entries_from place table))) ≡ length (near_places clock n place table)
near_places-count clock n place [] = refl
near_places-count clock n place (None ∷ table) = near_places-count clock n (place + 1) table
near_places-count clock n place (Some d ∷ table) =
    let rest = near_places-count clock n (place + 1) table in
    rw (near-is clock n d) (elim (near clock n d) as (λ b. length (cond b (record { deadline = d; timer = timer_at place } ∷ filter (λ (d : Due). is_near clock n d.deadline) (map (λ (e : TimerId × ℕ). record { deadline = e.1; timer = e.0 }) (entries_from (place + 1) table))) (filter (λ (d : Due). is_near clock n d.deadline) (map (λ (e : TimerId × ℕ). record { deadline = e.1; timer = e.0 }) (entries_from (place + 1) table)))) ≡ length (cond b (place ∷ near_places clock n (place + 1) table) (near_places clock n (place + 1) table))) [
      | true ↦ ap suc rest
      | false ↦ rest
    ])

near_places-low : (clock n place q : ℕ) (table : List (Option ℕ)) → q < place → list_any (eqb q) (near_places clock n place table) ≡ false
near_places-low clock n place q [] h = refl
near_places-low clock n place q (None ∷ table) h = near_places-low clock n (place + 1) q table (omega arith)
near_places-low clock n place q (Some d ∷ table) h =
    let rest = near_places-low clock n (place + 1) q table (omega arith) in
    let off : eqb q place ≡ false = grind (arith, nat_tests) in
    elim (near clock n d) as (λ b. list_any (eqb q) (cond b (place ∷ near_places clock n (place + 1) table) (near_places clock n (place + 1) table)) ≡ false) [
      | true ↦ rw off rest
      | false ↦ rest
    ]

near_places-distinct : (clock n place : ℕ) (table : List (Option ℕ)) → IsDistinct eqb (near_places clock n place table)
near_places-distinct clock n place [] = distinct-none
near_places-distinct clock n place (None ∷ table) = near_places-distinct clock n (place + 1) table
near_places-distinct clock n place (Some d ∷ table) =
    let rest = near_places-distinct clock n (place + 1) table in
    elim (near clock n d) as (λ b. IsDistinct eqb (cond b (place ∷ near_places clock n (place + 1) table) (near_places clock n (place + 1) table))) [
      | true ↦ distinct-more place (near_places clock n (place + 1) table) (near_places-low clock n (place + 1) place table (omega arith)) rest
      | false ↦ rest
    ]

-- the place k after the first of the table
near_places-has : (clock n place k q : ℕ) (table : List (Option ℕ)) → q ≡ place + k → list_any (eqb q) (near_places clock n place table) ≡ near_place clock n (get_or table k None)
near_places-has clock n place k q [] e = refl
near_places-has clock n place zero q (None ∷ table) e = near_places-low clock n (place + 1) q table (omega arith)
near_places-has clock n place zero q (Some d ∷ table) e =
    let rest = near_places-low clock n (place + 1) q table (omega arith) in
    let own : eqb q place ≡ true = grind (arith, nat_tests) in
    elim (near clock n d) as (λ b. list_any (eqb q) (cond b (place ∷ near_places clock n (place + 1) table) (near_places clock n (place + 1) table)) ≡ b) [
      | true ↦ rw own refl
      | false ↦ rest
    ]
near_places-has clock n place (suc k) q (None ∷ table) e = near_places-has clock n (place + 1) k q table (omega arith)
near_places-has clock n place (suc k) q (Some d ∷ table) e =
    let rest = near_places-has clock n (place + 1) k q table (omega arith) in
    let off : eqb q place ≡ false = grind (arith, nat_tests) in
    elim (near clock n d) as (λ b. list_any (eqb q) (cond b (place ∷ near_places clock n (place + 1) table) (near_places clock n (place + 1) table)) ≡ near_place clock n (get_or table k None)) [
      | true ↦ rw off rest
      | false ↦ rest
    ]

near_place-min : (clock n : ℕ) (o : Option ℕ) → near_place clock (min n SLOTS) o ≡ near_place clock n o
near_place-min clock n None = refl
near_place-min clock n (Some d) = near-min clock n d

module _ (clock : ℕ) (table : List (Option ℕ)) (lists : List (List ℕ)) (w : IsWheel clock table lists) where
  -- the number of timers looked at
  pub visited-count : (ticks : ℕ) → length (visited lists clock (min ticks SLOTS)) ≡ near_count (deadlines_of table) clock ticks
  unfolding near_count
  visited-count ticks =
      length-from_same_keys nat_eq_equiv (visited lists clock (min ticks SLOTS)) (near_places clock ticks 0 table)
      (visited-distinct clock table lists w (min ticks SLOTS) (omega arith)) (near_places-distinct clock ticks 0 table)
      (λ q. visited-has clock table lists w (min ticks SLOTS) q ∙ near_place-min clock ticks (get_or table q None) ∙ sym (near_places-has clock ticks 0 q q table (omega arith)))
      ∙ sym (near_places-count clock ticks 0 table)
      ∙ ap (λ es. length (filter (λ (d : Due). is_near clock ticks d.deadline) (map (λ (e : TimerId × ℕ). record { deadline = e.1; timer = e.0 }) es))) (sym (entries-deadlines_of table))
      ∙ length-filter (λ (d : Due). is_near clock ticks d.deadline) (map (λ (e : TimerId × ℕ). record { deadline = e.1; timer = e.0 }) (finite.entries (deadlines_of table)))

  -- a deadline is above the clock
  place-later : (p f : ℕ) → get_or table p None ≡ Some f → clock < f
  place-later p f e = elim (leb_tells PLACES p) [
    | inl out ↦ (let none : None ≡ Some f = sym (get_or-eq_default table None {n = p} (omega (arith, out.1, w.len))) ∙ e in cc)
    | inr within ↦ later-at clock table p (Some f) (omega (arith, within.1, w.len)) (sym e ∙ get_or_default table p None (Some f) (omega (arith, within.1, w.len))) w.later
  ]

  seen : (ticks f : ℕ) (d : Due) → clock < f → (near clock (min ticks SLOTS) f && is_that d (clock + ticks) (Some f)) ≡ is_that d (clock + ticks) (Some f)
  seen ticks f d h = elim (leb_tells f (clock + ticks)) [
    | inl come ↦ (let found : near clock (min ticks SLOTS) f ≡ true = near-min clock ticks f ∙ near-at clock ticks (f - clock) f (omega (arith, h)) (omega (arith, come.1)) (omega (arith, h)) in rw found refl)
    | inr later ↦ rw later.0 (rw (false_right (d.deadline == f)) (false_right (near clock (min ticks SLOTS) f)))
  ]

  seen_place : (ticks p : ℕ) (d : Due) (o : Option ℕ) → get_or table p None ≡ o → (near_place clock (min ticks SLOTS) o && is_that d (clock + ticks) o) ≡ is_that d (clock + ticks) o
  seen_place ticks p d None e = refl
  seen_place ticks p d (Some f) e = seen ticks f d (place-later p f e)

  pub visited-due : (ticks : ℕ) → in_order (due_of (clock + ticks) table (visited lists clock (min ticks SLOTS))) ≡ due (deadlines_of table) (clock + ticks)
  visited-due ticks = due-from_has table (clock + ticks) (due_of (clock + ticks) table (visited lists clock (min ticks SLOTS))) (λ d. elim (leb_tells MOST_TIMERS_EACH d.timer.number) [
    | inl out ↦ due_of-strange (clock + ticks) table (visited lists clock (min ticks SLOTS)) d out.1 ∙ ap (is_that d (clock + ticks)) (sym (get-deadlines_of table d.timer ∙ strange-found d.timer 0 table out.1))
    | inr within ↦ (let p = d.timer.actor * MOST_TIMERS_EACH + d.timer.number in
        let own : d.timer ≡ timer_at p = own_place d.timer within.1 in
        due_of-has (clock + ticks) table (visited lists clock (min ticks SLOTS)) p d own
        ∙ ap (λ b. b && is_that d (clock + ticks) (get_or table p None)) (visited-has clock table lists w (min ticks SLOTS) p)
        ∙ seen_place ticks p d (get_or table p None) refl
        ∙ ap (is_that d (clock + ticks)) (sym (ap (finite.get (deadlines_of table)) own ∙ any-place table p)))
  ])

-- ---- step by step

-- there is room for one more
pub room-left : (old new : List Due) (clock : ℕ) (table : List (Option ℕ)) (places : List ℕ) (k room : ℕ) → new ≡ old ++ due_of clock table (take k places) → k < length places → length old + length places ≤ room → length new < room
room-left old new clock table places k room e h g =
    let few = due_of-few clock table (take k places) in
    let taken = length-take-le k places in
    omega (arith, ap length e, length-append old (due_of clock table (take k places)), few, taken, h, g)

due_more : (clock : ℕ) (table : List (Option ℕ)) (places : List ℕ) (k p : ℕ) → slice_get places k ≡ Some p → due_of clock table (take (k + 1) places) ≡ due_of clock table (take k places) ++ due_before clock p (get_or table p None) []
due_more clock table places k p h = ap (due_of clock table) (take-more places k p h) ∙ due_of-append clock table (take k places) (p ∷ [])

pub gathered-more : (old now : List Due) (clock : ℕ) (table : List (Option ℕ)) (places : List ℕ) (k p : ℕ) → now ≡ old ++ due_of clock table (take k places) → slice_get places k ≡ Some p → now ++ due_before clock p (get_or table p None) [] ≡ old ++ due_of clock table (take (k + 1) places)
gathered-more old now clock table places k p e h =
    ap (λ xs. xs ++ due_before clock p (get_or table p None) []) e
    ∙ append_assoc old (due_of clock table (take k places)) (due_before clock p (get_or table p None) [])
    ∙ ap (λ xs. old ++ xs) (sym (due_more clock table places k p h))

pub gathered-all : (old now : List Due) (clock : ℕ) (table : List (Option ℕ)) (places : List ℕ) (k : ℕ) → now ≡ old ++ due_of clock table (take k places) → slice_get places k ≡ None → now ≡ old ++ due_of clock table places
gathered-all old now clock table places k e h = e ∙ ap (λ xs. old ++ due_of clock table xs) (take_all k places (none-left places k h))

pub visited-more : (lists : List (List ℕ)) (clock step slot : ℕ) → slot ≡ (clock + step + 1) % SLOTS → visited lists clock (step + 1) ≡ visited lists clock step ++ get_or lists slot []
visited-more lists clock step slot e =
    let next : step + 1 ≡ suc step = omega arith in
    let same : (clock + suc step) % SLOTS ≡ slot = omega (arith, e) in
    ap (visited lists clock) next ∙ ap (λ s. visited lists clock step ++ get_or lists s []) same

module _ (clock : ℕ) (table : List (Option ℕ)) (lists : List (List ℕ)) (w : IsWheel clock table lists) where
  pub more-few : (step slot : ℕ) → slot ≡ (clock + step + 1) % SLOTS → step + 1 ≤ SLOTS → length (visited lists clock step) + length (get_or lists slot []) ≤ PLACES
  more-few step slot e h =
      let all = visited-few clock table lists w (step + 1) h in
      omega (arith, all, ap length (visited-more lists clock step slot e), length-append (visited lists clock step) (get_or lists slot []))
