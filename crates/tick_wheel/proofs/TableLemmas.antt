-- The map that a table represents, and its changes as one place or all places change.
use Rattle.std.proofs.Common.{◌≡◌, ℕ, zero, suc, ◌<◌, ◌+◌, Bool, true, false, not, cond, T, List, [], ◌∷◌, length, get_or, set, map, replicate, Option, Some, None, IfSome, refl, sym, ap, subst, ◌∙◌, inl, inr, arith, nat_le}
use Rattle.std.specs.Ordering.{eq_by_cmp, is_lt}
use Rattle.std.specs.Option.{option_map_or}
use Rattle.std.specs.FinMap as finite
use Rattle.std.specs.FinMap.{find, is_sorted, get-from_sorted, entries-from_sorted, get-insert, get-remove, get-retain_keys, get-empty, get_tied, same_map}
use Rattle.std.specs.FinMap.Entries.{below_all}
use Rattle.std.proofs.lemmas.Bool.Decides.{nat_tests, leb_tells}
use Rattle.tick_wheel.specs.TimerId.{TimerId, timer_cmp}
use Rattle.tick_wheel.specs.Table.{timer_at, entries_from, deadlines_of, kept, NoneDue}
use Rattle.tick_wheel.specs.Timers.{not_due, is_due}
use Rattle.tick_wheel.proofs.Orders.{timers_total, exact_timers, timer_at-rises, one_place, same_place, earlier_place}
use Rattle.std.proofs.lemmas.Bool.{and_from as both}

-- the deadline of a timer in the entries of a table
abbrev found : TimerId → ℕ → List (Option ℕ) → Option ℕ
found timer place table = find timer_cmp timer (entries_from place table)

below_later : (i place : ℕ) (table : List (Option ℕ)) → i < place → below_all timer_cmp (timer_at i) (entries_from place table) ≡ true
below_later i place [] h = refl
below_later i place (None ∷ table) h = below_later i (place + 1) table (omega arith)
below_later i place (Some d ∷ table) h = both _ _ (ap is_lt (timer_at-rises i place h)) (below_later i (place + 1) table (omega arith))

-- the entries of a table are in the order of the timers
pub entries_from-sorted : (place : ℕ) (table : List (Option ℕ)) → is_sorted timer_cmp (entries_from place table) ≡ true
entries_from-sorted place [] = refl
entries_from-sorted place (None ∷ table) = entries_from-sorted (place + 1) table
entries_from-sorted place (Some d ∷ table) = both _ _ (below_later place (place + 1) table (omega arith)) (entries_from-sorted (place + 1) table)

-- a timer of an earlier place isn't found
pub not_found : (q : TimerId) (i place : ℕ) (table : List (Option ℕ)) → eq_by_cmp timer_cmp q (timer_at i) ≡ true → i < place → found q place table ≡ None
not_found q i place [] e h = refl
not_found q i place (None ∷ table) e h = not_found q i (place + 1) table e (omega arith)
not_found q i place (Some d ∷ table) e h = rw (one_place q i place e h) (not_found q i (place + 1) table e (omega arith))

-- a test on the first timer and a test on a later one don't both hold
in_either_order : (a b : Bool) (x y z : Option ℕ) → (a ≡ true → b ≡ false) → cond a x (cond b y z) ≡ cond b y (cond a x z)
in_either_order true b x y z apart = rw (apart refl) refl
in_either_order false b x y z apart = refl

tested_twice : (b : Bool) (x y z : Option ℕ) → cond b x z ≡ cond b x (cond b y z)
tested_twice true x y z = refl
tested_twice false x y z = refl

none_there : (b : Bool) (x : Option ℕ) → (b ≡ true → x ≡ None) → x ≡ cond b None x
none_there true x none = none refl
none_there false x none = refl

gone : (b : Bool) (x y : Option ℕ) → (b ≡ true → x ≡ None) → x ≡ cond b None (cond b y x)
gone true x y none = none refl
gone false x y none = refl

-- place j, k after the first of the table, gets another deadline
found-set : (q : TimerId) (place : ℕ) (table : List (Option ℕ)) (k j d : ℕ) → k < length table → j ≡ place + k → found q place (set table k (Some d)) ≡ cond (eq_by_cmp timer_cmp q (timer_at j)) (Some d) (found q place table)
found-set q place [] k j d h e = absurd (omega arith)
found-set q place (None ∷ table) zero j d h e = ap (λ i. cond (eq_by_cmp timer_cmp q (timer_at i)) (Some d) (found q (place + 1) table)) (omega arith)
found-set q place (Some f ∷ table) zero j d h e =
    tested_twice _ (Some d) (Some f) (found q (place + 1) table)
    ∙ ap (λ i. cond (eq_by_cmp timer_cmp q (timer_at i)) (Some d) (found q place (Some f ∷ table))) (omega arith)
found-set q place (None ∷ table) (suc k) j d h e = found-set q (place + 1) table k j d (omega arith) (omega arith)
found-set q place (Some f ∷ table) (suc k) j d h e =
    ap (cond (eq_by_cmp timer_cmp q (timer_at place)) (Some f)) (found-set q (place + 1) table k j d (omega arith) (omega arith))
    ∙ in_either_order _ _ (Some f) (Some d) _ (λ t. one_place q place j t (omega arith))

-- place j loses its deadline
found-clear : (q : TimerId) (place : ℕ) (table : List (Option ℕ)) (k j : ℕ) → k < length table → j ≡ place + k → found q place (set table k None) ≡ cond (eq_by_cmp timer_cmp q (timer_at j)) None (found q place table)
found-clear q place [] k j h e = absurd (omega arith)
found-clear q place (None ∷ table) zero j h e = none_there _ _ (λ t. not_found q j (place + 1) table t (omega arith))
found-clear q place (Some f ∷ table) zero j h e =
    gone _ (found q (place + 1) table) (Some f) (λ t. not_found q place (place + 1) table t (omega arith))
    ∙ ap (λ i. cond (eq_by_cmp timer_cmp q (timer_at i)) None (found q place (Some f ∷ table))) (omega arith)
found-clear q place (None ∷ table) (suc k) j h e = found-clear q (place + 1) table k j (omega arith) (omega arith)
found-clear q place (Some f ∷ table) (suc k) j h e =
    ap (cond (eq_by_cmp timer_cmp q (timer_at place)) (Some f)) (found-clear q (place + 1) table k j (omega arith) (omega arith))
    ∙ in_either_order _ _ (Some f) None _ (λ t. one_place q place j t (omega arith))

-- every place loses its deadline if that is due
found-kept : (clock : ℕ) (q : TimerId) (place : ℕ) (table : List (Option ℕ)) → found q place (map (kept clock) table) ≡ kept clock (found q place table)
found-kept clock q place [] = refl
found-kept clock q place (None ∷ table) = found-kept clock q (place + 1) table
found-kept clock q place (Some d ∷ table) =
    let this = eq_by_cmp timer_cmp q (timer_at place) in
    let rest = found q (place + 1) table in
    let later : found q (place + 1) (map (kept clock) table) ≡ kept clock rest = found-kept clock q (place + 1) table in
    elim (nat_le d clock) as (λ t. nat_le d clock ≡ t → found q place (cond t None (Some d) ∷ map (kept clock) table) ≡ kept clock (cond this (Some d) rest)) [
      | true ↦ λ e. later ∙ elim this as (λ b. this ≡ b → kept clock rest ≡ kept clock (cond b (Some d) rest)) [
        | true ↦ λ t. ap (kept clock) (not_found q place (place + 1) table t (omega arith)) ∙ sym (ap (λ v. cond v None (Some d)) e)
        | false ↦ λ _. refl
      ] refl
      | false ↦ λ e. ap (cond this (Some d)) later ∙ elim this as (λ b. cond b (Some d) (kept clock rest) ≡ kept clock (cond b (Some d) rest)) [
        | true ↦ sym (ap (λ v. cond v None (Some d)) e)
        | false ↦ refl
      ]
    ] refl

-- the value of a place is the deadline of its timer
found-at : (place : ℕ) (table : List (Option ℕ)) (k j : ℕ) (d : Option ℕ) → k < length table → j ≡ place + k → found (timer_at j) place table ≡ get_or table k d
found-at place [] k j d h e = absurd (omega arith)
found-at place (None ∷ table) zero j d h e = not_found (timer_at j) j (place + 1) table (same_place j j refl) (omega arith)
found-at place (Some f ∷ table) zero j d h e = ap (λ b. cond b (Some f) (found (timer_at j) (place + 1) table)) (same_place j place (omega arith))
found-at place (None ∷ table) (suc k) j d h e = found-at (place + 1) table k j d (omega arith) (omega arith)
found-at place (Some f ∷ table) (suc k) j d h e =
    ap (λ b. cond b (Some f) (found (timer_at j) (place + 1) table)) (earlier_place place j (omega arith))
    ∙ found-at (place + 1) table k j d (omega arith) (omega arith)

-- the map of a table has the deadlines of its entries
pub get-deadlines_of : (table : List (Option ℕ)) (q : TimerId) → finite.get (deadlines_of table) q ≡ found q 0 table
unfolding deadlines_of
get-deadlines_of table q = get-from_sorted timer_cmp (entries_from 0 table) q (subst T (sym (entries_from-sorted 0 table)) tt)

pub entries-deadlines_of : (table : List (Option ℕ)) → finite.entries (deadlines_of table) ≡ entries_from 0 table
unfolding deadlines_of
entries-deadlines_of table = entries-from_sorted timer_cmp (entries_from 0 table) (subst T (sym (entries_from-sorted 0 table)) tt)

pub deadlines_of-at : (table : List (Option ℕ)) (k : ℕ) (d : Option ℕ) → k < length table → finite.get (deadlines_of table) (timer_at k) ≡ get_or table k d
deadlines_of-at table k d h = get-deadlines_of table (timer_at k) ∙ found-at 0 table k k d h (omega arith)

pub deadlines_of-set : (table : List (Option ℕ)) (k d : ℕ) → k < length table → deadlines_of (set table k (Some d)) ≡ finite.insert (deadlines_of table) (timer_at k) d
deadlines_of-set table k d h = same_map timers_total exact_timers _ _ (λ q.
    get-deadlines_of (set table k (Some d)) q ∙ found-set q 0 table k k d h (omega arith)
    ∙ ap (cond (eq_by_cmp timer_cmp q (timer_at k)) (Some d)) (sym (get-deadlines_of table q))
    ∙ sym (get-insert timers_total (deadlines_of table) (timer_at k) d q))

pub deadlines_of-clear : (table : List (Option ℕ)) (k : ℕ) → k < length table → deadlines_of (set table k None) ≡ finite.remove (deadlines_of table) (timer_at k)
deadlines_of-clear table k h = same_map timers_total exact_timers _ _ (λ q.
    get-deadlines_of (set table k None) q ∙ found-clear q 0 table k k h (omega arith)
    ∙ ap (cond (eq_by_cmp timer_cmp q (timer_at k)) None) (sym (get-deadlines_of table q))
    ∙ sym (get-remove timers_total (deadlines_of table) (timer_at k) q))

pub kept_is : (clock : ℕ) (o : Option ℕ) → kept clock o ≡ cond (not (option_map_or (λ d. nat_le d clock) o false)) o None
kept_is clock None = refl
kept_is clock (Some d) = elim (nat_le d clock) as (λ b. cond b None (Some d) ≡ cond (not b) (Some d) None) [ true ↦ refl | false ↦ refl ]

pub deadlines_of-kept : (table : List (Option ℕ)) (clock : ℕ) → deadlines_of (map (kept clock) table) ≡ not_due (deadlines_of table) clock
unfolding not_due
deadlines_of-kept table clock =
    let deadlines = deadlines_of table in
    same_map timers_total exact_timers _ _ (λ q.
    get-deadlines_of (map (kept clock) table) q ∙ found-kept clock q 0 table
    ∙ ap (kept clock) (sym (get-deadlines_of table q)) ∙ kept_is clock (finite.get deadlines q)
    ∙ sym (get-retain_keys deadlines (λ t. not (is_due deadlines clock t)) q (λ x e. ap (λ o. not (option_map_or (λ d. nat_le d clock) o false)) (get_tied timers_total deadlines q x e))))

no_entries : (n place : ℕ) → entries_from place (replicate n None) ≡ []
no_entries zero place = refl
no_entries (suc n) place = no_entries n (place + 1)

pub deadlines_of-none : (n : ℕ) → deadlines_of (replicate n None) ≡ finite.empty
deadlines_of-none n = same_map timers_total exact_timers _ _ (λ q.
    get-deadlines_of (replicate n None) q ∙ ap (find timer_cmp q) (no_entries n 0) ∙ sym (get-empty timer_cmp q))

-- no deadline of a table without deadlines has come
pub NoneDue-none : (clock n : ℕ) → NoneDue clock (replicate n None)
NoneDue-none clock zero = refl
NoneDue-none clock (suc n) = ap (λ xs. None ∷ xs) (NoneDue-none clock n)

same_head : (x y : Option ℕ) (xs ys : List (Option ℕ)) → x ∷ xs ≡ y ∷ ys → x ≡ y
same_head x y xs ys e = cc

same_tail : (x y : Option ℕ) (xs ys : List (Option ℕ)) → x ∷ xs ≡ y ∷ ys → xs ≡ ys
same_tail x y xs ys e = cc

-- a place gets a deadline that has not come
pub NoneDue-set : (clock : ℕ) (table : List (Option ℕ)) (k : ℕ) (d : Option ℕ) → kept clock d ≡ d → NoneDue clock table → NoneDue clock (set table k d)
NoneDue-set clock [] k d e h = refl
NoneDue-set clock (x ∷ table) zero d e h = λ i. e i ∷ same_tail _ _ _ _ h i
NoneDue-set clock (x ∷ table) (suc k) d e h = λ i. same_head _ _ _ _ h i ∷ NoneDue-set clock table k d e (same_tail _ _ _ _ h) i

pub kept-later : (clock d : ℕ) → clock < d → kept clock (Some d) ≡ Some d
kept-later clock d h = let off : nat_le d clock ≡ false = grind (arith, nat_tests) in ap (λ b. cond b None (Some d)) off

pub kept-kept : (clock : ℕ) (d : Option ℕ) → kept clock (kept clock d) ≡ kept clock d
kept-kept clock None = refl
kept-kept clock (Some d) = elim (nat_le d clock) as (λ b. nat_le d clock ≡ b → kept clock (cond b None (Some d)) ≡ cond b None (Some d)) [
  | true ↦ λ _. refl
  | false ↦ λ e. ap (λ b. cond b None (Some d)) e
] refl

later-kept : (clock : ℕ) (d : Option ℕ) → kept clock d ≡ d → IfSome d (λ e. clock < e)
later-kept clock None h = tt
later-kept clock (Some d) h = elim (leb_tells d clock) [
  | inl come ↦ (let none : None ≡ Some d = ap (λ b. cond b None (Some d)) (sym come.0) ∙ h in cc)
  | inr later ↦ later.1
]

pub later-at : (clock : ℕ) (table : List (Option ℕ)) (k : ℕ) (d : Option ℕ) → k < length table → d ≡ get_or table k d → NoneDue clock table → IfSome d (λ e. clock < e)
later-at clock [] k d lt e h = absurd (omega arith)
later-at clock (x ∷ table) zero d lt e h = later-kept clock d (ap (kept clock) e ∙ same_head _ _ _ _ h ∙ sym e)
later-at clock (x ∷ table) (suc k) d lt e h = later-at clock table k d (omega arith) e (same_tail _ _ _ _ h)
