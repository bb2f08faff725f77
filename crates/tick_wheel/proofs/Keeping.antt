-- The invariant of a wheel holds after a timer is set or reset, and after the clock advances while nothing is due.
use Rattle.std.proofs.Common.{◌≡◌, ◌≢◌, ℕ, zero, suc, ◌<◌, ◌≤◌, ◌%◌, Bool, true, false, not, cond, ◌||◌, ◌&&◌, ◌==◌, List, [], ◌∷◌, length, get_or, set, map, replicate, refl, sym, ap, subst, ◌∙◌, inl, inr, arith, eqb, nat_le, Option, Some, None}
use Rattle.std.specs.List.{list_any, IsDistinct}
use Rattle.std.specs.Ordering.{eq_by_cmp}
use Rattle.std.specs.Option.{option_map_or}
use Rattle.std.specs.FinMap as finite
use Rattle.std.specs.FinMap.{get-remove, get-retain_keys, get_tied, same_map}
use Rattle.std.proofs.lemmas.Bool.Decides.{nat_tests, eqb_tells}
use Rattle.std.proofs.lemmas.Bool.{true≢false, or_cases}
use Rattle.std.proofs.lemmas.List.{get_or-set_same, get_or-set_other, length-set, length-map, get_or-map, ext_get_or, get_or-replicate, length-replicate}
use Rattle.std.proofs.Math.Bool.{or-true}
use Rattle.plain_laws.specs.Limits.{LAST_TICK}
use Rattle.tick_wheel.specs.Sizes.{SLOTS}
use Rattle.tick_wheel.specs.Lists.{without}
use Rattle.tick_wheel.proofs.Tables.{without-gone, distinct-without}
use Rattle.tick_wheel.specs.TimerId.{TimerId, timer_cmp}
use Rattle.tick_wheel.specs.Table.{timer_at, deadlines_of, PLACES, NoneDue, kept}
use Rattle.tick_wheel.specs.Timers.{Deadlines, due, due_cmp, is_due, not_due}
use Rattle.tick_wheel.specs.Slots.{in_slot, IsWheel, without_all}
use Rattle.tick_wheel.specs.declared.Due.{Due}
use Rattle.tick_wheel.proofs.Orders.{timers_total, exact_timers}
use Rattle.tick_wheel.proofs.TableLemmas.{deadlines_of-kept, NoneDue-set, NoneDue-none, kept-later, kept_is, kept-kept}
use Rattle.tick_wheel.proofs.DueLemmas.{due-has, is_that, same_pair}
use Rattle.tick_wheel.proofs.Lists.{distinct-none, distinct-more}
use Rattle.tick_wheel.proofs.Gathering.{any-place}

has-other : (q item : ℕ) (items : List ℕ) → q ≢ item → list_any (eqb q) (without item items) ≡ list_any (eqb q) items
has-other q item [] h = refl
has-other q item (x ∷ items) h = elim (eqb_tells item x) [
  | inl is ↦ (let off : eqb q x ≡ false = grind (arith, nat_tests) in rw (is.0, off) (has-other q item items h))
  | inr off ↦ rw off.0 (ap (λ b. eqb q x || b) (has-other q item items h))
]

module _ (clock : ℕ) (table : List (Option ℕ)) (lists : List (List ℕ)) (w : IsWheel clock table lists) (place : ℕ) (low : place < PLACES) where
  -- the lists without the timer
  out-at : (s : ℕ) → s < SLOTS → get_or (map (without place) lists) s [] ≡ without place (get_or lists s [])
  out-at s h = get_or-map (without place) lists s [] [] (omega (arith, h, w.slots))

  out-length : length (map (without place) lists) ≡ SLOTS
  out-length = length-map lists (without place) ∙ w.slots

  out-has : (s q : ℕ) → s < SLOTS → q ≢ place → list_any (eqb q) (without place (get_or lists s [])) ≡ in_slot s (get_or table q None)
  out-has s q h off = has-other q place (get_or lists s []) off ∙ w.has s q h

  pub IsWheel-reset : IsWheel clock (set table place None) (map (without place) lists)
  IsWheel-reset = record {
    len = length-set table place None ∙ w.len;
    within = w.within;
    later = NoneDue-set clock table place None refl w.later;
    slots = out-length;
    has = λ s q h. ap (list_any (eqb q)) (out-at s h) ∙ elim (eqb_tells q place) [
      | inl is ↦ ap (λ x. list_any (eqb x) (without place (get_or lists s []))) is.1 ∙ without-gone place (get_or lists s []) ∙ ap (in_slot s) (sym (ap (λ x. get_or (set table place None) x None) is.1 ∙ get_or-set_same table place None None (omega (arith, low, w.len))))
      | inr off ↦ out-has s q h off.1 ∙ ap (in_slot s) (sym (get_or-set_other table place q None None off.1))
    ];
    once = λ s h. subst (IsDistinct eqb) (sym (out-at s h)) (distinct-without place (get_or lists s []) (w.once s h));
  }

  pub IsWheel-set : (deadline : ℕ) → clock < deadline → IsWheel clock (set table place (Some deadline)) (set (map (without place) lists) (deadline % SLOTS) (place ∷ without place (get_or lists (deadline % SLOTS) [])))
  IsWheel-set deadline later =
      let slot = deadline % SLOTS in
      let fresh = place ∷ without place (get_or lists slot []) in
      let at_place : get_or (set table place (Some deadline)) place None ≡ Some deadline = get_or-set_same table place (Some deadline) None (omega (arith, low, w.len)) in
      let here : (s : ℕ) → slot ≡ s → get_or (set (map (without place) lists) slot fresh) s [] ≡ fresh = λ s e. ap (λ x. get_or (set (map (without place) lists) slot fresh) x []) (sym e) ∙ get_or-set_same (map (without place) lists) slot fresh [] (omega (arith, out-length)) in
      let there : (s : ℕ) → s < SLOTS → slot ≢ s → get_or (set (map (without place) lists) slot fresh) s [] ≡ without place (get_or lists s []) = λ s h e. get_or-set_other (map (without place) lists) slot s fresh [] (λ x. e (sym x)) ∙ out-at s h in
      record {
        len = length-set table place (Some deadline) ∙ w.len;
        within = w.within;
        later = NoneDue-set clock table place (Some deadline) (kept-later clock deadline later) w.later;
        slots = length-set (map (without place) lists) slot fresh ∙ out-length;
        has = λ s q h. elim (eqb_tells slot s) [
          | inl own ↦ ap (list_any (eqb q)) (here s own.1) ∙ elim (eqb_tells q place) [
            | inl is ↦ ap (λ b. b || list_any (eqb q) (without place (get_or lists slot []))) is.0 ∙ sym (ap (in_slot s) (ap (λ x. get_or (set table place (Some deadline)) x None) is.1 ∙ at_place) ∙ own.0)
            | inr off ↦ ap (λ b. b || list_any (eqb q) (without place (get_or lists slot []))) off.0 ∙ out-has slot q (omega arith) off.1 ∙ (λ i. in_slot (own.1 i) (get_or table q None)) ∙ ap (in_slot s) (sym (get_or-set_other table place q (Some deadline) None off.1))
          ]
          | inr other ↦ ap (list_any (eqb q)) (there s h other.1) ∙ elim (eqb_tells q place) [
            | inl is ↦ ap (λ x. list_any (eqb x) (without place (get_or lists s []))) is.1 ∙ without-gone place (get_or lists s []) ∙ sym (ap (in_slot s) (ap (λ x. get_or (set table place (Some deadline)) x None) is.1 ∙ at_place) ∙ other.0)
            | inr off ↦ out-has s q h off.1 ∙ ap (in_slot s) (sym (get_or-set_other table place q (Some deadline) None off.1))
          ]
        ];
        once = λ s h. elim (eqb_tells slot s) [
          | inl own ↦ subst (IsDistinct eqb) (sym (here s own.1)) (distinct-more place (without place (get_or lists slot [])) (without-gone place (get_or lists slot [])) (distinct-without place (get_or lists slot []) (w.once slot (omega arith))))
          | inr other ↦ subst (IsDistinct eqb) (sym (there s h other.1)) (distinct-without place (get_or lists s []) (w.once s h))
        ];
      }

-- nothing is due if the timers that aren't due are all timers
pub IsWheel-pass : (clock later : ℕ) (table : List (Option ℕ)) (lists : List (List ℕ)) → IsWheel clock table lists → later ≤ LAST_TICK → not_due (deadlines_of table) later ≡ deadlines_of table → IsWheel later table lists
IsWheel-pass clock later table lists w h none = record {
  len = w.len;
  within = h;
  later = ext_get_or None (map (kept later) table) table (length-map table (kept later)) (λ k _.
      sym (any-place (map (kept later) table) k) ∙ ap (λ m. finite.get m (timer_at k)) (deadlines_of-kept table later ∙ none) ∙ any-place table k);
  slots = w.slots;
  has = w.has;
  once = w.once;
}

pub IsWheel-new : (table : List (Option ℕ)) (lists : List (List ℕ)) → table ≡ replicate PLACES None → lists ≡ replicate SLOTS [] → IsWheel 0 table lists
IsWheel-new table lists e f =
    let no_item : (s : ℕ) → s < SLOTS → get_or lists s [] ≡ [] = λ s h. ap (λ ls. get_or ls s []) f ∙ get_or-replicate SLOTS s [] [] h in
    record {
      len = ap length e ∙ length-replicate {A = Option ℕ} PLACES None;
      within = omega arith;
      later = subst (NoneDue 0) (sym e) (NoneDue-none 0 PLACES);
      slots = ap length f ∙ length-replicate {A = List ℕ} SLOTS [];
      has = λ s q h. ap (list_any (eqb q)) (no_item s h) ∙ ap (in_slot s) (sym (ap (λ t. get_or t q None) e ∙ no_deadline PLACES q));
      once = λ s h. subst (IsDistinct eqb) (sym (no_item s h)) distinct-none;
    }
  where
    no_deadline : (n q : ℕ) → get_or {A = Option ℕ} (replicate n None) q None ≡ None
    no_deadline zero q = refl
    no_deadline (suc n) zero = refl
    no_deadline (suc n) (suc q) = no_deadline n q

-- ---- the map without the due timers

without_all-get : (ds : List Due) (deadlines : Deadlines) (q : TimerId) → finite.get (without_all ds deadlines) q ≡ cond (list_any (λ d. eq_by_cmp timer_cmp q d.timer) ds) None (finite.get deadlines q)
without_all-get [] deadlines q = refl
without_all-get (d ∷ ds) deadlines q =
    without_all-get ds (finite.remove deadlines d.timer) q
    ∙ ap (cond (list_any (λ e. eq_by_cmp timer_cmp q e.timer) ds) None) (get-remove timers_total deadlines d.timer q)
    ∙ both_gone (eq_by_cmp timer_cmp q d.timer) (list_any (λ e. eq_by_cmp timer_cmp q e.timer) ds) (finite.get deadlines q)
  where
    both_gone : (a b : Bool) (o : Option ℕ) → cond b None (cond a None o) ≡ cond (a || b) None o
    both_gone true true o = refl
    both_gone true false o = refl
    both_gone false true o = refl
    both_gone false false o = refl

right : (a b : Bool) → (a && b) ≡ true → b ≡ true
right true b h = h
right false b h = absurd (true≢false (sym h))

-- a pair of the list has this timer
timer-pair : (q : TimerId) (ds : List Due) → list_any (λ d. eq_by_cmp timer_cmp q d.timer) ds ≡ true → (f : ℕ) × (list_any (eq_by_cmp due_cmp (record { deadline = f; timer = q })) ds ≡ true)
timer-pair q [] h = absurd (true≢false (sym h))
timer-pair q (d ∷ ds) h = elim (or_cases (eq_by_cmp timer_cmp q d.timer) (list_any (λ d. eq_by_cmp timer_cmp q d.timer) ds) h) [
  | inl here ↦ (
    d.deadline,
    (let own : (d.deadline == d.deadline) ≡ true = grind (arith, nat_tests) in
        ap (λ b. b || list_any (eq_by_cmp due_cmp (record { deadline = d.deadline; timer = q })) ds) (same_pair (record { deadline = d.deadline; timer = q }) d ∙ (λ i. own i && here i))),
  )
  | inr later ↦ (let rest = timer-pair q ds later in (rest.0, ap (λ b. eq_by_cmp due_cmp (record { deadline = rest.0; timer = q }) d || b) rest.1 ∙ or-true _))
]

pair-timer : (q : TimerId) (f : ℕ) (ds : List Due) → list_any (eq_by_cmp due_cmp (record { deadline = f; timer = q })) ds ≡ true → list_any (λ d. eq_by_cmp timer_cmp q d.timer) ds ≡ true
pair-timer q f [] h = h
pair-timer q f (d ∷ ds) h = elim (or_cases (eq_by_cmp due_cmp (record { deadline = f; timer = q }) d) (list_any (eq_by_cmp due_cmp (record { deadline = f; timer = q })) ds) h) [
  | inl here ↦ ap (λ b. b || list_any (λ d. eq_by_cmp timer_cmp q d.timer) ds) (right (f == d.deadline) (eq_by_cmp timer_cmp q d.timer) (sym (same_pair (record { deadline = f; timer = q }) d) ∙ here))
  | inr later ↦ ap (λ b. eq_by_cmp timer_cmp q d.timer || b) (pair-timer q f ds later) ∙ or-true _
]

turned : (b : Bool) (o : Option ℕ) → cond b None o ≡ cond (not b) o None
turned true o = refl
turned false o = refl

due-timer_by : (deadlines : Deadlines) (clock : ℕ) (q : TimerId) (t : Bool) → list_any (λ d. eq_by_cmp timer_cmp q d.timer) (due deadlines clock) ≡ t → (o : Option ℕ) → finite.get deadlines q ≡ o → t ≡ option_map_or (λ d. nat_le d clock) o false
due-timer_by deadlines clock q true h None e =
    let found = timer-pair q (due deadlines clock) h in
    sym found.1 ∙ due-has deadlines clock (record { deadline = found.0; timer = q }) ∙ ap (is_that (record { deadline = found.0; timer = q }) clock) e
due-timer_by deadlines clock q true h (Some f) e =
    let found = timer-pair q (due deadlines clock) h in
    sym (right (found.0 == f) (nat_le f clock) (ap (is_that (record { deadline = found.0; timer = q }) clock) (sym e) ∙ sym (due-has deadlines clock (record { deadline = found.0; timer = q })) ∙ found.1))
due-timer_by deadlines clock q false h None e = refl
due-timer_by deadlines clock q false h (Some f) e = elim (nat_le f clock) as (λ t. nat_le f clock ≡ t → false ≡ t) [
  | true ↦ λ come. (let own : (f == f) ≡ true = grind (arith, nat_tests) in
      sym h ∙ pair-timer q f (due deadlines clock) (due-has deadlines clock (record { deadline = f; timer = q }) ∙ ap (is_that (record { deadline = f; timer = q }) clock) e ∙ (λ i. own i && come i)))
  | false ↦ λ _. refl
] refl

due-timer : (deadlines : Deadlines) (clock : ℕ) (q : TimerId) → list_any (λ d. eq_by_cmp timer_cmp q d.timer) (due deadlines clock) ≡ is_due deadlines clock q
due-timer deadlines clock q = due-timer_by deadlines clock q (list_any (λ d. eq_by_cmp timer_cmp q d.timer) (due deadlines clock)) refl (finite.get deadlines q) refl

-- the map without each due timer has the timers that aren't due
pub without_due : (deadlines : Deadlines) (clock : ℕ) → without_all (due deadlines clock) deadlines ≡ not_due deadlines clock
unfolding not_due
without_due deadlines clock = same_map timers_total exact_timers _ _ (λ q.
    without_all-get (due deadlines clock) deadlines q
    ∙ ap (λ b. cond b None (finite.get deadlines q)) (due-timer deadlines clock q)
    ∙ turned (is_due deadlines clock q) (finite.get deadlines q)
    ∙ sym (get-retain_keys deadlines (λ t. not (is_due deadlines clock t)) q (λ x e. ap (λ o. not (option_map_or (λ d. nat_le d clock) o false)) (get_tied timers_total deadlines q x e))))

not_due-get : (deadlines : Deadlines) (clock : ℕ) (q : TimerId) → finite.get (not_due deadlines clock) q ≡ kept clock (finite.get deadlines q)
unfolding not_due
not_due-get deadlines clock q =
    get-retain_keys deadlines (λ t. not (is_due deadlines clock t)) q (λ x e. ap (λ o. not (option_map_or (λ d. nat_le d clock) o false)) (get_tied timers_total deadlines q x e))
    ∙ sym (kept_is clock (finite.get deadlines q))

-- removing the due timers twice is the same as once
pub not_due-twice : (deadlines : Deadlines) (clock : ℕ) → not_due (not_due deadlines clock) clock ≡ not_due deadlines clock
not_due-twice deadlines clock = same_map timers_total exact_timers _ _ (λ q.
    not_due-get (not_due deadlines clock) clock q ∙ ap (kept clock) (not_due-get deadlines clock q) ∙ kept-kept clock (finite.get deadlines q) ∙ sym (not_due-get deadlines clock q))
