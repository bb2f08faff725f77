-- The invariant of every port holds through each change of its items.
use Rattle.std.proofs.Common.{◌≡◌, ◌≢◌, ℕ, zero, suc, ◌+◌, ◌<◌, ◌≤◌, true, false, not, ◌||◌, cond, eqb, nat_eq, List, [], ◌∷◌, ◌++◌, length, refl, sym, ap, subst, ◌∙◌, inl, inr, arith}
use Rattle.std.specs.List.{list_any, remove, IsDistinct, AllByRecursion}
use Rattle.std.proofs.lemmas.Bool.Decides.{eqb_tells}
use Rattle.std.proofs.lemmas.Cmp.{nat_eq_equiv}
use Rattle.std.proofs.lemmas.Map.Keys.{IsDistinct-push, IsDistinct-head, IsDistinct-tail, IsDistinct-cons}
use Rattle.std.proofs.lemmas.List.Sums.{sum_by-cons, sum_by-append, sum_by-remove}
use Rattle.std.proofs.lemmas.Map.Steps.{length-le_from_distinct_below}
use Rattle.input_port.specs.declared.queue.Item.{Item}
use Rattle.input_port.specs.declared.queue.Item.TheVariants.{Signal, Timer}
use Rattle.input_port.specs.declared.queue.Arrival.{Arrival}
use Rattle.turn_code.specs.declared.numbers.TimerNumber.{TimerNumber}
use Rattle.input_port.specs.Queue.{is_signal, signal_count, has_timer, without_timer, timers_in, IsQueue}

count_signal : (arrival : Arrival) (items : List Item) → signal_count (Signal arrival ∷ items) ≡ 1 + signal_count items
count_signal arrival items = sum_by-cons (λ x. cond (is_signal x) 1 0) (Signal arrival) items

count_timer : (timer : TimerNumber) (items : List Item) → signal_count (Timer timer ∷ items) ≡ 0 + signal_count items
count_timer timer items = sum_by-cons (λ x. cond (is_signal x) 1 0) (Timer timer) items

-- each item is a signal or belongs to a timer
length-items : (items : List Item) → length items ≡ signal_count items + length (timers_in items)
length-items [] = refl
length-items (Signal arrival ∷ items) = omega (arith, length-items items, count_signal arrival items)
length-items (Timer timer ∷ items) = omega (arith, length-items items, count_timer timer items)

signal_count-append : (xs ys : List Item) → signal_count (xs ++ ys) ≡ signal_count xs + signal_count ys
signal_count-append xs ys = sum_by-append (λ x. cond (is_signal x) 1 0) xs ys

timers_in-append : (xs ys : List Item) → timers_in (xs ++ ys) ≡ timers_in xs ++ timers_in ys
timers_in-append [] ys = refl
timers_in-append (Signal arrival ∷ xs) ys = timers_in-append xs ys
timers_in-append (Timer timer ∷ xs) ys = ap (λ ts. timer.0 ∷ ts) (timers_in-append xs ys)

append_none : {A : Type 0} (xs : List A) → xs ++ [] ≡ xs
append_none [] = refl
append_none (x ∷ xs) = ap (λ ys. x ∷ ys) (append_none xs)

below_limit : (xs : List ℕ) (limit : ℕ) → AllByRecursion (λ n. n < limit) xs → (q : ℕ) → list_any (eqb q) xs ≡ true → q < limit
below_limit [] limit h q e = cc
below_limit (x ∷ xs) limit h q e = elim (eqb_tells q x) [
  | inl same ↦ omega (arith, h.0)
  | inr other ↦ below_limit xs limit h.1 q (ap (λ b. b || list_any (eqb q) xs) (sym other.0) ∙ e)
]

-- a port has at most as many items as places
pub length-IsQueue : {capacity : ℕ} {items : List Item} → IsQueue capacity items → length items ≤ capacity + 8
length-IsQueue {capacity} {items} q =
    let timers : length (timers_in items) ≤ 8 = length-le_from_distinct_below (timers_in items) 8 q.once (below_limit (timers_in items) 8 q.numbers) in
    omega (arith, length-items items, q.signals)

pub IsQueue-none : (capacity : ℕ) → 1 ≤ capacity → capacity ≤ 64 → IsQueue capacity []
unfolding IsDistinct
IsQueue-none capacity least most = record { least = least; most = most; signals = omega arith; once = tt; numbers = tt }

-- one more signal, if there is room for it
pub IsQueue-signal : {capacity : ℕ} {items : List Item} (arrival : Arrival) → IsQueue capacity items → signal_count items ≢ capacity → IsQueue capacity (items ++ Signal arrival ∷ [])
IsQueue-signal {capacity} {items} arrival q room =
    let same = timers_in-append items (Signal arrival ∷ []) ∙ append_none (timers_in items) in
    record {
      least = q.least;
      most = q.most;
      signals = omega (arith, signal_count-append items (Signal arrival ∷ []), count_signal arrival [], q.signals, room);
      once = subst (IsDistinct nat_eq) (sym same) q.once;
      numbers = subst (AllByRecursion (λ n. n < 8)) (sym same) q.numbers;
    }

has_timer-timers_in : (items : List Item) (number : ℕ) → list_any (nat_eq number) (timers_in items) ≡ has_timer items number
has_timer-timers_in [] number = refl
has_timer-timers_in (Signal arrival ∷ items) number = has_timer-timers_in items number
has_timer-timers_in (Timer timer ∷ items) number = ap (λ b. nat_eq number timer.0 || b) (has_timer-timers_in items number)

below_push : (xs : List ℕ) (x limit : ℕ) → AllByRecursion (λ n. n < limit) xs → x < limit → AllByRecursion (λ n. n < limit) (xs ++ x ∷ [])
below_push [] x limit h lt = (lt, tt)
below_push (y ∷ xs) x limit h lt = (h.0, below_push xs x limit h.1 lt)

-- the signal of a timer that has none waiting
pub IsQueue-timer : {capacity : ℕ} {items : List Item} (timer : TimerNumber) → IsQueue capacity items → timer.0 < 8 → has_timer items timer.0 ≡ false → IsQueue capacity (items ++ Timer timer ∷ [])
IsQueue-timer {capacity} {items} timer q number absent =
    let same = timers_in-append items (Timer timer ∷ []) in
    record {
      least = q.least;
      most = q.most;
      signals = omega (arith, signal_count-append items (Timer timer ∷ []), count_timer timer [], q.signals);
      once = subst (IsDistinct nat_eq) (sym same) (IsDistinct-push nat_eq_equiv (timers_in items) timer.0 q.once (has_timer-timers_in items timer.0 ∙ absent));
      numbers = subst (AllByRecursion (λ n. n < 8)) (sym same) (below_push (timers_in items) timer.0 8 q.numbers number);
    }

-- one item less
signals_remove : (items : List Item) (i : ℕ) → i < length items → signal_count (remove items i) ≤ signal_count items
signals_remove [] i lt = absurd (omega arith)
signals_remove (item ∷ items) i lt = omega (arith, sum_by-remove (λ x. cond (is_signal x) 1 0) (item ∷ items) i item lt)

all_remove : (P : ℕ → Type 0) (items : List Item) (i : ℕ) → i < length items → AllByRecursion P (timers_in items) → AllByRecursion P (timers_in (remove items i))
all_remove P [] i lt h = absurd (omega arith)
all_remove P (Signal arrival ∷ items) zero lt h = h
all_remove P (Timer timer ∷ items) zero lt h = h.1
all_remove P (Signal arrival ∷ items) (suc i) lt h = all_remove P items i (omega arith) h
all_remove P (Timer timer ∷ items) (suc i) lt h = (h.0, all_remove P items i (omega arith) h.1)

once_remove : (items : List Item) (i : ℕ) → i < length items → IsDistinct nat_eq (timers_in items) → IsDistinct nat_eq (timers_in (remove items i))
once_remove [] i lt h = absurd (omega arith)
once_remove (Signal arrival ∷ items) zero lt h = h
once_remove (Timer timer ∷ items) zero lt h = IsDistinct-tail nat_eq timer.0 (timers_in items) h
once_remove (Signal arrival ∷ items) (suc i) lt h = once_remove items i (omega arith) h
once_remove (Timer timer ∷ items) (suc i) lt h =
    IsDistinct-cons nat_eq timer.0 _ (all_remove (λ y. nat_eq timer.0 y ≡ false) items i (omega arith) (IsDistinct-head nat_eq timer.0 (timers_in items) h))
    (once_remove items i (omega arith) (IsDistinct-tail nat_eq timer.0 (timers_in items) h))

pub IsQueue-remove : {capacity : ℕ} {items : List Item} (i : ℕ) → i < length items → IsQueue capacity items → IsQueue capacity (remove items i)
IsQueue-remove {capacity} {items} i lt q = record {
  least = q.least;
  most = q.most;
  signals = omega (arith, signals_remove items i lt, q.signals);
  once = once_remove items i lt q.once;
  numbers = all_remove (λ n. n < 8) items i lt q.numbers;
}

-- the items without the signal of a timer
signals_without : (items : List Item) (number : ℕ) → signal_count (without_timer items number) ≤ signal_count items
signals_without [] number = omega arith
signals_without (Signal arrival ∷ items) number = omega (arith, signals_without items number, count_signal arrival items, count_signal arrival (without_timer items number))
signals_without (Timer timer ∷ items) number =
    elim (nat_eq number timer.0) as (λ b. signal_count (cond (not b) (Timer timer ∷ without_timer items number) (without_timer items number)) ≤ signal_count (Timer timer ∷ items)) [
      | true ↦ omega (arith, signals_without items number, count_timer timer items)
      | false ↦ omega (arith, signals_without items number, count_timer timer items, count_timer timer (without_timer items number))
    ]

all_without : (P : ℕ → Type 0) (items : List Item) (number : ℕ) → AllByRecursion P (timers_in items) → AllByRecursion P (timers_in (without_timer items number))
all_without P [] number h = h
all_without P (Signal arrival ∷ items) number h = all_without P items number h
all_without P (Timer timer ∷ items) number h =
    elim (nat_eq number timer.0) as (λ b. AllByRecursion P (timers_in (cond (not b) (Timer timer ∷ without_timer items number) (without_timer items number)))) [
      | true ↦ all_without P items number h.1
      | false ↦ (h.0, all_without P items number h.1)
    ]

once_without : (items : List Item) (number : ℕ) → IsDistinct nat_eq (timers_in items) → IsDistinct nat_eq (timers_in (without_timer items number))
once_without [] number h = h
once_without (Signal arrival ∷ items) number h = once_without items number h
once_without (Timer timer ∷ items) number h =
    let later = once_without items number (IsDistinct-tail nat_eq timer.0 (timers_in items) h) in
    elim (nat_eq number timer.0) as (λ b. IsDistinct nat_eq (timers_in (cond (not b) (Timer timer ∷ without_timer items number) (without_timer items number)))) [
      | true ↦ later
      | false ↦ IsDistinct-cons nat_eq timer.0 _ (all_without (λ y. nat_eq timer.0 y ≡ false) items number (IsDistinct-head nat_eq timer.0 (timers_in items) h)) later
    ]

pub IsQueue-without : {capacity : ℕ} {items : List Item} (number : ℕ) → IsQueue capacity items → IsQueue capacity (without_timer items number)
IsQueue-without {capacity} {items} number q = record {
  least = q.least;
  most = q.most;
  signals = omega (arith, signals_without items number, q.signals);
  once = once_without items number q.once;
  numbers = all_without (λ n. n < 8) items number q.numbers;
}
