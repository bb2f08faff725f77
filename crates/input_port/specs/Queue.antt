-- The items that wait in a port, and the item that a process takes (Z.100, input port and save).
use Rattle.std.specs.Prelude.{◌≡◌, ℕ, ◌<◌, ◌≤◌, Bool, true, false, not, List, [], ◌∷◌, ◌++◌, Option}
use Rattle.std.specs.Prelude.{Some, None, if◌then◌else◌, ◌==◌, nat_eq, filter, count_by}
use Rattle.std.specs.List.{list_any, IsDistinct, AllByRecursion}
use Rattle.plain_laws.specs.Limits.{LEAST_PORT, MOST_PORT, MOST_TIMERS_EACH}
use Rattle.input_port.specs.declared.queue.Item.{Item}
use Rattle.input_port.specs.declared.queue.Item.TheVariants.{Signal, Timer}

-- the items in order of arrival, and how many of them may be signals
pub record Queue : Type 0 where
  pub capacity : ℕ
  pub items : List Item

abbrev pub is_signal : Item → Bool
is_signal (Signal arrival) = true
is_signal (Timer timer) = false

-- whether an item is the signal of a timer, by the timer's number
abbrev pub is_of_timer : ℕ → Item → Bool
is_of_timer number (Signal arrival) = false
is_of_timer number (Timer timer) = number == timer.0

-- how many of the items are signals
abbrev pub signal_count : List Item → ℕ
signal_count items = count_by is_signal items

-- whether the signal of a timer waits
abbrev pub has_timer : List Item → ℕ → Bool
has_timer items number = list_any (is_of_timer number) items

-- the items without the signal of a timer
abbrev pub without_timer : List Item → ℕ → List Item
without_timer items number = filter (λ item. not (is_of_timer number item)) items

-- the first item that isn't saved
abbrev pub first_unsaved : (Item → Bool) → List Item → Option Item
first_unsaved saved [] = None
first_unsaved saved (item ∷ items) = if saved item then first_unsaved saved items else Some item

-- the items without the first that isn't saved
abbrev pub without_first : (Item → Bool) → List Item → List Item
without_first saved [] = []
without_first saved (item ∷ items) = if saved item then item ∷ without_first saved items else items

-- The item taken isn't saved, and only saved items were before it. The others are left, in their
-- order.
pub record Takes (saved : Item → Bool) (items : List Item) (item : Item) (left : List Item) :
    Type 0 where
  pub before : List Item
  pub after : List Item
  pub stood : items ≡ before ++ item ∷ after
  pub saved_before : AllByRecursion (λ i. saved i ≡ true) before
  pub not_saved : saved item ≡ false
  pub stays : left ≡ before ++ after

-- the numbers of the timers whose signals wait
abbrev pub timers_in : List Item → List ℕ
timers_in [] = []
timers_in (Signal arrival ∷ items) = timers_in items
timers_in (Timer timer ∷ items) = timer.0 ∷ timers_in items

-- the invariant of every port: a capacity in its range, signals within it, and at most one item for
-- each possible timer
pub record IsQueue (capacity : ℕ) (items : List Item) : Type 0 where
  pub least : LEAST_PORT ≤ capacity
  pub most : capacity ≤ MOST_PORT
  pub signals : signal_count items ≤ capacity
  pub once : IsDistinct nat_eq (timers_in items)
  pub numbers : AllByRecursion (λ number. number < MOST_TIMERS_EACH) (timers_in items)
