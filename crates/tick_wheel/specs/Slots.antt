-- Timers in the lists of slots, by their deadlines' remainders, and the lists of the next clocks'
-- slots.
use Rattle.std.specs.Prelude.{◌≡◌, ℕ, zero, suc, ◌+◌, ◌%◌, ◌<◌, ◌≤◌, Bool, false, nat_eq, nat_le}
use Rattle.std.specs.Prelude.{if◌then◌else◌, List, [], ◌∷◌, ◌++◌, length, get_or, Option, None}
use Rattle.std.specs.Prelude.{Some}
use Rattle.std.specs.List.{list_any, IsDistinct}
use Rattle.std.specs.FinMap as finite
use Rattle.plain_laws.specs.Limits.{LAST_TICK}
use Rattle.tick_wheel.specs.Sizes.{SLOTS}
use Rattle.tick_wheel.specs.Table.{NoneDue, timer_at, PLACES}
use Rattle.tick_wheel.specs.Timers.{Deadlines}
use Rattle.tick_wheel.specs.declared.Due.{Due}

-- whether a deadline belongs to a slot's list
abbrev pub in_slot : ℕ → Option ℕ → Bool
in_slot slot None = false
in_slot slot (Some deadline) = nat_eq (deadline % SLOTS) slot

-- the lists of a table of deadlines, none of which has come: each place with a deadline is in one
-- list, once
pub record IsWheel (clock : ℕ) (table : List (Option ℕ)) (lists : List (List ℕ)) : Type 0 where
  pub len : length table ≡ PLACES
  pub within : clock ≤ LAST_TICK
  pub later : NoneDue clock table
  pub slots : length lists ≡ SLOTS
  pub has : (slot place : ℕ) → slot < SLOTS
      → list_any (nat_eq place) (get_or lists slot []) ≡ in_slot slot (get_or table place None)
  pub once : (slot : ℕ) → slot < SLOTS → IsDistinct nat_eq (get_or lists slot [])

-- a timer, if its deadline has come, and then later due timers
abbrev pub due_before : ℕ → ℕ → Option ℕ → List Due → List Due
due_before clock place None later = later
due_before clock place (Some deadline) later =
    if nat_le deadline clock then record { deadline = deadline; timer = timer_at place } ∷ later
    else later

-- the due timers among those at some places
abbrev pub due_of : ℕ → List (Option ℕ) → List ℕ → List Due
due_of clock table [] = []
due_of clock table (place ∷ places) =
    due_before clock place (get_or table place None) (due_of clock table places)

-- the places in the lists of the next clocks' slots, so many from a clock on
abbrev pub visited : List (List ℕ) → ℕ → ℕ → List ℕ
visited lists clock zero = []
visited lists clock (suc steps) =
    visited lists clock steps ++ get_or lists ((clock + suc steps) % SLOTS) []

-- a map without the timers of a list
abbrev pub without_all : List Due → Deadlines → Deadlines
without_all [] deadlines = deadlines
without_all (d ∷ ds) deadlines = without_all ds (finite.remove deadlines d.timer)
