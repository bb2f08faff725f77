-- A table with a place for each timer: eight places for actor 0, then eight for actor 1, and so on.
use Rattle.std.specs.Prelude.{◌≡◌, ℕ, ◌+◌, ◌*◌, ◌/◌, ◌%◌, List, [], ◌∷◌, map, Option, Some, None}
use Rattle.std.specs.Prelude.{nat_le, if◌then◌else◌}
use Rattle.std.specs.FinMap as finite
use Rattle.plain_laws.specs.Limits.{MOST_ACTORS, MOST_TIMERS_EACH}
use Rattle.tick_wheel.specs.TimerId.{TimerId}
use Rattle.tick_wheel.specs.Timers.{Deadlines}

-- the number of places in the table
abbrev pub PLACES : ℕ
PLACES = MOST_ACTORS * MOST_TIMERS_EACH

-- the timer at a place
abbrev pub timer_at : ℕ → TimerId
timer_at place = record { actor = place / MOST_TIMERS_EACH; number = place % MOST_TIMERS_EACH }

-- the timers with a deadline, in a table whose first place this is
abbrev pub entries_from : ℕ → List (Option ℕ) → List (TimerId × ℕ)
entries_from place [] = []
entries_from place (None ∷ table) = entries_from (place + 1) table
entries_from place (Some deadline ∷ table) =
    (timer_at place, deadline) ∷ entries_from (place + 1) table

-- the map that a table represents
unfoldable pub deadlines_of : List (Option ℕ) → Deadlines
deadlines_of table = finite.from_sorted (entries_from 0 table)

-- the value of a place after due deadlines are removed
abbrev pub kept : ℕ → Option ℕ → Option ℕ
kept clock None = None
kept clock (Some deadline) = if nat_le deadline clock then None else Some deadline

-- no deadline of the table has come
abbrev pub NoneDue : ℕ → List (Option ℕ) → Type 0
NoneDue clock table = map (kept clock) table ≡ table
