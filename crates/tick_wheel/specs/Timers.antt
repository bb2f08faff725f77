-- The timers of a link: a clock, and the deadline of each timer that is active (Z.100, timers).
use Rattle.std.specs.Prelude.{◌≡◌, ◌↔◌, ◌≤◌, ℕ, Bool, false, not, List, map, filter, nat_le}
use Rattle.std.specs.Prelude.{Contains, Some, refl}
use Rattle.std.specs.List.Sorted.{IsStrictlySortedBy}
use Rattle.std.specs.declared.cmp.Ordering.{Ordering}
use Rattle.std.specs.Coded.{Coded, code_by, coded×, coded_ℕ}
use Rattle.std.specs.FinMap as finite
use Rattle.std.specs.Option.{option_map_or}
use Rattle.std.specs.Ordering.{nat_cmp, ordering_then}
use Rattle.tick_wheel.specs.TimerId.{TimerId, timer_cmp}
use Rattle.tick_wheel.specs.declared.Due.{Due}

-- the deadline of each active timer
abbrev pub Deadlines : Type 0
Deadlines = finite.FinMap timer_cmp ℕ

pub record Timers : Type 0 where
  pub clock : ℕ
  pub deadlines : Deadlines

-- encoded as the pair of its parts, a timer as the pair of its numbers
abbrev pub timer_id_code : Coded TimerId
timer_id_code =
    code_by (ℕ
    × ℕ) (coded× coded_ℕ coded_ℕ) (λ t. (t.actor, t.number))
    (λ p. record { actor = p.0; number = p.1 }) (λ _. refl)

abbrev pub timers_code : Coded Timers
timers_code =
    code_by (ℕ
    × Deadlines) (coded× coded_ℕ (finite.code timer_id_code coded_ℕ))
    (λ t. (t.clock, t.deadlines)) (λ p. record { clock = p.0; deadlines = p.1 }) (λ _. refl)

-- ordered by deadline, then by actor, then by number
abbrev pub due_cmp : Due → Due → Ordering
due_cmp a b = ordering_then (nat_cmp a.deadline b.deadline) (timer_cmp a.timer b.timer)

-- the active timers with their deadlines
abbrev pub pairs : Deadlines → List Due
pairs deadlines = map (λ e. record { deadline = e.1; timer = e.0 }) (finite.entries deadlines)

-- the pairs of a list, each once, in the order of `due_cmp`
unfoldable pub in_order : List Due → List Due
in_order pairs = finite.keys (finite.from_entries {R = due_cmp} (map (λ d. (d, tt {0})) pairs))

-- the timers due at a clock: the pairs with a deadline of at most the clock, in order; IsDue states
-- this without a map
unfoldable pub due : Deadlines → ℕ → List Due
due deadlines clock = in_order (filter (λ d. nat_le d.deadline clock) (pairs deadlines))

-- whether a timer is due at a clock
abbrev pub is_due : Deadlines → ℕ → TimerId → Bool
is_due deadlines clock timer =
    option_map_or (λ d. nat_le d clock) (finite.get deadlines timer) false

-- the map without the due timers
unfoldable pub not_due : Deadlines → ℕ → Deadlines
not_due deadlines clock = finite.retain_keys deadlines (λ timer. not (is_due deadlines clock timer))

-- the answer is the pairs that are due at a clock, each once, in order
pub record IsDue (deadlines : Deadlines) (clock : ℕ) (answer : List Due) : Type 0 where
  pub exactly :
      (d : Due)
      → Contains answer d
      ↔ ((finite.get deadlines d.timer ≡ Some d.deadline) × (d.deadline ≤ clock))
  pub in_order : IsStrictlySortedBy due_cmp answer

-- this holds at each clock, in each map
abbrev pub DueLaw : Type 0
DueLaw = (deadlines : Deadlines) (clock : ℕ) → IsDue deadlines clock (due deadlines clock)
