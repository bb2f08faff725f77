-- A wheel: its timers, the timers due last, and the number of timers it has looked at.
use Rattle.std.specs.Prelude.{ℕ, ◌+◌, ◌-◌, ◌%◌, ◌^◌, Bool, nat_eq, List, count_by, refl}
use Rattle.std.specs.List.{list_any, range_with_len}
use Rattle.std.specs.Coded.{Coded, code_by, coded×, coded_ℕ, coded_list}
use Rattle.std.specs.FinMap as finite
use Rattle.tick_wheel.specs.Sizes.{SLOTS}
use Rattle.tick_wheel.specs.TimerId.{TimerId}
use Rattle.tick_wheel.specs.Timers.{Deadlines, Timers, timer_id_code, pairs}
use Rattle.tick_wheel.specs.declared.Due.{Due}

-- the clock and the deadlines, the timers that the last accepted `advance` found due, and how many
-- timers all calls looked at
pub record Turning : Type 0 where
  pub clock : ℕ
  pub deadlines : Deadlines
  pub due : List Due
  pub looked : ℕ

-- only the timers
abbrev pub timers_of : Turning → Timers
timers_of t = record { clock = t.clock; deadlines = t.deadlines }

-- a due timer encoded as the pair of its parts
abbrev pub due_code : Coded Due
due_code = code_by (ℕ
    × TimerId) (coded× coded_ℕ timer_id_code) (λ d. (d.deadline, d.timer))
    (λ p. record { deadline = p.0; timer = p.1 }) (λ _. refl)

-- encoded as its parts
abbrev pub turning_code : Coded Turning
turning_code =
    code_by ((ℕ × Deadlines)
    × (List Due
    × ℕ)) (coded× (coded× coded_ℕ (finite.code timer_id_code coded_ℕ))
    (coded× (coded_list due_code) coded_ℕ)) (λ t. ((t.clock, t.deadlines), (t.due, t.looked)))
    (λ p. record { clock = p.0.0; deadlines = p.0.1; due = p.1.0; looked = p.1.1 }) (λ _. refl)

-- the greatest value of `looked`
abbrev pub MOST_LOOKED : ℕ
MOST_LOOKED = 2 ^ 64 - 1

-- whether a deadline is congruent, modulo the number of slots, to one of the next clocks, as many
-- as the ticks
unfoldable pub is_near : ℕ → ℕ → ℕ → Bool
is_near clock ticks deadline =
    list_any (λ step. nat_eq (deadline % SLOTS) ((clock + step) % SLOTS)) (range_with_len 1 ticks)

-- how many active timers have such a deadline
unfoldable pub near_count : Deadlines → ℕ → ℕ → ℕ
near_count deadlines clock ticks = count_by (λ d. is_near clock ticks d.deadline) (pairs deadlines)
