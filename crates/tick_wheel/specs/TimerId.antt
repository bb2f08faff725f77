-- The identity of a timer: its actor, and its number there.
use Rattle.std.specs.Prelude.{ℕ}
use Rattle.std.specs.declared.cmp.Ordering.{Ordering}
use Rattle.std.specs.Ordering.{nat_cmp, ordering_then}

pub record TimerId : Type 0 where
  pub actor : ℕ
  pub number : ℕ

-- ordered by actor, and then by number
abbrev pub timer_cmp : TimerId → TimerId → Ordering
timer_cmp a b = ordering_then (nat_cmp a.actor b.actor) (nat_cmp a.number b.number)
