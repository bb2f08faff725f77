use Rattle.std.proofs.Common.{ℕ, ◌<◌}
use Rattle.std.specs.Prelude.{slice_get}
use Rattle.turn_check.specs.Named.{timer_names, IsNamed}
use Rattle.turn_check.proofs.verified.Verified.timer_of.Given as goal

abbrev pub invariant-loop-number : goal.invariant-loop-number
invariant-loop-number l = (n : ℕ) → n < l.number → IsNamed (slice_get (timer_names l.self l.process.0) n) l.name → ⊥
