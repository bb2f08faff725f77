use Rattle.std.proofs.Common.{ℕ, ◌<◌}
use Rattle.std.specs.Prelude.{slice_get}
use Rattle.turn_check.specs.Named.{process_names, IsNamed}
use Rattle.turn_check.proofs.verified.Verified.process_of.Given as goal

abbrev pub invariant-loop-number : goal.invariant-loop-number
invariant-loop-number l = (n : ℕ) → n < l.number → IsNamed (slice_get (process_names l.self) n) l.name → ⊥
