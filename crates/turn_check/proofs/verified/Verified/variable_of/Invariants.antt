use Rattle.std.proofs.Common.{ℕ, ◌<◌}
use Rattle.std.specs.Prelude.{slice_get}
use Rattle.turn_check.specs.Named.{variable_names, IsNamed}
use Rattle.turn_check.proofs.verified.Verified.variable_of.Given as goal

abbrev pub invariant-loop-number : goal.invariant-loop-number
invariant-loop-number l = (n : ℕ) → n < l.number → IsNamed (slice_get (variable_names l.self l.process.0) n) l.name → ⊥
