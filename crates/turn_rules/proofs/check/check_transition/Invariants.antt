use Rattle.std.proofs.Common.{ℕ, ◌<◌}
use Rattle.turn_rules.specs.Seen.{seen}
use Rattle.turn_rules.specs.Parts.{HasParts}
use Rattle.turn_rules.proofs.check.check_transition.Given as goal

abbrev pub invariant-loop-place : goal.invariant-loop-place
invariant-loop-place l = (n : ℕ) → n < l.place → HasParts l.draft (seen l.transition) n
