use Rattle.std.proofs.Common.{ℕ, ◌<◌}
use Rattle.turn_check.specs.Walk.{IsValidProcess}
use Rattle.turn_check.proofs.walk.check_processes.Given as goal

abbrev pub invariant-loop-number : goal.invariant-loop-number
invariant-loop-number l = (n : ℕ) → n < l.number → IsValidProcess l.draft n
