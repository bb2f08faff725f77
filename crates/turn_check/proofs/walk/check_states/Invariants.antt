use Rattle.std.proofs.Common.{ℕ, ◌<◌}
use Rattle.turn_code.specs.declared.input.Place.TheVariants.{State}
use Rattle.turn_check.specs.Walk.{IsValidState}
use Rattle.turn_check.proofs.walk.check_states.Given as goal

abbrev pub invariant-loop-place : goal.invariant-loop-place
invariant-loop-place l = (n : ℕ) → n < l.place → IsValidState l.draft l.number.0 (State (record { 0 = n }))
