use Rattle.std.proofs.Common.{ℕ, ◌<◌}
use Rattle.turn_code.specs.declared.input.Place.TheVariants.{State}
use Rattle.turn_check.specs.Walk.{IsValidAt}
use Rattle.turn_check.proofs.walk.check_state.Given as goal

abbrev pub invariant-loop-input : goal.invariant-loop-input
invariant-loop-input l = (n : ℕ) → n < l.input → IsValidAt l.draft l.number.0 (State l.place) n
