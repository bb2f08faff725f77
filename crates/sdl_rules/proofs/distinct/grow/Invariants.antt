use Rattle.std.proofs.Common.{◌≡◌, ◌+◌, ◌-◌, ℕ, length}
use Rattle.sdl_scopes.specs.Reaches.{is_marked}
use Rattle.sdl_rules.proofs.distinct.grow.Given as goal

abbrev pub invariant-loop-marks : goal.invariant-loop-marks
invariant-loop-marks l = (n : ℕ) → is_marked l.marks.items n ≡ is_marked l.initial.marks.items n

abbrev pub decreases-loop-marks : goal.decreases-loop-marks
decreases-loop-marks l = l.last + 1 - length l.marks.items
