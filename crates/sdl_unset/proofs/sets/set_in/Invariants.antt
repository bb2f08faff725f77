use Rattle.std.proofs.Common.{◌≡◌, ℕ, take}
use Rattle.std.specs.Int.{bit_at}
use Rattle.sdl_unset.specs.Fates.{set_bit}
use Rattle.sdl_unset.proofs.sets.set_in.Given as goal

abbrev pub invariant-loop-variable : goal.invariant-loop-variable
invariant-loop-variable l = (v : ℕ) → bit_at l.set v ≡ set_bit (take l.variable l.fates) l.state v
