use Rattle.std.proofs.Common.{◌≡◌, ℕ, length}
use Rattle.sdl_unset.specs.Flows.{mask_at}
use Rattle.sdl_unset.proofs.walker.empty_masks.Given as goal

abbrev pub invariant-loop-state : goal.invariant-loop-state
invariant-loop-state l = (length l.masks.items ≡ l._state) × ((q : ℕ) → mask_at l.masks.items q ≡ 0)
