use Rattle.std.proofs.Common.{◌≡◌, ◌<◌, ◌≤◌, ℕ, length}
use lib.Bits.{bit_and, bit_or}
use Rattle.sdl_unset.specs.Flows.{mask_at}
use Rattle.sdl_unset.proofs.walker.add_masks.Given as goal

abbrev pub invariant-loop-state : goal.invariant-loop-state
invariant-loop-state l =
    (length l.masks.items ≡ length l.initial.masks.items)
    × ((q : ℕ) → q < l.state → mask_at l.masks.items q ≡ bit_or (mask_at l.initial.masks.items q) (bit_and l.keeps (mask_at l.others q)))
    × ((q : ℕ) → l.state ≤ q → mask_at l.masks.items q ≡ mask_at l.initial.masks.items q)
