use Rattle.std.proofs.Common.{◌≡◌, ◌<◌, ◌≤◌, ◌-◌, ℕ, Some, true, false, length}
use Rattle.std.specs.Prelude.{slice_get}
use Rattle.std.specs.Option.{option_map_or}
use Rattle.sdl_measures.specs.Searched.{is_done}
use Rattle.sdl_measures.proofs.graph.skip.Given as goal

abbrev pub invariant-loop-next : goal.invariant-loop-next
invariant-loop-next l = (k n : ℕ) → l.from ≤ k → k < l.next → slice_get l.nodes k ≡ Some n → option_map_or is_done (slice_get l.marks n) false ≡ true

abbrev pub decreases-loop-next : goal.decreases-loop-next
decreases-loop-next l = length l.nodes - l.next
