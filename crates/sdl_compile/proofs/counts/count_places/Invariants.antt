use Rattle.std.proofs.Common.{◌≤◌, length}
use Rattle.sdl_compile.specs.PlaceCounts.{weight}
use Rattle.sdl_compile.proofs.Passes.{HasCounted}
use Rattle.sdl_compile.proofs.counts.count_places.Given as goal

abbrev pub invariant-loop-place : goal.invariant-loop-place
invariant-loop-place l = record {
  counted : HasCounted (weight l.counted) l.fn.known.items l.code l.counts.items l.place;
  within : l.place ≤ length l.code;
}

abbrev pub decreases-loop-place : goal.decreases-loop-place
decreases-loop-place l = l.place
