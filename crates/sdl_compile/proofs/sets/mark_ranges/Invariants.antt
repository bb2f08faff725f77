use Rattle.std.proofs.Common.{◌≡◌, ◌++◌, drop}
use Rattle.sdl_compile.specs.Facts.{ranges_sets}
use Rattle.sdl_compile.proofs.sets.mark_ranges.Given as goal

abbrev pub invariant-loop-range : goal.invariant-loop-range
invariant-loop-range l = l.sets.items ++ ranges_sets l.set (drop l._range-index l.ranges) ≡ l.initial.sets.items ++ ranges_sets l.set l.ranges
