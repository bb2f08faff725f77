use Rattle.std.proofs.Common.{◌≡◌, min}
use Rattle.sdl_measures.proofs.measures.count_ranges.Given as goal

abbrev pub invariant-loop-range : goal.invariant-loop-range
invariant-loop-range l = l.count ≡ min l._range-index 4294967295
