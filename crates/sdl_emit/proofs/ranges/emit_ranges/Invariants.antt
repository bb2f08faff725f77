use Rattle.std.proofs.Common.{◌≡◌, ◌++◌, drop}
use Rattle.sdl_meaning.specs.Code.{ranges_code}
use Rattle.sdl_emit.proofs.ranges.emit_ranges.Given as goal

abbrev pub invariant-loop-range : goal.invariant-loop-range
invariant-loop-range l = l.code.items ++ ranges_code l.place.0 (drop l.range-index l.ranges) ≡ l.initial.code.items ++ ranges_code l.place.0 l.ranges
