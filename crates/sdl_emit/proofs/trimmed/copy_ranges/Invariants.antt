use Rattle.std.proofs.Common.{◌≡◌, take}
use Rattle.sdl_emit.proofs.trimmed.copy_ranges.Given as goal

abbrev pub invariant-loop-range : goal.invariant-loop-range
invariant-loop-range l = l.copies.items ≡ take l.range-index l.given
