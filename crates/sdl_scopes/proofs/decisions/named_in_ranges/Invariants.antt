use Rattle.std.proofs.Common.{take}
use Rattle.std.specs.Prelude.{sum_by}
use Rattle.sdl_sound.specs.Decisions.{names_value}
use Rattle.sdl_scopes.specs.Times.{Counted}
use Rattle.sdl_scopes.proofs.decisions.named_in_ranges.Given as goal

abbrev pub invariant-loop-range : goal.invariant-loop-range
invariant-loop-range l = Counted l.times (sum_by (names_value l.value) (take l.range-index l.ranges))
