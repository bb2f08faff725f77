use Rattle.std.proofs.Common.{◌≡◌, drop}
use Rattle.std.specs.List.{list_any}
use Rattle.sdl_meaning.specs.Code.{names_truth}
use Rattle.sdl_emit.proofs.landing.any_names.Given as goal

abbrev pub invariant-loop-range : goal.invariant-loop-range
invariant-loop-range l = list_any (names_truth l.value) l.ranges ≡ list_any (names_truth l.value) (drop l.range-index l.ranges)
