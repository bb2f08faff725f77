use Rattle.std.proofs.Common.{false, take, ◌≡◌}
use Rattle.sdl_warnings.specs.Values.{has_value}
use Rattle.std.specs.List.{list_any}
use Rattle.sdl_warnings.proofs.values.have_value.Given as goal

abbrev pub invariant-loop-range : goal.invariant-loop-range
invariant-loop-range l =
    list_any (has_value l.value) (take l.range-index l.ranges) ≡ false
