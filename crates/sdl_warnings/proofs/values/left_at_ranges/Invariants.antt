use Rattle.std.proofs.Common.{take, true, ◌≡◌}
use Rattle.sdl_warnings.specs.Bounds.{none_at_range}
use Rattle.sdl_warnings.specs.Values.{is_left}
use Rattle.std.specs.List.{list_all}
use Rattle.sdl_warnings.proofs.values.left_at_ranges.Given as goal

abbrev pub invariant-loop-range : goal.invariant-loop-range
invariant-loop-range l =
    list_all (none_at_range (is_left l.earlier l.own)) (take l.range-index l.ranges) ≡ true
