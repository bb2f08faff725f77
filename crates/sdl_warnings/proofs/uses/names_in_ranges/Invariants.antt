use Rattle.std.proofs.Common.{take, ◌≡◌}
use Rattle.std.specs.List.{list_any}
use Rattle.sdl_warnings.specs.Warned.{range_names}
use Rattle.sdl_warnings.proofs.uses.names_in_ranges.Given as goal

abbrev pub invariant-loop-range : goal.invariant-loop-range
invariant-loop-range l =
    l.any ≡ list_any (range_names l.name) (take l.range-index l.ranges)
