use Rattle.std.proofs.Common.{take}
use Rattle.std.specs.List.{flat_map}
use Rattle.sdl_rules.specs.Faults.{AreOf, constants_places, range_constants}
use Rattle.sdl_rules.specs.Views.{sight_of}
use Rattle.sdl_rules.proofs.strays.strays_in_ranges.Given as goal

abbrev pub invariant-loop-range : goal.invariant-loop-range
invariant-loop-range l =
    AreOf (constants_places (sight_of l.sight) (flat_map range_constants (take l.range-index l.ranges))) l.found
