use Rattle.std.proofs.Common.{◌≡◌, map, take}
use Rattle.sdl_rules.specs.Expansion.{expanded_range}
use Rattle.sdl_rules.specs.Views.{sight_of}
use Rattle.sdl_rules.proofs.transitions.expand_ranges.Given as goal

abbrev pub invariant-loop-range : goal.invariant-loop-range
invariant-loop-range l =
    l.copies.items ≡ map (expanded_range (sight_of l.sight)) (take l.range-index l.given)
