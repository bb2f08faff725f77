use Rattle.std.proofs.Common.{map, take}
use Rattle.std.specs.List.{flat_map}
use Rattle.sdl_ast.specs.Views.{group_of}
use Rattle.sdl_rules.specs.Faults.{AreOf, constants_places, group_constants}
use Rattle.sdl_rules.specs.Views.{sight_of}
use Rattle.sdl_rules.proofs.strays.strays_in_groups.Given as goal

abbrev pub invariant-loop-group : goal.invariant-loop-group
invariant-loop-group l =
    AreOf (constants_places (sight_of l.sight) (flat_map group_constants (map group_of (take l.group-index l.groups)))) l.found
