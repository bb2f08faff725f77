use Rattle.std.proofs.Common.{map, take}
use Rattle.std.specs.List.{flat_map}
use Rattle.sdl_ast.specs.Views.{state_of}
use Rattle.sdl_rules.specs.Faults.{AreOf, constants_places, state_constants}
use Rattle.sdl_rules.specs.Views.{sight_of}
use Rattle.sdl_rules.proofs.strays.strays_in_states.Given as goal

abbrev pub invariant-loop-part : goal.invariant-loop-part
invariant-loop-part l =
    AreOf (constants_places (sight_of l.sight) (flat_map state_constants (map state_of (take l.part-index l.parts)))) l.found
