use Rattle.std.proofs.Common.{map, take}
use Rattle.std.specs.List.{flat_map}
use Rattle.sdl_ast.specs.Views.{connection_of}
use Rattle.sdl_rules.specs.Faults.{AreOf, constants_places, connection_constants}
use Rattle.sdl_rules.specs.Views.{sight_of}
use Rattle.sdl_rules.proofs.strays.strays_in_connections.Given as goal

abbrev pub invariant-loop-connection : goal.invariant-loop-connection
invariant-loop-connection l =
    AreOf (constants_places (sight_of l.sight) (flat_map connection_constants (map connection_of (take l.connection-index l.connections)))) l.found
