use Rattle.std.proofs.Common.{subst, take_all, map, List}
use Rattle.std.specs.List.{flat_map}
use Rattle.sdl_ast.specs.declared.tree.Connection.{Connection}
use Rattle.sdl_ast.specs.Views.{connection_of}
use Rattle.sdl_rules.specs.Faults.{AreOf, constants_places, connection_constants}
use Rattle.sdl_rules.specs.Views.{sight_of}
use Rattle.sdl_rules.proofs.FaultPlaces.{constants_more}
use Rattle.sdl_rules.proofs.strays.strays_in_connections.Goals as goal

pub loop-connection-preserved : goal.loop-connection-preserved
loop-connection-preserved c =
    constants_more (sight_of c.args.sight.now) connection_of connection_constants c.args.connections.now c.loop-connection.connection-index c.connection-item.result c.loop-connection.found c.strays_in_transition.result c.first_of-found.result
    c.loop-connection-test.true c.connection-item.is c.loop-connection.invariant
    c.strays_in_transition.ensures c.first_of-found.ensures

pub returns : goal.returns
returns c =
    subst (λ (l : List Connection). AreOf (constants_places (sight_of c.args.sight.now) (flat_map connection_constants (map connection_of l))) c.loop-connection.found)
    (take_all c.loop-connection.connection-index c.args.connections.now c.loop-connection-test.false) c.loop-connection.invariant
