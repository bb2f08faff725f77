use Rattle.std.proofs.Common.{◌++◌, List, map, subst}
use Rattle.std.specs.List.{flat_map}
use Rattle.sdl_ast.specs.declared.tree.Declaration.{Declaration}
use Rattle.sdl_ast.specs.declared.tree.StatePart.{StatePart}
use Rattle.sdl_ast.specs.declared.tree.Connection.{Connection}
use Rattle.sdl_ast.specs.Views.{text_of, declaration_of, state_of, connection_of}
use Rattle.sdl_rules.specs.Faults.{AreOf, constants_places, text_constants, declaration_constants, state_constants, connection_constants}
use Rattle.sdl_rules.specs.Views.{sight_of}
use Rattle.sdl_rules.proofs.FaultPlaces.{constants_both}
use Rattle.sdl_rules.proofs.strays.strays_in_process.Goals as goal

pub returns : goal.returns
returns c =
    let s = sight_of c.args.sight.now in
    let p = c.args.process.now in
    let ds = flat_map declaration_constants (map declaration_of p.declarations.items) in
    let start = text_constants (text_of p.start.transition) in
    let states = flat_map state_constants (map state_of p.states.items) in
    let connections = flat_map connection_constants (map connection_of p.connections.items) in
    let in_declarations = subst (λ (l : List Declaration). AreOf (constants_places s (flat_map declaration_constants (map declaration_of l))) c.strays_in_declarations-declared.result)
    c.deref.ensures.value c.strays_in_declarations-declared.ensures in
    let in_states = subst (λ (l : List StatePart). AreOf (constants_places s (flat_map state_constants (map state_of l))) c.strays_in_states-states.result)
    c.deref-2.ensures.value c.strays_in_states-states.ensures in
    let in_connections = subst (λ (l : List Connection). AreOf (constants_places s (flat_map connection_constants (map connection_of l))) c.strays_in_connections-connections.result)
    c.deref-3.ensures.value c.strays_in_connections-connections.ensures in
    let bodies = constants_both s states connections c.strays_in_states-states.result c.strays_in_connections-connections.result c.first_of-bodies.result in_states in_connections
    c.first_of-bodies.ensures in
    let rest = constants_both s start (states ++ connections) c.strays_in_transition-start.result c.first_of-bodies.result c.first_of-rest.result c.strays_in_transition-start.ensures
    bodies c.first_of-rest.ensures in
    constants_both s ds (start ++ (states ++ connections)) c.strays_in_declarations-declared.result c.first_of-rest.result c.first_of.result in_declarations rest c.first_of.ensures
