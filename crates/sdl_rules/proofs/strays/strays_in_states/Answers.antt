use Rattle.std.proofs.Common.{subst, take_all, map, List}
use Rattle.std.specs.List.{flat_map}
use Rattle.sdl_ast.specs.declared.tree.StatePart.{StatePart}
use Rattle.sdl_ast.specs.declared.tree.StateClause.{StateClause}
use Rattle.sdl_ast.specs.Views.{state_of, clause_of}
use Rattle.sdl_rules.specs.Faults.{AreOf, constants_places, state_constants, clause_constants}
use Rattle.sdl_rules.specs.Views.{sight_of}
use Rattle.sdl_rules.proofs.FaultPlaces.{constants_more}
use Rattle.sdl_rules.proofs.strays.strays_in_states.Goals as goal

pub loop-part-preserved : goal.loop-part-preserved
loop-part-preserved c =
    constants_more (sight_of c.args.sight.now) state_of state_constants c.args.parts.now c.loop-part.part-index c.part-item.result c.loop-part.found c.strays_in_clauses.result c.first_of-found.result
    c.loop-part-test.true c.part-item.is c.loop-part.invariant
    (subst (λ (l : List StateClause). AreOf (constants_places (sight_of c.args.sight.now) (flat_map clause_constants (map clause_of l))) c.strays_in_clauses.result) c.deref.ensures.value c.strays_in_clauses.ensures) c.first_of-found.ensures

pub returns : goal.returns
returns c =
    subst (λ (l : List StatePart). AreOf (constants_places (sight_of c.args.sight.now) (flat_map state_constants (map state_of l))) c.loop-part.found)
    (take_all c.loop-part.part-index c.args.parts.now c.loop-part-test.false) c.loop-part.invariant
