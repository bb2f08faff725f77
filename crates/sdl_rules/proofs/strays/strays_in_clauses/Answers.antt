use Rattle.std.proofs.Common.{subst, take_all, map, List}
use Rattle.std.specs.List.{flat_map}
use Rattle.sdl_ast.specs.declared.tree.StateClause.{StateClause}
use Rattle.sdl_ast.specs.Views.{clause_of}
use Rattle.sdl_rules.specs.Faults.{AreOf, constants_places, clause_constants}
use Rattle.sdl_rules.specs.Views.{sight_of}
use Rattle.sdl_rules.proofs.FaultPlaces.{constants_more}
use Rattle.sdl_rules.proofs.strays.strays_in_clauses.Goals as goal

pub loop-clause-preserved : goal.loop-clause-preserved
loop-clause-preserved c =
    constants_more (sight_of c.args.sight.now) clause_of clause_constants c.args.clauses.now c.loop-clause.clause-index c.clause-item.result c.loop-clause.found c.strays_in_clause.result c.first_of-found.result
    c.loop-clause-test.true c.clause-item.is c.loop-clause.invariant
    c.strays_in_clause.ensures c.first_of-found.ensures

pub returns : goal.returns
returns c =
    subst (λ (l : List StateClause). AreOf (constants_places (sight_of c.args.sight.now) (flat_map clause_constants (map clause_of l))) c.loop-clause.found)
    (take_all c.loop-clause.clause-index c.args.clauses.now c.loop-clause-test.false) c.loop-clause.invariant
