use Rattle.std.proofs.Common.{map, take_all, ap, ◌∙◌, List}
use Rattle.sdl_ast.specs.declared.tree.StateClause.{StateClause}
use Rattle.sdl_ast.specs.Views.{clause_of}
use Rattle.sdl_rules.specs.Expansion.{expanded_clause}
use Rattle.sdl_rules.specs.Views.{sight_of}
use Rattle.sdl_rules.proofs.Copying.{one_more}
use Rattle.sdl_rules.proofs.processes.expand_clauses.Goals as goal

pub loop-clause-preserved : goal.loop-clause-preserved
loop-clause-preserved c =
    one_more clause_of (expanded_clause (sight_of c.args.sight.now)) c.args.given.now c.loop-clause.copies.items _ c.loop-clause.clause-index c.clause-item.result _ c.loop-clause-test.true c.clause-item.is
    c.loop-clause.invariant c.in_ok-push.ensures.items c.in_ok-expand_clause.ensures

pub returns : goal.returns
returns c = c.loop-clause.invariant ∙ ap (λ (l : List StateClause). map (expanded_clause (sight_of c.args.sight.now)) (map clause_of l)) (take_all c.loop-clause.clause-index c.args.given.now c.loop-clause-test.false)
