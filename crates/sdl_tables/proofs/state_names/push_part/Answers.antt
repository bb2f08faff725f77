use Rattle.sdl_ast.specs.Views.{clause_of}
use Rattle.sdl_tables.specs.Rows.{clause_names}
use Rattle.sdl_tables.proofs.Growing.{join_on}
use Rattle.sdl_tables.proofs.state_names.push_part.Goals as goal
use Rattle.plain_laws.proofs.Lists.{mapped_more}

pub loop-clause-preserved : goal.loop-clause-preserved
loop-clause-preserved c =
    join_on (clause_names c.args.which) _ _ _ _ _ _
    (mapped_more clause_of c.deref-clause-items.result.now c.loop-clause.clause-index c.clause-item.result c.loop-clause-test.true c.clause-item.is)
    c.loop-clause.invariant c.in_ok-push_clause.ensures
