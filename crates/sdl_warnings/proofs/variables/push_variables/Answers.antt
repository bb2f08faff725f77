use Rattle.sdl_ast.specs.Views.{process_of}
use Rattle.sdl_tables.proofs.Growing.{join_on}
use Rattle.plain_laws.proofs.Lists.{mapped_more}
use Rattle.sdl_tables.specs.declared.process_table.Variable as row
use Rattle.sdl_warnings.specs.Warned.{unread_variable}
use Rattle.sdl_warnings.proofs.variables.push_variables.Goals as goal

pub loop-variable-preserved : goal.loop-variable-preserved
loop-variable-preserved c =
    join_on (unread_variable (process_of c.args.process.now)) _ _ _ _ _ _
    (mapped_more (λ (v : row.Variable). v.name) c.args.variables.now c.loop-variable.variable-index c.variable-item.result c.loop-variable-test.true c.variable-item.is)
    c.loop-variable.invariant c.in_ok-push_variable.ensures
