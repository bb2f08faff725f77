use Rattle.sdl_ast.specs.Views.{process_of}
use Rattle.sdl_tables.specs.Names.{variables_of}
use Rattle.sdl_scopes.proofs.Pairs.{sort-none, sort-some}
use Rattle.sdl_scopes.proofs.sorts.variable_sort.Goals as goal

pub returns-in-None : goal.returns-in-None
returns-in-None c =
    sort-none (variables_of (process_of c.args.process.now)) c.args.name c.variables.result.now c.variables.ensures c.in-None.ensures.number

pub returns-then-number-rows : goal.returns-then-number-rows
returns-then-number-rows c =
    sort-some (variables_of (process_of c.args.process.now)) c.args.name c.variables.result.now c.in-Some.number c.rows-rows.result.now
    c.index-rows-number.result c.variables.ensures c.in-Some.ensures.number c.rows-rows.ensures c.if-number-rows.true
