use Rattle.sdl_ast.specs.declared.expression.Identifier.{Identifier}
use Rattle.sdl_tables.specs.Names.{Variable}
use Rattle.sdl_tables.specs.Rows.{variable_of}
use Rattle.sdl_tables.proofs.Growing.{taken_more, map_on, pushed}
use Rattle.sdl_tables.proofs.process_table.push_group.Goals as goal

pub loop-name-preserved : goal.loop-name-preserved
loop-name-preserved c =
    let as_declared = λ (id : Identifier). let v : Variable = record { name = id; sort = c.args.group.now.sort; initial = c.args.group.now.initial } in v in
    map_on as_declared _ _ _ _ _ c.name-item.result (taken_more _ c.loop-name.name-index c.name-item.result c.loop-name-test.true c.name-item.is)
    c.loop-name.invariant (pushed variable_of _ _ _ c.in_ok-push.ensures.items)
