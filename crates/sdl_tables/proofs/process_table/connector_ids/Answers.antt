use Rattle.std.proofs.Common.{[]}
use Rattle.sdl_ast.specs.Plain.{PlainConnection}
use Rattle.sdl_ast.specs.Views.{connection_of}
use Rattle.sdl_tables.proofs.Growing.{map_on}
use Rattle.sdl_tables.proofs.process_table.connector_ids.Goals as goal
use Rattle.plain_laws.proofs.Lists.{mapped_more}

pub loop-connection-preserved : goal.loop-connection-preserved
loop-connection-preserved c =
    map_on (λ (p : PlainConnection). p.name) [] _ _ _ _ _
    (mapped_more connection_of c.args.connections.now c.loop-connection.connection-index c.connection-item.result c.loop-connection-test.true c.connection-item.is)
    c.loop-connection.invariant c.in_ok-push.ensures.items
