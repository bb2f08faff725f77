use Rattle.sdl_ast.specs.Views.{block_of, process_of, connection_of}
use Rattle.sdl_sound.specs.Actions.{in_connection}
use Rattle.sdl_rules.specs.Asked.{asked}
use Rattle.sdl_sound.proofs.Places.{Marks-more}
use Rattle.sdl_rules.proofs.statements.in_connections.Goals as goal

pub loop-connection-preserved : goal.loop-connection-preserved
loop-connection-preserved c =
    let p = process_of c.args.process.now in
    Marks-more (in_connection (asked c.args.rule (block_of c.args.block.now) p) p) connection_of c.args.connections.now c.loop-connection.connection-index
    c.connection-item.result c.loop-connection.place c.in_connection.result c.earlier-place.result c.loop-connection-test.true c.connection-item.is
    c.loop-connection.invariant c.in_connection.ensures c.earlier-place.ensures
