use Rattle.std.proofs.Common.{[], subst}
use Rattle.sdl_ast.specs.Views.{block_of, process_of, connection_of}
use Rattle.sdl_tables.specs.Scopes.{Marks}
use Rattle.sdl_sound.specs.Actions.{connection_origins}
use Rattle.sdl_sound.specs.Statements.{statements_of}
use Rattle.sdl_rules.proofs.Asking.{asked_without}
use Rattle.sdl_rules.proofs.statements.in_connection.Goals as goal

pub returns : goal.returns
returns c =
    let b = block_of c.args.block.now in
    let p = process_of c.args.process.now in
    let x = connection_of c.args.connection.now in
    subst (Marks c.in_transition.result) (asked_without c.args.rule b p (connection_origins p x) (statements_of x.text) c.requires) (c.in_transition.ensures [] (c.none-from.ensures b p))
