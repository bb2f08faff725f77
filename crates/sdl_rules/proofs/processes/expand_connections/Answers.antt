use Rattle.std.proofs.Common.{map, take_all, ap, ◌∙◌, List}
use Rattle.sdl_ast.specs.declared.tree.Connection.{Connection}
use Rattle.sdl_ast.specs.Views.{connection_of}
use Rattle.sdl_rules.specs.Expansion.{expanded_connection}
use Rattle.sdl_rules.specs.Views.{sight_of}
use Rattle.sdl_ast.specs.Plain.{Text, PlainConnection}
use Rattle.sdl_rules.proofs.Copying.{one_more}
use Rattle.sdl_rules.proofs.processes.expand_connections.Goals as goal

pub loop-connection-preserved : goal.loop-connection-preserved
loop-connection-preserved c =
    let make : Text → PlainConnection = λ t. record { at = c.connection-item.result.at; name = c.connection-item.result.name; text = t } in
    one_more connection_of (expanded_connection (sight_of c.args.sight.now)) c.args.given.now c.loop-connection.copies.items _ c.loop-connection.connection-index c.connection-item.result _ c.loop-connection-test.true c.connection-item.is
    c.loop-connection.invariant c.in_ok-push.ensures.items (ap make c.in_ok-expand_transition.ensures)

pub returns : goal.returns
returns c = c.loop-connection.invariant ∙ ap (λ (l : List Connection). map (expanded_connection (sight_of c.args.sight.now)) (map connection_of l)) (take_all c.loop-connection.connection-index c.args.given.now c.loop-connection-test.false)
