use Rattle.std.proofs.Common.{[], List, subst, sym}
use Rattle.sdl_ast.specs.Views.{block_of, process_of, text_of, connection_of}
use Rattle.sdl_tables.specs.Scopes.{Marks}
use Rattle.sdl_sound.specs.Statements.{statements_of}
use Rattle.sdl_sound.specs.Actions.{connection_origins}
use Rattle.sdl_scopes.specs.Known.{AreSenders}
use Rattle.sdl_scopes.specs.declared.sender.Sender.{Sender}
use Rattle.sdl_rules.proofs.Backward.{lost_same}
use Rattle.sdl_rules.proofs.lost.lost_in_connection.Goals as goal

pub returns-clause-place : goal.returns-clause-place
returns-clause-place c =
    let b = block_of c.args.block.now in
    let p = process_of c.args.process.now in
    let os = connection_origins p (connection_of c.args.connection.now) in
    let ss = statements_of (text_of c.args.connection.now.transition) in
    subst (Marks c.in_transition.result) (lost_same b p os ss (c.sends_back.ensures c.if-sends_back.false)) (c.in_transition.ensures [] (c.none-none.ensures b p))

pub returns-then-sends_back-clause-backs : goal.returns-then-sends_back-clause-backs
returns-then-sends_back-clause-backs c =
    let b = block_of c.args.block.now in
    let p = process_of c.args.process.now in
    let here = connection_of c.args.connection.now in
    c.in_ok-lost.ensures.backs (connection_origins p here)
    (subst (λ (l : List Sender). AreSenders b p l (connection_origins p here)) (sym c.in_ok-senders.ensures) (c.requires.sent c.args.number here c.requires.connection))
