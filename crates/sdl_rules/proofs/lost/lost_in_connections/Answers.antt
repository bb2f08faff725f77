use Rattle.std.proofs.Common.{◌∙◌, sym, ap, subst, slice_get, Some, List}
use Rattle.std.specs.Option.{option_map}
use Rattle.std.proofs.lemmas.Option.{slice_get-get_or, slice_get-map}
use Rattle.sdl_ast.specs.Plain.{PlainConnection}
use Rattle.sdl_ast.specs.Views.{block_of, process_of, connection_of}
use Rattle.sdl_sound.specs.Actions.{in_connection}
use Rattle.sdl_rules.specs.Asked.{asked}
use Rattle.sdl_rules.specs.Reached.{AreSent}
use Rattle.sdl_scopes.specs.declared.sent.Sent.{Sent}
use Rattle.sdl_rules.specs.declared.statements.StatementRule.TheVariants.{Receivers}
use Rattle.sdl_sound.proofs.Places.{Marks-more}
use Rattle.sdl_rules.proofs.lost.lost_in_connections.Goals as goal

pub lost_in_connection-requires-clause-sent : goal.lost_in_connection-requires-clause-sent
lost_in_connection-requires-clause-sent c =
    let b = block_of c.args.block.now in
    subst (λ (l : List Sent). AreSent b (process_of c.args.process.now) l) (sym c.deref.ensures.value) (c.in_ok-sent.ensures b c.requires.table)

pub lost_in_connection-requires-clause-connection : goal.lost_in_connection-requires-clause-connection
lost_in_connection-requires-clause-connection c =
    let n = c.loop-number.number in
    let item = c.index-connections-number.result in
    ap (λ (l : List PlainConnection). slice_get l n) (sym c.requires.connections)
    ∙ (slice_get-map connection_of c.args.connections.now n
    ∙ ap (option_map connection_of) (slice_get-get_or c.args.connections.now n item c.loop-number-test.true ∙ ap Some (sym c.index-connections-number.is)))

pub loop-number-preserved : goal.loop-number-preserved
loop-number-preserved c =
    let b = block_of c.args.block.now in
    let p = process_of c.args.process.now in (
      Marks-more (in_connection (asked Receivers b p) p) connection_of c.args.connections.now c.loop-number.number c.index-connections-number.result
          c.loop-number.place c.in_ok-lost.lost c.earlier-place.result c.loop-number-test.true c.index-connections-number.is c.loop-number.invariant.0
          c.in_ok-lost.ensures.place c.earlier-place.ensures,
      c.in_ok-lost.ensures.backs,
    )
