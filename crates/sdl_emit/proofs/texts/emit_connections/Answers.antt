use Rattle.std.proofs.Common.{length, ◌++◌}
use Rattle.std.specs.Prelude.{get_or}
use Rattle.std.proofs.lemmas.List.{get_or_default}
use Rattle.sdl_emit.specs.Scopes.{scope_in, places_by}
use Rattle.sdl_meaning.specs.Code.{connections_code}
use Rattle.sdl_emit.proofs.Emitting.{connections_more, connections_fit}
use Rattle.sdl_emit.proofs.texts.emit_connections.Goals as goal

pub loop-number-preserved : goal.loop-number-preserved
loop-number-preserved c =
    let s = scope_in c.args.names.now in
    let to = places_by c.args.places.now in
    let ns = c.args.numbers.now in
    let i = c.loop-number.number-index in
    let n = get_or ns i 0 in
    let old = c.loop-number.code.items in
    let new = c.emit_connection.new.code.items in
    record {
      code = connections_more s to ns i n c.loop-number-test.true (get_or_default ns i 0 n c.loop-number-test.true) old new c.in_ok-emit_connection.ensures (c.args.code.now.items ++ connections_code s to (length c.args.code.now.items) ns) c.loop-number.invariant.code;
      fits = connections_fit s to ns i n c.loop-number-test.true (get_or_default ns i 0 n c.loop-number-test.true) old new c.in_ok-emit_connection.ensures c.loop-number.invariant.fits;
    }
