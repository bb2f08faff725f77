use Rattle.std.proofs.Common.{length, ◌++◌, ap, ◌∙◌, arith}
use Rattle.sdl_ast.specs.Views.{text_of}
use Rattle.sdl_emit.specs.Scopes.{scope_in, places_by, piece_in}
use Rattle.sdl_meaning.specs.Code.{places_code}
use Rattle.sdl_emit.proofs.Emitting.{each_named, text_fits, connections_follow, piece_whole}
use Rattle.sdl_emit.proofs.CopiedCode.{named_so, size_so, code_so}
use Rattle.sdl_emit.proofs.texts.emit_piece.Goals as goal

pub returns : goal.returns
returns c =
    piece_whole (scope_in c.args.names.now) (piece_in c.args.places.now c.args.body.now.whole.now) (places_by c.args.targets.now) c.args.numbers.now c.requires.placed c.requires.fits c.emit_places.new.code.items (c.in_ok-emit_places.ensures ∙ ap (λ l. l ++ places_code (scope_in c.args.names.now) 0 c.args.places.now) c.new-code.ensures.items)
    c.emit_text.new.code.items (c.in_ok-emit_text.ensures.code ∙ ap (λ l. c.emit_places.new.code.items ++ l)
    (code_so (scope_in c.args.names.now) c.args.body.now.copy.now (text_of c.args.body.now.whole.now) c.requires.body (places_by c.args.targets.now) (length c.emit_places.new.code.items))) c.emit_connections.new.code.items c.in_ok-emit_connections.ensures

pub emit_text-requires-clause-named : goal.emit_text-requires-clause-named
emit_text-requires-clause-named c = named_so (scope_in c.args.names.now) c.args.body.now.copy.now (text_of c.args.body.now.whole.now) c.requires.body c.requires.named.text.text

pub emit_text-requires-clause-fits : goal.emit_text-requires-clause-fits
emit_text-requires-clause-fits c =
    let same = size_so (scope_in c.args.names.now) c.args.body.now.copy.now (text_of c.args.body.now.whole.now) c.requires.body in
    let fits = text_fits (scope_in c.args.names.now) (piece_in c.args.places.now c.args.body.now.whole.now) (places_by c.args.targets.now) c.args.numbers.now c.requires.placed c.requires.fits c.emit_places.new.code.items (c.in_ok-emit_places.ensures ∙ ap (λ l. l ++ places_code (scope_in c.args.names.now) 0 c.args.places.now) c.new-code.ensures.items) in
    omega (arith, same, fits)

pub emit_connections-requires-clause-named : goal.emit_connections-requires-clause-named
emit_connections-requires-clause-named c = each_named (scope_in c.args.names.now) c.requires.named.connections

pub emit_connections-requires-clause-fits : goal.emit_connections-requires-clause-fits
emit_connections-requires-clause-fits c =
    connections_follow (scope_in c.args.names.now) (piece_in c.args.places.now c.args.body.now.whole.now) (places_by c.args.targets.now) c.args.numbers.now c.requires.placed c.requires.fits c.emit_places.new.code.items (c.in_ok-emit_places.ensures ∙ ap (λ l. l ++ places_code (scope_in c.args.names.now) 0 c.args.places.now) c.new-code.ensures.items)
    c.emit_text.new.code.items (c.in_ok-emit_text.ensures.code ∙ ap (λ l. c.emit_places.new.code.items ++ l)
    (code_so (scope_in c.args.names.now) c.args.body.now.copy.now (text_of c.args.body.now.whole.now) c.requires.body (places_by c.args.targets.now) (length c.emit_places.new.code.items)))
