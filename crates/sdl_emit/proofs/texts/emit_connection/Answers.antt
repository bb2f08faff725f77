use Rattle.std.proofs.Common.{length, ◌++◌, ap, sym, ◌∙◌, append-nil, arith}
use Rattle.sdl_emit.specs.Scopes.{scope_in, places_by}
use Rattle.sdl_meaning.specs.Code.{text_at, text_code}
use Rattle.sdl_emit.proofs.CopiedCode.{copy_is, named_so, size_so, code_so, no_text}
use Rattle.sdl_emit.proofs.texts.emit_connection.Goals as goal

pub emit_text-requires-clause-named : goal.emit_text-requires-clause-named
emit_text-requires-clause-named c =
    let s = scope_in c.args.names.now in
    let n = c.args.number in
    let t = c.in-Some.copy.now in
    named_so s t (text_at s n) (copy_is s c.args.copies.now c.requires.copied n t c.in-Some.ensures.lookup.3.0 c.in-Some.ensures.lookup.1) c.requires.named

pub emit_text-requires-clause-fits : goal.emit_text-requires-clause-fits
emit_text-requires-clause-fits c =
    let s = scope_in c.args.names.now in
    let n = c.args.number in
    let t = c.in-Some.copy.now in
    let same = size_so s t (text_at s n) (copy_is s c.args.copies.now c.requires.copied n t c.in-Some.ensures.lookup.3.0 c.in-Some.ensures.lookup.1) in
    omega (arith, same, c.requires.fits)

pub returns-in_ok-emit_text-in-Some : goal.returns-in_ok-emit_text-in-Some
returns-in_ok-emit_text-in-Some c =
    let s = scope_in c.args.names.now in
    let n = c.args.number in
    let t = c.in-Some.copy.now in
    let old = c.args.code.now.items in
    c.in_ok-emit_text-in-Some.ensures.code
    ∙ ap (λ l. old ++ l) (code_so s t (text_at s n) (copy_is s c.args.copies.now c.requires.copied n t c.in-Some.ensures.lookup.3.0 c.in-Some.ensures.lookup.1) (places_by c.args.places.now) (length old))

pub returns-in-None : goal.returns-in-None
returns-in-None c =
    let s = scope_in c.args.names.now in
    let n = c.args.number in
    let old = c.args.code.now.items in
    sym (ap (λ t. old ++ text_code s (places_by c.args.places.now) (length old) t) (no_text s c.args.copies.now c.requires.copied n c.in-None.ensures.lookup.3) ∙ append-nil old)
