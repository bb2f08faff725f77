use Rattle.std.proofs.Common.{◌≡◌, List, ℕ, subst, arith}
use Rattle.std.specs.Prelude.{OnOk, fold}
use Rattle.sdl_emit.specs.Scopes.{scope_in}
use Rattle.sdl_meaning.specs.Code.{text_at, add_number}
use Rattle.sdl_emit.proofs.Emitting.{each_named}
use Rattle.sdl_emit.proofs.CopiedCode.{copies_length, copy_is, named_so, joined_so}
use Rattle.sdl_emit.proofs.placing.place_more.Goals as goal

pub bounds-copies-number : goal.bounds-copies-number
bounds-copies-number c = let l = copies_length (scope_in c.args.names.now) c.args.copies.now c.requires.copied in omega (arith, l, c.requires.there)

pub place_joined-requires-clause-text : goal.place_joined-requires-clause-text
place_joined-requires-clause-text c =
    let s = scope_in c.args.names.now in
    let n = c.args.number in
    let t = c.index-copies-number.result in
    let l = copies_length s c.args.copies.now c.requires.copied in
    named_so s t (text_at s n) (copy_is s c.args.copies.now c.requires.copied n t (omega (arith, l, c.requires.there)) c.index-copies-number.is) (each_named s c.requires.connections n)

pub returns-clause-placed : goal.returns-clause-placed
returns-clause-placed c =
    let s = scope_in c.args.names.now in
    let n = c.args.number in
    let t = c.index-copies-number.result in
    let l = copies_length s c.args.copies.now c.requires.copied in
    subst (λ (ns : List ℕ). OnOk c.place_joined.result (c.place_joined.new.placed.items ≡ fold add_number c.args.placed.now.items ns))
    (joined_so s t (text_at s n) (copy_is s c.args.copies.now c.requires.copied n t (omega (arith, l, c.requires.there)) c.index-copies-number.is)) c.place_joined.ensures.placed
