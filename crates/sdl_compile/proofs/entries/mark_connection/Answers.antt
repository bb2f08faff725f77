use Rattle.std.proofs.Common.{◌++◌, sym, ap, ◌∙◌, append-nil}
use Rattle.sdl_ast.specs.Views.{text_of}
use Rattle.sdl_emit.specs.Scopes.{scope_in}
use Rattle.sdl_meaning.specs.Code.{text_at}
use Rattle.sdl_compile.specs.Entries.{entry_at}
use Rattle.sdl_compile.specs.Facts.{text_sets}
use Rattle.sdl_emit.proofs.Emitting.{each_named}
use Rattle.sdl_emit.proofs.CopiedCode.{copy_is, named_so, no_text}
use Rattle.sdl_compile.proofs.CopiedSets.{sets_so}
use Rattle.sdl_compile.proofs.entries.mark_connection.Goals as goal

pub mark_text-requires : goal.mark_text-requires
mark_text-requires c =
    let s = scope_in c.args.names.now in
    let n = c.args.number in
    let t = c.in-Some.copy.now in
    named_so s t (text_at s n) (copy_is s c.args.copies.now c.requires.copied n t c.in-Some.ensures.lookup.3.0 c.in-Some.ensures.lookup.1) (each_named s c.requires.connections n)

pub returns-in_ok-mark_text : goal.returns-in_ok-mark_text
returns-in_ok-mark_text c =
    let s = scope_in c.args.names.now in
    let n = c.args.number in
    let t = c.in-Some.copy.now in
    let old = c.args.sets.now.items in
    c.in_ok-mark_text.ensures.sets ∙ ap (λ m. old ++ text_sets s m (text_of t)) c.entry_of-set.ensures
    ∙ ap (λ l. old ++ l) (sets_so s t (text_at s n) (copy_is s c.args.copies.now c.requires.copied n t c.in-Some.ensures.lookup.3.0 c.in-Some.ensures.lookup.1) (entry_at c.args.entries.now n))

pub returns-in_default : goal.returns-in_default
returns-in_default c =
    let s = scope_in c.args.names.now in
    let n = c.args.number in
    let old = c.args.sets.now.items in
    sym (ap (λ t. old ++ text_sets s (entry_at c.args.entries.now n) t) (no_text s c.args.copies.now c.requires.copied n c.in_default.ensures.lookup.3) ∙ append-nil old)
