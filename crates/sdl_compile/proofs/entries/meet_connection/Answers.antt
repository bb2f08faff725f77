use Rattle.std.proofs.Common.{ap, ◌∙◌}
use Rattle.sdl_ast.specs.Views.{text_of}
use Rattle.sdl_emit.specs.Scopes.{scope_in}
use Rattle.sdl_meaning.specs.Code.{text_at}
use Rattle.sdl_compile.specs.Entries.{entry_at, met}
use Rattle.sdl_emit.proofs.Emitting.{each_named}
use Rattle.sdl_emit.proofs.CopiedCode.{copy_is, named_so}
use Rattle.sdl_compile.proofs.CopiedSets.{copy_met, no_met}
use Rattle.sdl_compile.proofs.entries.meet_connection.Goals as goal

pub mark_text-requires : goal.mark_text-requires
mark_text-requires c =
    let s = scope_in c.args.names.now in
    let n = c.args.number in
    let t = c.in-Some.copy.now in
    named_so s t (text_at s n) (copy_is s c.args.copies.now c.requires.copied n t c.in-Some.ensures.lookup.3.0 c.in-Some.ensures.lookup.1) (each_named s c.requires.connections n)

pub returns-in_ok-mark_text : goal.returns-in_ok-mark_text
returns-in_ok-mark_text c =
    let s = scope_in c.args.names.now in
    let n = c.args.number in
    let t = c.in-Some.copy.now in
    let es = c.args.entries.now.items in
    copy_met s c.args.copies.now c.requires.copied n t c.in-Some.ensures.lookup.3.0 c.in-Some.ensures.lookup.1 es c.mark_text.new.entries.items
    (c.in_ok-mark_text.ensures.entries ∙ ap (λ m. met s m (text_of t) es) (c.entry_of-set.ensures ∙ ap (λ l. entry_at l n) c.deref.ensures.value))

pub returns-in_default : goal.returns-in_default
returns-in_default c = no_met (scope_in c.args.names.now) c.args.copies.now c.requires.copied c.args.number c.in_default.ensures.lookup.3 c.args.entries.now.items
