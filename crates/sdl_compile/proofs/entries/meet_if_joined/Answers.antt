use Rattle.std.proofs.Common.{◌≡◌, ap, sym, ◌∙◌}
use Rattle.sdl_emit.specs.Scopes.{scope_in}
use Rattle.sdl_compile.specs.Reads.{everything}
use Rattle.sdl_compile.specs.Entries.{entry_at}
use Rattle.sdl_compile.proofs.Unchanged.{connection_same}
use Rattle.sdl_compile.proofs.entries.meet_if_joined.Goals as goal

pub returns-then-is_everything : goal.returns-then-is_everything
returns-then-is_everything c =
    let begins : entry_at c.args.entries.now.items c.args.number ≡ everything =
    ap (λ l. entry_at l c.args.number) (sym c.deref.ensures.value) ∙ sym c.entry_of-set.ensures ∙ c.is_everything.ensures c.if-is_everything.true in
    sym (connection_same (scope_in c.args.names.now) c.args.number c.args.entries.now.items begins c.requires.all)
