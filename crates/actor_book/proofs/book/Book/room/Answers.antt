use Rattle.std.proofs.Common.{ap, ◌∙◌, ◌-◌, ◌+◌, length, arith}
use Rattle.actor_machine.specs.Core.{outs}
use Rattle.actor_machine.specs.Ledger.{Ledger, state_of}
use Rattle.actor_book.proofs.Taking.{no_room, some_room}
use Rattle.actor_book.proofs.book.Book.room.Goals as goal

pub returns-then-next : goal.returns-then-next
returns-then-next c = no_room c.args.self.now (state_of c.args.self.now) (omega (arith, c.if-next.true, c.next.ensures.value))

pub returns-else-next : goal.returns-else-next
returns-else-next c =
    let inside = c.self.inside in
    ap (λ k. inside.limit - (k + c.outs.result)) (c.len.ensures ∙ c.self.inside.journal.ok.0)
    ∙ ap (λ k. inside.limit - (length inside.journal.items + k)) c.outs.ensures
    ∙ ap (λ (b : Ledger). b.limit - (length b.journal + outs (state_of c.args.self.now).actors)) c.self.view_is
    ∙ some_room c.args.self.now (state_of c.args.self.now) (omega (arith, c.if-next.false, c.next.ensures.value))
