use Rattle.std.proofs.Common.{ap, ◌∙◌, ◌+◌, arith}
use Rattle.actor_machine.specs.Ledger.{Ledger, rebased}
use Rattle.actor_book.proofs.Taking.{is_rebased, inside_rebased}
use Rattle.actor_book.proofs.book.Book.rebase.Goals as goal

pub invariant_of-self : goal.invariant_of-self
invariant_of-self c =
    inside_rebased c.keeps_law.ensures _ _ _ _ _ _ _ c.self.invariant c.in_ok-base.ensures
    (ap (λ k. c.self.inside.first + k) (c.len.ensures ∙ c.self.inside.journal.ok.0)) c.clear.ensures.items (omega (arith, c.clear.ensures.capacity))

pub returns-clause-ok : goal.returns-clause-ok
returns-clause-ok c =
    is_rebased _ _ _ _ (c.in_ok-base.ensures ∙ c.self.invariant.state) (ap (λ k. c.self.inside.first + k) (c.len.ensures ∙ c.self.inside.journal.ok.0)) c.clear.ensures.items
    ∙ ap (λ (b : Ledger). rebased b) c.self.view_is
