use Rattle.std.proofs.Common.{ap, ◌∙◌, arith}
use Rattle.actor_machine.specs.Kept.{opened}
use Rattle.actor_book.proofs.Taking.{is_opened, inside_opened}
use Rattle.actor_book.proofs.book.Book.open.Goals as goal

pub invariant_of-result : goal.invariant_of-result
invariant_of-result c =
    let ls = c.args.limits in
    inside_opened c.keeps_law.ensures c.args.set.now _ ls.port ls.env ls.journal _ _ _ _ _ c.draft-valid.ensures.valid
    (omega (arith, c.journal.ensures.most, c.journal.ensures.value)) c.in_ok-kept.ensures
    (c.in_ok-base.ensures ∙ ap (λ k. opened c.args.set.now k c.env.result) c.port.ensures.value ∙ ap (opened c.args.set.now ls.port) c.env.ensures.value)
    (c.in_ok-link.ensures ∙ ap (λ k. opened c.args.set.now k c.env-2.result) c.port-2.ensures.value ∙ ap (opened c.args.set.now ls.port) c.env-2.ensures.value)
    c.in_ok-journal.ensures.items c.journal-2.ensures.value
    (omega (arith, c.in_ok-journal.ensures.capacity, c.journal.ensures.value, c.journal-2.ensures.value))

pub returns : goal.returns
returns c =
    let ls = c.args.limits in
    is_opened c.args.set.now _ ls.port ls.env ls.journal _ _ _ c.in_ok-kept.ensures
    (c.in_ok-base.ensures ∙ ap (λ k. opened c.args.set.now k c.env.result) c.port.ensures.value ∙ ap (opened c.args.set.now ls.port) c.env.ensures.value)
    c.in_ok-journal.ensures.items c.journal-2.ensures.value
