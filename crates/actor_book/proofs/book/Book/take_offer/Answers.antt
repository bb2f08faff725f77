use Rattle.std.proofs.Common.{ap, ◌∙◌}
use Rattle.actor_machine.specs.Step.{step}
use Rattle.actor_machine.specs.declared.event.Event.TheVariants.{Offer as Offered}
use Rattle.actor_machine.specs.declared.event.Offer.{Offer}
use Rattle.actor_book.proofs.Taking.{link_after, fits, new_book, new_answer, new_inside, new_next}
use Rattle.actor_book.proofs.book.Book.take_offer.Goals as goal

pub note-requires : goal.note-requires
note-requires c = fits c.keeps_law.ensures _ _ c.self.view_is _ _ c.self.invariant _ c.requires

pub invariant_of-self : goal.invariant_of-self
unfolding step
invariant_of-self c =
    new_inside c.keeps_law.ensures _ _ c.self.view_is _ _ c.self.invariant _ c.requires c.state_law.ensures _ _ _ c.note.ensures.items
    (c.offer.ensures ∙ ap (λ (o : Offer). link_after c.self.inside.set c.self.inside.link (Offered (record { actor = c.args.offer.actor; signal = c.args.offer.signal; values = o.values }))) c.copy.ensures)
    c.note.ensures.capacity

pub returns-clause-book : goal.returns-clause-book
returns-clause-book c = new_book c.keeps_law.ensures _ _ c.self.view_is _ _ c.self.invariant _ c.requires _ c.note.ensures.items

pub returns-clause-answer : goal.returns-clause-answer
unfolding step
returns-clause-answer c = new_answer c.keeps_law.ensures _ _ c.self.view_is _ _ c.self.invariant _ c.requires

pub returns-clause-next : goal.returns-clause-next
returns-clause-next c = new_next c.keeps_law.ensures _ _ c.self.view_is _ _ c.self.invariant _ c.requires _ c.note.ensures.items
