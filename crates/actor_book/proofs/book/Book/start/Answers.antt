use Rattle.std.proofs.Common.{ap, ◌∙◌}
use Rattle.actor_machine.specs.Step.{step}
use Rattle.actor_machine.specs.declared.event.Event.TheVariants.{Begin}
use Rattle.actor_book.proofs.Taking.{link_after, link_passes, fits, new_book, new_inside, new_next}
use Rattle.actor_book.proofs.Passing.{may_begin}
use Rattle.actor_book.proofs.book.Book.start.Goals as goal

pub number_in-number-requires : goal.number_in-number-requires
number_in-number-requires c = (may_begin _ _ c.args.actor (link_passes c.keeps_law.ensures _ _ c.self.view_is _ _ c.self.invariant _ c.requires)).inside

pub begin-requires : goal.begin-requires
begin-requires c = (may_begin _ _ c.args.actor (link_passes c.keeps_law.ensures _ _ c.self.view_is _ _ c.self.invariant _ c.requires)).turns

pub note-requires : goal.note-requires
note-requires c = fits c.keeps_law.ensures _ _ c.self.view_is _ _ c.self.invariant _ c.requires

pub invariant_of-self : goal.invariant_of-self
unfolding step
invariant_of-self c =
    new_inside c.keeps_law.ensures _ _ c.self.view_is _ _ c.self.invariant _ c.requires c.state_law.ensures _ _ _ c.note.ensures.items
    (c.begin.ensures ∙ ap (λ k. link_after c.self.inside.set c.self.inside.link (Begin k)) c.number_in-number.ensures.value) c.note.ensures.capacity

pub returns-clause-book : goal.returns-clause-book
returns-clause-book c = new_book c.keeps_law.ensures _ _ c.self.view_is _ _ c.self.invariant _ c.requires _ c.note.ensures.items

pub returns-clause-next : goal.returns-clause-next
returns-clause-next c = new_next c.keeps_law.ensures _ _ c.self.view_is _ _ c.self.invariant _ c.requires _ c.note.ensures.items
