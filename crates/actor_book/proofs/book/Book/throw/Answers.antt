use Rattle.std.proofs.Common.{ap, sym, ◌∙◌}
use Rattle.std.specs.Prelude.{slice_get}
use Rattle.actor_machine.specs.Step.{Says, step}
use Rattle.actor_machine.specs.declared.event.Event.TheVariants.{Skip}
use Rattle.actor_state.specs.Saving.{skipped_by}
use Rattle.actor_book.proofs.Taking.{link_after, link_passes, fits, new_book, new_answer, new_inside, new_next}
use Rattle.actor_book.proofs.Passing.{may_skip, skip_replies}
use Rattle.actor_book.proofs.book.Book.throw.Goals as goal

pub number_in-number-requires : goal.number_in-number-requires
number_in-number-requires c = (may_skip _ _ c.args.actor (link_passes c.keeps_law.ensures _ _ c.self.view_is _ _ c.self.invariant _ c.requires)).inside

pub note-requires : goal.note-requires
note-requires c = fits c.keeps_law.ensures _ _ c.self.view_is _ _ c.self.invariant _ c.requires

pub invariant_of-self : goal.invariant_of-self
unfolding step
invariant_of-self c =
    new_inside c.keeps_law.ensures _ _ c.self.view_is _ _ c.self.invariant _ c.requires c.state_law.ensures _ _ _ c.note.ensures.items
    (c.skip.ensures.link ∙ ap (λ k. link_after c.self.inside.set c.self.inside.link (Skip k)) c.number_in-number.ensures.value) c.note.ensures.capacity

pub unreachable-requires : goal.unreachable-requires
unreachable-requires c =
    (may_skip _ _ c.args.actor (link_passes c.keeps_law.ensures _ _ c.self.view_is _ _ c.self.invariant _ c.requires)).some
    (ap (λ k. skipped_by c.self.inside.set (slice_get c.self.inside.link.actors k)) (sym c.number_in-number.ensures.value)
    ∙ sym c.skip.ensures.skipped ∙ c.in-None.is)

pub returns-clause-book : goal.returns-clause-book
returns-clause-book c = new_book c.keeps_law.ensures _ _ c.self.view_is _ _ c.self.invariant _ c.requires _ c.note.ensures.items

pub returns-clause-answer : goal.returns-clause-answer
unfolding step
returns-clause-answer c =
    let thrown = ap (λ k. skipped_by c.self.inside.set (slice_get c.self.inside.link.actors k)) (sym c.number_in-number.ensures.value)
    ∙ sym c.skip.ensures.skipped ∙ c.in-Some.is in
    ap Says (sym (skip_replies c.self.inside.set c.in-Some.trigger _ thrown)) ∙ new_answer c.keeps_law.ensures _ _ c.self.view_is _ _ c.self.invariant _ c.requires

pub returns-clause-next : goal.returns-clause-next
returns-clause-next c = new_next c.keeps_law.ensures _ _ c.self.view_is _ _ c.self.invariant _ c.requires _ c.note.ensures.items
