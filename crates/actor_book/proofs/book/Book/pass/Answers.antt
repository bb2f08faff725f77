use Rattle.std.proofs.Common.{ap, ◌∙◌}
use Rattle.actor_machine.specs.Step.{Says, step}
use Rattle.actor_machine.specs.declared.reply.Reply.TheVariants as reply
use Rattle.actor_book.proofs.Taking.{link_passes, fits, new_book, new_answer, new_inside, new_next}
use Rattle.actor_book.proofs.Passing.{may_pass}
use Rattle.actor_book.proofs.book.Book.pass.Goals as goal

pub advance-due-requires-clause-near : goal.advance-due-requires-clause-near
advance-due-requires-clause-near c =
    (may_pass _ _ c.args.ticks (link_passes c.keeps_law.ensures _ _ c.self.view_is _ _ c.self.invariant _ c.requires)).near

pub advance-due-requires-clause-clock : goal.advance-due-requires-clause-clock
advance-due-requires-clause-clock c =
    (may_pass _ _ c.args.ticks (link_passes c.keeps_law.ensures _ _ c.self.view_is _ _ c.self.invariant _ c.requires)).clock

pub note-requires : goal.note-requires
note-requires c = fits c.keeps_law.ensures _ _ c.self.view_is _ _ c.self.invariant _ c.requires

pub invariant_of-self : goal.invariant_of-self
unfolding step
invariant_of-self c =
    new_inside c.keeps_law.ensures _ _ c.self.view_is _ _ c.self.invariant _ c.requires c.state_law.ensures _ _ _ c.note.ensures.items
    c.advance-due.ensures.link c.note.ensures.capacity

pub returns-clause-book : goal.returns-clause-book
returns-clause-book c = new_book c.keeps_law.ensures _ _ c.self.view_is _ _ c.self.invariant _ c.requires _ c.note.ensures.items

pub returns-clause-answer : goal.returns-clause-answer
unfolding step
returns-clause-answer c =
    ap (λ k. Says (reply.Passed k)) c.advance-due.ensures.due ∙ new_answer c.keeps_law.ensures _ _ c.self.view_is _ _ c.self.invariant _ c.requires

pub returns-clause-next : goal.returns-clause-next
returns-clause-next c = new_next c.keeps_law.ensures _ _ c.self.view_is _ _ c.self.invariant _ c.requires _ c.note.ensures.items
