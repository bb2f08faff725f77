use Rattle.std.proofs.Common.{ap, sym, ◌∙◌}
use Rattle.actor_machine.specs.Step.{Says, step}
use Rattle.actor_book.proofs.Taking.{link_passes, fits, new_book, new_answer, new_inside, new_next}
use Rattle.actor_book.proofs.Passing.{something_waits, takes_first}
use Rattle.actor_book.proofs.book.Book.take_waiting.Goals as goal

pub note-requires : goal.note-requires
note-requires c = fits c.keeps_law.ensures _ _ c.self.view_is _ _ c.self.invariant _ c.requires

pub invariant_of-self : goal.invariant_of-self
unfolding step
invariant_of-self c = new_inside c.keeps_law.ensures _ _ c.self.view_is _ _ c.self.invariant _ c.requires c.state_law.ensures _ _ _ c.note.ensures.items c.take.ensures.link c.note.ensures.capacity

pub unreachable-requires : goal.unreachable-requires
unreachable-requires c = something_waits _ _ (link_passes c.keeps_law.ensures _ _ c.self.view_is _ _ c.self.invariant _ c.requires) c.in-None.ensures.none

pub returns-clause-book : goal.returns-clause-book
returns-clause-book c = new_book c.keeps_law.ensures _ _ c.self.view_is _ _ c.self.invariant _ c.requires _ c.note.ensures.items

pub returns-clause-answer : goal.returns-clause-answer
unfolding step
returns-clause-answer c = ap Says (sym (takes_first _ _ _ c.in-Some.ensures.first)) ∙ new_answer c.keeps_law.ensures _ _ c.self.view_is _ _ c.self.invariant _ c.requires

pub returns-clause-next : goal.returns-clause-next
returns-clause-next c = new_next c.keeps_law.ensures _ _ c.self.view_is _ _ c.self.invariant _ c.requires _ c.note.ensures.items
