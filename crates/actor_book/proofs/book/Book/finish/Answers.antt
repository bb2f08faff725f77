use Rattle.std.proofs.Common.{ℕ, ap, ◌∙◌, subst, sym}
use Rattle.turn_machine.specs.Turn.{Turn}
use Rattle.actor_book.specs.Meant.{FinishesByText}
use Rattle.actor_book.proofs.Meant.{finishes_by_text}
use Rattle.actor_book.proofs.book.Book.finish.Goals as goal

pub returns-clause-by_text : goal.returns-clause-by_text
returns-clause-by_text c =
    subst (λ (n : ℕ). FinishesByText c.args.self.now n c.end.result c.end.new.self) (c.actor-actor.ensures ∙ ap (λ (t : Turn). t.actor) c.job.ensures)
    (finishes_by_text c.text_law.ensures c.args.self.now c.actor-actor.result c.end.result c.end.new.self c.keeps.ensures c.end.ensures.book (sym c.end.ensures.answer))
