use Rattle.std.proofs.Common.{sym, ◌∙◌}
use Rattle.actor_machine.specs.declared.event.Event.TheVariants.{Skip}
use Rattle.actor_book.proofs.Taking.{stays, says}
use Rattle.actor_book.proofs.book.Book.skip.Goals as goal

pub returns-in-Some-clause-book : goal.returns-in-Some-clause-book
returns-in-Some-clause-book c = sym (stays c.args.self.now (Skip c.args.actor) c.in-Some.refusal (sym c.skip_refusal.ensures ∙ c.in-Some.is))

pub returns-in-Some-clause-answer : goal.returns-in-Some-clause-answer
returns-in-Some-clause-answer c = sym (says c.args.self.now (Skip c.args.actor) c.in-Some.refusal (sym c.skip_refusal.ensures ∙ c.in-Some.is))
