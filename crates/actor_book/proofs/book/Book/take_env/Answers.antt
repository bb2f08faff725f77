use Rattle.std.proofs.Common.{sym, ◌∙◌}
use Rattle.actor_machine.specs.declared.event.Event.TheVariants.{TakeEnv}
use Rattle.actor_book.proofs.Taking.{stays, says}
use Rattle.actor_book.proofs.book.Book.take_env.Goals as goal

pub returns-in-Some-clause-book : goal.returns-in-Some-clause-book
returns-in-Some-clause-book c = sym (stays c.args.self.now (TakeEnv) c.in-Some.refusal (sym c.take_refusal.ensures ∙ c.in-Some.is))

pub returns-in-Some-clause-answer : goal.returns-in-Some-clause-answer
returns-in-Some-clause-answer c = sym (says c.args.self.now (TakeEnv) c.in-Some.refusal (sym c.take_refusal.ensures ∙ c.in-Some.is))
