use Rattle.std.proofs.Common.{sym, ◌∙◌, rules}
use Rattle.actor_machine.specs.declared.event.Event.TheVariants.{Begin}
use Rattle.actor_book.proofs.Taking.{says}
use Rattle.actor_book.proofs.book.Book.begin_in.Goals as goal

pub returns-in-Some-clause-refused : goal.returns-in-Some-clause-refused
returns-in-Some-clause-refused c =
    (search rules, says c.args.self.now (Begin c.args.actor) c.in-Some.refusal (sym c.begin_refusal.ensures ∙ c.in-Some.is))
