use Rattle.std.proofs.Common.{sym, ◌∙◌}
use Rattle.actor_machine.specs.declared.event.Event.TheVariants.{Begin}
use Rattle.actor_book.proofs.Meant.{refuses_by_text}
use Rattle.actor_book.proofs.Taking.{says}
use Rattle.actor_book.proofs.book.Book.turn.Goals as goal

pub returns-in-Some-clause-refused : goal.returns-in-Some-clause-refused
returns-in-Some-clause-refused c =
    sym (says c.args.self.now (Begin c.args.actor) c.in-Some.refusal (sym c.begin_refusal.ensures ∙ c.in-Some.is))

pub returns-in-Some-clause-refused_by_text : goal.returns-in-Some-clause-refused_by_text
returns-in-Some-clause-refused_by_text c =
    refuses_by_text c.text_law.ensures c.args.self.now c.args.actor c.in-Some.refusal c.keeps.ensures
    (says c.args.self.now (Begin c.args.actor) c.in-Some.refusal (sym c.begin_refusal.ensures ∙ c.in-Some.is))
