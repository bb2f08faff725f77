use Rattle.actor_book.proofs.Schedulings.{by_text_law}
use Rattle.actor_book.proofs.laws.schedules_are_by_text.Goals as goal

pub returns : goal.returns
returns c = by_text_law c.text_law.ensures c.keeps_law.ensures c.set_law.ensures
