use Rattle.actor_book.proofs.Schedulings.{kept_law}
use Rattle.actor_book.proofs.laws.schedules_keep_books.Goals as goal

pub returns : goal.returns
returns c = kept_law c.keeps_law.ensures c.set_law.ensures
