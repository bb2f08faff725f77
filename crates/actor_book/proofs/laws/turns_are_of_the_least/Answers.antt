use Rattle.actor_book.proofs.Leasts.{turn_law}
use Rattle.actor_book.proofs.laws.turns_are_of_the_least.Goals as goal

pub returns : goal.returns
returns c = turn_law
