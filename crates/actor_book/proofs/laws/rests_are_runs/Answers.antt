use Rattle.actor_book.proofs.Leasts.{rest_law}
use Rattle.actor_book.proofs.laws.rests_are_runs.Goals as goal

pub returns : goal.returns
returns c = rest_law
