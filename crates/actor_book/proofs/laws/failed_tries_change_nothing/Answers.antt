use Rattle.actor_book.proofs.Leasts.{tried_unchanged}
use Rattle.actor_book.proofs.laws.failed_tries_change_nothing.Goals as goal

pub returns : goal.returns
returns c = tried_unchanged
