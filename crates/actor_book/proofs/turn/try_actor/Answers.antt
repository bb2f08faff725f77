use Rattle.actor_book.proofs.Wholes.{turned_book, turned_made}
use Rattle.actor_book.proofs.turn.try_actor.Goals as goal

pub returns-in-Ok-clause-turn : goal.returns-in-Ok-clause-turn
returns-in-Ok-clause-turn c = turned_made c.args.actor _ c.args.book.now c.in-Ok.ensures.took

pub returns-in-Ok-clause-book : goal.returns-in-Ok-clause-book
returns-in-Ok-clause-book c = turned_book c.args.actor _ c.args.book.now c.turn.new.self c.in-Ok.ensures.took c.in-Ok.ensures.book
