use Rattle.actor_book.proofs.Putting.{lies_with}
use Rattle.actor_book.proofs.rooms.put_with.Goals as goal

pub returns : goal.returns
returns c = lies_with c.args.set.now c.args.number c.args.process c.args.place c.args.given.now c.begin.new.self c.begin.ensures
