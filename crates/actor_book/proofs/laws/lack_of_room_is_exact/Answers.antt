use Rattle.actor_book.proofs.Rooming.{room_law}
use Rattle.actor_book.proofs.laws.lack_of_room_is_exact.Goals as goal

pub returns : goal.returns
returns c = room_law c.keeps_law.ensures c.set_law.ensures c.out_law.ensures c.finish_law.ensures c.safe_law.ensures c.run_law.ensures
