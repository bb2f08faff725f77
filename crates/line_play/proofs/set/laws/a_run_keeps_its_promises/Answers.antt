use Rattle.line_play.proofs.SetPromised.{promised}
use Rattle.line_play.proofs.set.laws.a_run_keeps_its_promises.Goals as goal

pub returns : goal.returns
returns c = promised c.messages_taken_in_a_life_stand.ensures
