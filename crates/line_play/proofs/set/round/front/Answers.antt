use Rattle.std.proofs.Common.{arith, refl}
use Rattle.line_play.proofs.SetRounds.{front_there}
use Rattle.line_play.proofs.set.round.front.Goals as goal

pub returns : goal.returns
returns c = front_there _ _ _ (omega arith) refl
