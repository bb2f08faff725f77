use Rattle.link_group.proofs.Together.{sets_complete, sets_meet}
use Rattle.link_group.proofs.laws.sets_complete_each_life.Goals as goal

pub returns : goal.returns
returns c = sets_complete sets_meet
