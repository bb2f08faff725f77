use Rattle.link_group.proofs.Together.{sets_meet}
use Rattle.link_group.proofs.laws.sets_complete_whenever_they_begin.Goals as goal

pub returns : goal.returns
returns c = sets_meet
