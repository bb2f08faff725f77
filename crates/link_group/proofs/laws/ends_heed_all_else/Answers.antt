use Rattle.link_group.proofs.Heeding.{ends_heed}
use Rattle.link_group.proofs.laws.ends_heed_all_else.Goals as goal

pub returns : goal.returns
returns c = ends_heed
