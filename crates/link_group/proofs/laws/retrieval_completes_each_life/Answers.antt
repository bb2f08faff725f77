use Rattle.link_group.proofs.Faring.{ends_complete}
use Rattle.link_group.proofs.laws.retrieval_completes_each_life.Goals as goal

pub returns : goal.returns
returns c = ends_complete
