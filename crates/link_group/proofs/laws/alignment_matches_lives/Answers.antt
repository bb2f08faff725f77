use Rattle.link_group.proofs.Aligning.{alignment_matches}
use Rattle.link_group.proofs.laws.alignment_matches_lives.Goals as goal

pub returns : goal.returns
returns c = alignment_matches
