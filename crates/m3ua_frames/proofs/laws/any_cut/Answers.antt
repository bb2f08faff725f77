use Rattle.m3ua_frames.proofs.StreamLaws as lemmas
use Rattle.m3ua_frames.proofs.laws.any_cut.Goals as goal

pub returns : goal.returns
returns c = lemmas.any_cut
