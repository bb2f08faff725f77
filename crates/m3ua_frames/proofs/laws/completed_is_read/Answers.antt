use Rattle.m3ua_frames.proofs.PaddingLaws as lemmas
use Rattle.m3ua_frames.proofs.laws.completed_is_read.Goals as goal

pub returns : goal.returns
returns c = lemmas.completed_is_read
