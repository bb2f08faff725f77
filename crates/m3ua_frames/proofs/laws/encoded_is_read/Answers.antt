use Rattle.m3ua_frames.proofs.FrameLaws as lemmas
use Rattle.m3ua_frames.proofs.laws.encoded_is_read.Goals as goal

pub returns : goal.returns
returns c = lemmas.encoded_is_read
