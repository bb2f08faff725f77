use Rattle.m3ua_frames.proofs.FrameLaws as lemmas
use Rattle.m3ua_frames.proofs.laws.one_message.Goals as goal

pub returns : goal.returns
returns c = lemmas.one_message
