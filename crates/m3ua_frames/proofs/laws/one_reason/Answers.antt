use Rattle.m3ua_frames.proofs.FrameLaws as lemmas
use Rattle.m3ua_frames.proofs.laws.one_reason.Goals as goal

pub returns : goal.returns
returns c = (lemmas.no_fault, lemmas.one_reason)
