use Rattle.m3ua_frames.proofs.ProtocolLaws as lemmas
use Rattle.m3ua_frames.proofs.laws.one_carrier.Goals as goal

pub returns : goal.returns
returns c = lemmas.one_carrier
