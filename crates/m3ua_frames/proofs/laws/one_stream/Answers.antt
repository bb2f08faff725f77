use Rattle.m3ua_frames.proofs.StreamLaws as lemmas
use Rattle.m3ua_frames.proofs.laws.one_stream.Goals as goal

pub returns : goal.returns
returns c = (lemmas.stream_read, lemmas.one_stream)
