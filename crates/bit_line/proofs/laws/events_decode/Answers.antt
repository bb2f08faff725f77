use Rattle.bit_line.proofs.PaceLaws as lemmas
use Rattle.bit_line.proofs.laws.events_decode.Goals as goal

pub returns : goal.returns
returns c = lemmas.events_decode
