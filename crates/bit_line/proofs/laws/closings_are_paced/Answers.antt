use Rattle.bit_line.proofs.PaceLaws as lemmas
use Rattle.bit_line.proofs.laws.closings_are_paced.Goals as goal

pub returns : goal.returns
returns c = lemmas.closings_paced
