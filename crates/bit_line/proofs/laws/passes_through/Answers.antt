use Rattle.bit_line.proofs.ThroughLaws as lemmas
use Rattle.bit_line.proofs.laws.passes_through.Goals as goal

pub returns : goal.returns
returns c = lemmas.passes_through
