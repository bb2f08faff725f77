use Rattle.bit_line.proofs.EventLaws as lemmas
use Rattle.bit_line.proofs.laws.one_events.Goals as goal

pub returns : goal.returns
returns c = lemmas.one_events
