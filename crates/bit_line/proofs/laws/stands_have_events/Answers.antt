use Rattle.bit_line.proofs.EventLaws as lemmas
use Rattle.bit_line.proofs.laws.stands_have_events.Goals as goal

pub returns : goal.returns
returns c = lemmas.stands_events
