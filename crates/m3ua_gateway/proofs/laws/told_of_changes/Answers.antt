use Rattle.m3ua_gateway.proofs.MovingLaws as lemmas
use Rattle.m3ua_gateway.proofs.laws.told_of_changes.Goals as goal

pub returns : goal.returns
returns c = lemmas.told_of_changes
