use Rattle.m3ua_gateway.proofs.MovingLaws as lemmas
use Rattle.m3ua_gateway.proofs.laws.messages_moved.Goals as goal

pub returns : goal.returns
returns c = lemmas.messages_moved
