use Rattle.m3ua_gateway.proofs.LifeLaws as lemmas
use Rattle.m3ua_gateway.proofs.laws.followed.Goals as goal

pub returns : goal.returns
returns c = lemmas.followed
