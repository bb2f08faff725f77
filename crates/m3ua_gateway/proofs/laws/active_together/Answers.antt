use Rattle.m3ua_gateway.proofs.TableLaws as lemmas
use Rattle.m3ua_gateway.proofs.laws.active_together.Goals as goal

pub returns : goal.returns
returns c = lemmas.active_together
