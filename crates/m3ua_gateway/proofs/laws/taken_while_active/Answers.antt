use Rattle.m3ua_gateway.proofs.TableLaws as lemmas
use Rattle.m3ua_gateway.proofs.laws.taken_while_active.Goals as goal

pub returns : goal.returns
returns c = lemmas.taken_while_active
