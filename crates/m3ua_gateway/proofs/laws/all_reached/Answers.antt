use Rattle.m3ua_gateway.proofs.TableLaws as lemmas
use Rattle.m3ua_gateway.proofs.laws.all_reached.Goals as goal

pub returns : goal.returns
returns c = lemmas.all_reached
