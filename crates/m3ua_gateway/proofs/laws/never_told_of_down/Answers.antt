use Rattle.m3ua_gateway.proofs.TableLaws as lemmas
use Rattle.m3ua_gateway.proofs.laws.never_told_of_down.Goals as goal

pub returns : goal.returns
returns c = lemmas.never_told_of_down
