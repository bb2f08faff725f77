use Rattle.su_octets.proofs.CheckLaws as lemmas
use Rattle.su_octets.proofs.laws.one_check.Goals as goal

pub returns : goal.returns
returns c = lemmas.one_check
