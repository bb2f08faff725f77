use Rattle.su_octets.proofs.CheckLaws as lemmas
use Rattle.su_octets.proofs.laws.check_is_one_remainder.Goals as goal

pub returns : goal.returns
returns c = lemmas.check_is_one_remainder
