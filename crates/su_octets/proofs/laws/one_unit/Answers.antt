use Rattle.su_octets.proofs.FrameLaws as lemmas
use Rattle.su_octets.proofs.laws.one_unit.Goals as goal

pub returns : goal.returns
returns c = lemmas.one_unit
