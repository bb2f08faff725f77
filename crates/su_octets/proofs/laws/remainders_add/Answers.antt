use Rattle.su_octets.proofs.Remainders as lemmas
use Rattle.su_octets.proofs.laws.remainders_add.Goals as goal

pub returns : goal.returns
returns c = lemmas.remainders_add
