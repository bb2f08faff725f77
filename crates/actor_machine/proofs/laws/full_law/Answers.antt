use Rattle.actor_machine.proofs.Fullness as lemmas
use Rattle.actor_machine.proofs.laws.full_law.Goals as goal

pub returns : goal.returns
returns c = lemmas.full_law
