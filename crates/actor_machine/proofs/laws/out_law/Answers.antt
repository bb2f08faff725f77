use Rattle.actor_machine.proofs.Ends as lemmas
use Rattle.actor_machine.proofs.laws.out_law.Goals as goal

pub returns : goal.returns
returns c = lemmas.out_law
