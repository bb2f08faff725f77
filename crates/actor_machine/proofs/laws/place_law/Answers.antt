use Rattle.actor_machine.proofs.Places as lemmas
use Rattle.actor_machine.proofs.laws.place_law.Goals as goal

pub returns : goal.returns
returns c = lemmas.place_law
