use Rattle.actor_machine.proofs.Replays as lemmas
use Rattle.actor_machine.proofs.laws.set_law.Goals as goal

pub returns : goal.returns
returns c = lemmas.set_law
