use Rattle.actor_machine.proofs.Silence as lemmas
use Rattle.actor_machine.proofs.laws.timer_law.Goals as goal

pub returns : goal.returns
returns c = lemmas.timer_law
