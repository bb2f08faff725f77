use Rattle.actor_machine.proofs.Numbers as lemmas
use Rattle.actor_machine.proofs.laws.over_law.Goals as goal

pub returns : goal.returns
returns c = lemmas.over_law c.safe_law.ensures c.run_law.ensures
