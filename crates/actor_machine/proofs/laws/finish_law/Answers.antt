use Rattle.actor_machine.proofs.Ends as lemmas
use Rattle.actor_machine.proofs.laws.finish_law.Goals as goal

pub returns : goal.returns
returns c = lemmas.finish_law c.safe_law.ensures c.run_law.ensures c.effects_law.ensures
