use Rattle.actor_machine.proofs.FitsSteps.{step_fits}
use Rattle.actor_machine.proofs.Texts as lemmas
use Rattle.actor_machine.proofs.laws.text_law.Goals as goal

pub returns : goal.returns
returns c = lemmas.text_law (step_fits c.run_law.ensures c.effects_law.ensures c.start_law.ensures c.due_law.ensures)
