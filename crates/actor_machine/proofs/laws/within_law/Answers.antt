use Rattle.actor_machine.proofs.FitsSteps.{step_fits}
use Rattle.actor_machine.proofs.Keeping as lemmas
use Rattle.actor_machine.proofs.laws.within_law.Goals as goal

pub returns : goal.returns
returns c =
    lemmas.within_law (step_fits c.run_law.ensures c.effects_law.ensures c.start_law.ensures c.due_law.ensures)
    c.due_law.ensures c.safe_law.ensures c.run_law.ensures c.effects_law.ensures
