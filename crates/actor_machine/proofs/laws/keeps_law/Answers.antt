use Rattle.actor_machine.proofs.FitsSteps.{step_fits, opened_fits}
use Rattle.actor_machine.proofs.Keeping as lemmas
use Rattle.actor_machine.proofs.laws.keeps_law.Goals as goal

pub returns : goal.returns
returns c =
    let steps = step_fits c.run_law.ensures c.effects_law.ensures c.start_law.ensures c.due_law.ensures in
    record {
      asks = lemmas.asks steps c.due_law.ensures c.safe_law.ensures c.run_law.ensures;
      lists = lemmas.lists steps c.due_law.ensures c.safe_law.ensures c.run_law.ensures;
      rebases = lemmas.rebases;
      opens = lemmas.opens (opened_fits c.start_law.ensures);
    }
