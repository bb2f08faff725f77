use Rattle.actor_state.proofs.SmallSaves.{few_each}
use Rattle.actor_state.proofs.open.processes_of.Goals as goal

pub returns-clause-few : goal.returns-clause-few
returns-clause-few c = rw (c.as_slice.ensures, c.draft.ensures.value) (few_each _ c.draft.ensures.valid)
