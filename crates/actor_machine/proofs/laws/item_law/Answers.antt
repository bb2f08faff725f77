use Rattle.actor_machine.proofs.FitsBegin as lemmas
use Rattle.actor_machine.proofs.laws.item_law.Goals as goal

pub returns : goal.returns
returns c = lemmas.item_law
