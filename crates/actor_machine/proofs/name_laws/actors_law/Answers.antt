use Rattle.actor_machine.proofs.Numbering as lemmas
use Rattle.actor_machine.proofs.name_laws.actors_law.Goals as goal

pub returns : goal.returns
returns c = lemmas.actors_law
