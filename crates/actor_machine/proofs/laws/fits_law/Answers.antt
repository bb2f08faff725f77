use Rattle.actor_machine.proofs.Replays as lemmas
use Rattle.actor_machine.proofs.laws.fits_law.Goals as goal

pub returns : goal.returns
returns c = lemmas.fits_law
