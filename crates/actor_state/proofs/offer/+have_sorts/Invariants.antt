use Rattle.std.proofs.Common.{length}
use Rattle.actor_state.proofs.offer.+have_sorts.Given as goal

abbrev pub decreases-have_sorts : goal.decreases-have_sorts
decreases-have_sorts l = length l.values.now
