use Rattle.std.proofs.Common.{length}
use Rattle.trials_texts.proofs.standing.+have_sorts.Given as goal

abbrev pub decreases-have_sorts : goal.decreases-have_sorts
decreases-have_sorts l = length l.values.now
