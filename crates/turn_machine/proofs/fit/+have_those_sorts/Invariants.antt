use Rattle.std.proofs.Common.{length}
use Rattle.turn_machine.proofs.fit.+have_those_sorts.Given as goal

abbrev pub decreases-have_those_sorts : goal.decreases-have_those_sorts
decreases-have_those_sorts l = length l.values.now
