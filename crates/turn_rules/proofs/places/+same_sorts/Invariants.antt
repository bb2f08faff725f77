use Rattle.std.proofs.Common.{length}
use Rattle.turn_rules.proofs.places.+same_sorts.Given as goal

abbrev pub decreases-same_sorts : goal.decreases-same_sorts
decreases-same_sorts l = length l.left.now
