use Rattle.std.proofs.Common.{length}
use Rattle.turn_rules.proofs.places.+agree.Given as goal

abbrev pub decreases-agree : goal.decreases-agree
decreases-agree l = length l.wanted.now
