use Rattle.std.proofs.Common.{length}
use Rattle.turn_rules.proofs.places.+greatest_counts.Given as goal

abbrev pub decreases-greatest_counts : goal.decreases-greatest_counts
decreases-greatest_counts l = length l.places.now
