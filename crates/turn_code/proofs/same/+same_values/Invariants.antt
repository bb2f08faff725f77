use Rattle.std.proofs.Common.{length}
use Rattle.turn_code.proofs.same.+same_values.Given as goal

abbrev pub decreases-same_values : goal.decreases-same_values
decreases-same_values l = length l.left.now
