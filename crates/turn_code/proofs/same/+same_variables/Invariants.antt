use Rattle.std.proofs.Common.{length}
use Rattle.turn_code.proofs.same.+same_variables.Given as goal

abbrev pub decreases-same_variables : goal.decreases-same_variables
decreases-same_variables l = length l.left.now
