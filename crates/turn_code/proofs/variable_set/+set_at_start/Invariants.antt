use Rattle.std.proofs.Common.{length}
use Rattle.turn_code.proofs.variable_set.+set_at_start.Given as goal

abbrev pub decreases-set_at_start : goal.decreases-set_at_start
decreases-set_at_start l = length l.variables.now
