use Rattle.std.proofs.Common.{length}
use Rattle.turn_code.proofs.sorts.+variable_bits.Given as goal

abbrev pub decreases-variable_bits : goal.decreases-variable_bits
decreases-variable_bits l = length l.variables.now
