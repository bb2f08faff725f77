use Rattle.std.proofs.Common.{length}
use Rattle.turn_code.proofs.sorts.+boolean_bits.Given as goal

abbrev pub decreases-boolean_bits : goal.decreases-boolean_bits
decreases-boolean_bits l = length l.sorts.now
