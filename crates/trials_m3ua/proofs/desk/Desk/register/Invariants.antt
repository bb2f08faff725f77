use Rattle.std.proofs.Common.{length}
use Rattle.trials_m3ua.proofs.desk.Desk.register.Given as goal

abbrev pub decreases-loop-after : goal.decreases-loop-after
decreases-loop-after l = length l.rest
