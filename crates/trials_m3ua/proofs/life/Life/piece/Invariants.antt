use Rattle.std.proofs.Common.{length}
use Rattle.trials_m3ua.proofs.life.Life.piece.Given as goal

abbrev pub decreases-loop-rest : goal.decreases-loop-rest
decreases-loop-rest l = length l.rest
