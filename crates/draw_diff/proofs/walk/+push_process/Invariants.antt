use Rattle.std.proofs.Common.{length}
use Rattle.draw_diff.proofs.walk.+push_process.Given as goal

abbrev pub decreases-push_process : goal.decreases-push_process
decreases-push_process l = length l.others.now
