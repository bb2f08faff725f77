use Rattle.std.proofs.Common.{length}
use Rattle.draw_diff.proofs.walk.+push_input.Given as goal

abbrev pub decreases-push_input : goal.decreases-push_input
decreases-push_input l = length l.others.now
