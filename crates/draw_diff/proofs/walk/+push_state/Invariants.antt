use Rattle.std.proofs.Common.{length}
use Rattle.draw_diff.proofs.walk.+push_state.Given as goal

abbrev pub decreases-push_state : goal.decreases-push_state
decreases-push_state l = length l.others.now
