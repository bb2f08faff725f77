use Rattle.std.proofs.Common.{length}
use Rattle.draw_diff.proofs.renaming.+are_renamed.Given as goal

abbrev pub decreases-are_renamed : goal.decreases-are_renamed
decreases-are_renamed l = length l.olds.now
