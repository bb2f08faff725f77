use Rattle.std.proofs.Common.{◌≤◌, length}
use Rattle.script_check.proofs.extents.+extending.Given as goal

abbrev pub invariant-extent_of-loop-left : goal.invariant-extent_of-loop-left
invariant-extent_of-loop-left l = l.left ≤ length l.transition.statements.items

abbrev pub decreases-extent_of-loop-left : goal.decreases-extent_of-loop-left
decreases-extent_of-loop-left l = l.left
