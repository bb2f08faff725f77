use Rattle.std.proofs.Common.{◌≡◌, ◌≤◌, length, take}
use Rattle.group_changeover.specs.Sharing as spec
use Rattle.group_changeover.proofs.sharing.count_on.Given as goal

abbrev pub invariant-loop-place : goal.invariant-loop-place
invariant-loop-place l = (l.count ≡ length (spec.of l.selection (take l.place l.messages.items))) × (l.count ≤ l.place)
