use Rattle.std.proofs.Common.{◌≡◌, false, take}
use Rattle.std.specs.List.{list_any}
use Rattle.link_group.specs.OneLink.{held}
use Rattle.link_group.specs.Moving.{is_unbound_on}
use Rattle.link_group.proofs.open.holds.Given as goal

abbrev pub invariant-loop-place : goal.invariant-loop-place
invariant-loop-place l = list_any (is_unbound_on l.link.points l.selection) (take l.place (held l.link)) ≡ false
