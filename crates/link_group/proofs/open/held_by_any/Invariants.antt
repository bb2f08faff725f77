use Rattle.std.proofs.Common.{◌≡◌, false, take}
use Rattle.std.specs.List.{list_any}
use Rattle.link_group.specs.Moving.{holds}
use Rattle.link_group.proofs.open.held_by_any.Given as goal

abbrev pub invariant-loop-link : goal.invariant-loop-link
invariant-loop-link l = list_any (holds l.selection) (take l.link-index l.links) ≡ false
