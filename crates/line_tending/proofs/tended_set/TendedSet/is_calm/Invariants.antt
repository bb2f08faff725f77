use Rattle.std.proofs.Common.{◌≡◌, false, take}
use Rattle.std.specs.List.{list_any}
use Rattle.link_group.specs.OneLink.{is_changing}
use Rattle.line_tending.proofs.tended_set.TendedSet.is_calm.Given as goal

abbrev pub invariant-loop-link : goal.invariant-loop-link
invariant-loop-link l = list_any is_changing (take l.link l.self.set.links) ≡ false
