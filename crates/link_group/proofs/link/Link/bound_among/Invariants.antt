use Rattle.std.proofs.Common.{◌≡◌, ◌≤◌, length}
use Rattle.link_group.specs.OneLink.{bound_among}
use Rattle.link_group.proofs.link.Link.bound_among.Given as goal

abbrev pub invariant-loop-place : goal.invariant-loop-place
invariant-loop-place l = (l.bound ≡ length (bound_among l.self l.place)) × (l.bound ≤ l.place)
