use Rattle.std.proofs.Common.{◌≡◌, ◌++◌, map, take, drop}
use Rattle.link_group.specs.Ticking.{roomy}
use Rattle.link_group.proofs.ticking.make_room_all.Given as goal

abbrev pub invariant-loop-at : goal.invariant-loop-at
invariant-loop-at l = l.links ≡ map roomy (take l.at l.fn.links) ++ drop l.at l.fn.links
