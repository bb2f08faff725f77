use Rattle.std.proofs.Common.{◌≡◌, ◌++◌, map, take, drop}
use Rattle.std.specs.List.{list_any}
use Rattle.link_group.specs.Doing.{asked, came_first}
use Rattle.link_group.proofs.doing.see_all.Given as goal

abbrev pub invariant-loop-at : goal.invariant-loop-at
invariant-loop-at l =
    (l.links ≡ map asked (take l.at l.fn.links) ++ drop l.at l.fn.links)
    × (l.first ≡ list_any came_first (take l.at l.fn.links))
