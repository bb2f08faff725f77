use Rattle.std.proofs.Common.{◌≡◌, ◌++◌, map, take, drop}
use Rattle.link_group.specs.Tables.{forgiven}
use Rattle.link_group.proofs.tables.forgive_all.Given as goal

abbrev pub invariant-loop-at : goal.invariant-loop-at
invariant-loop-at l = l.links ≡ map forgiven (take l.at l.fn.links) ++ drop l.at l.fn.links
