-- The messages that a set took in its history are each in one place, or have left.
use Rattle.std.proofs.Common.{◌++◌}
use Rattle.link_group.specs.Laws.{EachInOnePlace, UnsureAreCounted}
use Rattle.line_tending.specs.Calling.{Brought}
use Rattle.line_tending.specs.Standing.{TakenStand}
use Rattle.line_tending.proofs.Lives.{lives_calls}

pub taken_stand : EachInOnePlace → UnsureAreCounted → TakenStand
taken_stand places counted t u earlier taken handed told brought lives =
    let now : Brought u.set (earlier ++ taken) = (lives_calls t u taken handed told lives).brought earlier brought in
    record {
      brought = now;
      one_place = places u.set (earlier ++ taken) now.gone now.reached;
      unsure_are = counted u.set (earlier ++ taken) now.gone now.reached;
    }
