use Rattle.std.proofs.Common.{◌≡◌, ◌++◌, length}
use Rattle.std.specs.List.{flat_map}
use Rattle.m3ua_frames.specs.Numbers.{numbers_in}
use Rattle.m3ua_gateway.specs.Destinations.{told_of}
use Rattle.m3ua_gateway.proofs.destinations.tell_each.Given as goal

abbrev pub invariant-loop-affected : goal.invariant-loop-affected
invariant-loop-affected l = l.statuses.items ++ flat_map (told_of l.destinations l.reached) (numbers_in l.rest) ≡ l.initial.statuses.items ++ flat_map (told_of l.destinations l.reached) (numbers_in l.octets)

abbrev pub decreases-loop-affected : goal.decreases-loop-affected
decreases-loop-affected l = length l.rest
