use Rattle.std.proofs.Common.{◌≡◌, ◌++◌, drop}
use Rattle.m3ua_gateway.specs.Destinations.{told}
use Rattle.m3ua_gateway.proofs.destinations.tell_all.Given as goal

abbrev pub invariant-loop-code : goal.invariant-loop-code
invariant-loop-code l = l.statuses.items ++ told l.reached (drop l.code-index l.destinations) ≡ l.initial.statuses.items ++ told l.reached l.destinations
