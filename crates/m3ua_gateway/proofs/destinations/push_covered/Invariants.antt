use Rattle.std.proofs.Common.{◌≡◌, ◌++◌, drop}
use Rattle.std.specs.List.{filter}
use Rattle.m3ua_gateway.specs.Destinations.{covers}
use Rattle.m3ua_gateway.proofs.destinations.push_covered.Given as goal

abbrev pub invariant-loop-code : goal.invariant-loop-code
invariant-loop-code l = l.codes.items ++ filter (covers l.affected) (drop l.code-index l.destinations) ≡ l.initial.codes.items ++ filter (covers l.affected) l.destinations
