use Rattle.std.proofs.Common.{◌≡◌, take}
use Rattle.turn_code.proofs.copy.copied_routes.Given as goal

abbrev pub invariant-loop-route : goal.invariant-loop-route
invariant-loop-route l = l.copy.items ≡ take l.route-index l.route-items
