use Rattle.std.proofs.Common.{◌≡◌, take}
use Rattle.turn_code.proofs.copy.copied_states.Given as goal

abbrev pub invariant-loop-state : goal.invariant-loop-state
invariant-loop-state l = l.copy.items ≡ take l.state-index l.state-items
