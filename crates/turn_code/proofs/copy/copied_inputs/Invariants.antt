use Rattle.std.proofs.Common.{◌≡◌, take}
use Rattle.turn_code.proofs.copy.copied_inputs.Given as goal

abbrev pub invariant-loop-input : goal.invariant-loop-input
invariant-loop-input l = l.copy.items ≡ take l.input-index l.input-items
