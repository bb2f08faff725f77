use Rattle.std.proofs.Common.{◌≡◌, ◌≤◌, take, length}
use Rattle.turn_machine.proofs.copy.copied_effects.Given as goal

abbrev pub invariant-loop-effect : goal.invariant-loop-effect
invariant-loop-effect l = (l.copy.items ≡ take l.effect-index l.effects.items) × (length l.effects.items ≤ 32)
