use Rattle.std.proofs.Common.{◌≡◌, ◌+◌, drop}
use Rattle.turn_code.specs.Rules.{inputs_of}
use Rattle.turn_check.proofs.limits.room_behind_inputs.Given as goal

abbrev pub invariant-loop-state : goal.invariant-loop-state
invariant-loop-state l = l.left + inputs_of l.states ≡ l.room + inputs_of (drop l.state-index l.states)
