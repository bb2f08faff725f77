use Rattle.std.proofs.Common.{◌≡◌, take}
use Rattle.turn_code.proofs.copy.copied_variables.Given as goal

abbrev pub invariant-loop-variable : goal.invariant-loop-variable
invariant-loop-variable l = l.copy.items ≡ take l.variable-index l.variable-items
