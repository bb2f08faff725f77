use Rattle.std.proofs.Common.{◌≡◌, List, Option, length, take}
use Rattle.turn_code.specs.declared.value.Value.{Value}
use Rattle.turn_code.specs.Bare.{bare_of}
use Rattle.turn_machine.specs.Wording.{AreVariables}
use Rattle.turn_machine.proofs.values.set_variables.Given as goal

abbrev pub invariant-loop-number : goal.invariant-loop-number
invariant-loop-number l =
    (length l.variables.items ≡ l.number)
    × ((vs : List (Option Value)) → length vs ≡ l.count → AreVariables (bare_of l.words) l.booleans vs → l.variables.items ≡ take l.number vs)
