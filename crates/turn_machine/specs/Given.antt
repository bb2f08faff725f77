-- The input that a job is given.
use Rattle.std.specs.Prelude.{Option}
use Rattle.arrayvec.specs.ArrayVec.{ArrayVec}
use Rattle.turn_code.specs.declared.value.Value.{Value}
use Rattle.turn_code.specs.declared.input.Input.{Input}
use Rattle.turn_machine.specs.declared.received.Received.{Received}

abbrev pub input_of : ArrayVec (Option Value) → Received → Input
input_of vs r = record { variables = vs; parameters = r.parameters; sender = r.sender }
