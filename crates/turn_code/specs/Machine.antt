-- What the state of a machine means, and what its next instruction makes of it.
use Rattle.std.specs.Prelude.{◌≡◌, ℕ, ◌<◌, ◌≤◌, List, length, Bool, true, false, IsTrue, Some}
use Rattle.std.specs.Prelude.{slice_get}
use Rattle.plain_laws.specs.Limits.{MOST_EFFECTS, MOST_OPERANDS, MOST_PARAMETERS}
use Rattle.turn_code.specs.Code.{effects_of, sends}
use Rattle.turn_code.specs.Run.{Progress, After, goes, ends, stuck}
use Rattle.turn_code.specs.declared.value.Value.{Value}
use Rattle.turn_code.specs.declared.effect.Effect.{Effect}
use Rattle.turn_code.specs.declared.instruction.Instruction.{Instruction}
use Rattle.turn_code.specs.declared.instruction.Instruction.TheVariants.{Int as PutInt}
use Rattle.turn_code.specs.declared.instruction.Instruction.TheVariants.{Bool as PutBool, Load}
use Rattle.turn_code.specs.declared.instruction.Instruction.TheVariants.{Param}
use Rattle.turn_code.specs.declared.machine.Machine.{Machine}
use Rattle.turn_code.specs.declared.machine.After.{After as Next}
use Rattle.turn_code.specs.declared.machine.After.TheVariants.{Goes, Ends, Stuck}

abbrev pub progress_of : Machine → Progress
progress_of m = record { variables = m.variables.items; effects = m.effects.items; count = m.count }

-- what the machine's answer means, with the machine as it is then
abbrev pub after_of : Next → Machine → After
after_of (Goes k) m = goes k m.operands (progress_of m)
after_of (Ends e) m = ends e (progress_of m)
after_of (Stuck x) m = stuck x

-- a machine that is stuck is unchanged
abbrev pub StaysIfStuck : Next → Machine → Machine → Type 0
StaysIfStuck (Goes k) old new = Unit {0}
StaysIfStuck (Ends e) old new = Unit {0}
StaysIfStuck (Stuck x) old new = new ≡ old

-- whether an instruction leaves one operand more
abbrev pub grows : Instruction → Bool
grows (PutInt z) = true
grows (PutBool b) = true
grows (Load v) = true
grows (Param j) = true
grows _ = false

-- there is room for what the instruction puts on the operands, for its effect, and for the
-- parameters that it sends
pub record HasRoomFor (i : Instruction) (os : List Value) (es : List Effect) : Type 0 where
  pub operands : IsTrue (grows i) → length os < MOST_OPERANDS
  pub effects : 0 < effects_of i → length es < MOST_EFFECTS
  pub parameters : sends i ≤ MOST_PARAMETERS

-- there is room for what the instruction at place k does
abbrev pub HasRoom : List Instruction → ℕ → List Value → List Effect → Type 0
HasRoom code k os es = (i : Instruction) → slice_get code k ≡ Some i → HasRoomFor i os es
