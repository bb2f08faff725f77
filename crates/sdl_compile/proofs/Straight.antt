-- Straight stretches of code: the claims about their places are right.
use Rattle.std.proofs.Common.{◌≡◌, ℕ, ◌+◌, ◌<◌, ◌≤◌, pos, ◌≤ℤ◌, List, [], ◌∷◌, ◌++◌, length, Some}
use Rattle.std.specs.Prelude.{slice_get, All, Contains}
use Rattle.turn_code.specs.declared.value.Sort.{Sort}
use Rattle.turn_code.specs.declared.instruction.Instruction.{Instruction}
use Rattle.turn_code.specs.declared.variable_set.VariableSet.{VariableSet}
use Rattle.turn_code.specs.declared.draft.Draft.{Draft}
use Rattle.turn_code.specs.declared.draft.DraftState.{DraftState}
use Rattle.turn_code.specs.Sets.{Has, IsWithin}
use Rattle.turn_code.specs.Code.{takes, reads, sets, shape_after, set_after, parameters_in, timers_in, divisors_in, states_in, jumps, behind}
use Rattle.turn_code.specs.Transitions.{Transition}
use Rattle.turn_code.specs.Rules.{Agree, KeepsOutput}

-- What an instruction requires of the shape, of the variables that are set, and of its names.
pub record IsRight (d : Draft) (t : Transition) (shape : List Sort) (set : VariableSet) (x : Instruction) : Type 0 where
  pub under : length (takes d.signals t.process.variables x) ≤ length shape
  pub sort : Agree (takes d.signals t.process.variables x) shape
  pub reads_set : All (Has set) (reads x)
  pub states : (q : ℕ) (s : DraftState) → Contains (states_in x) q → slice_get t.process.states q ≡ Some s → IsWithin s.set (set_after x set)
  pub states_there : All (λ q. q < length t.process.states) (states_in x)
  pub reads_there : All (λ v. v < length t.process.variables) (reads x)
  pub sets_there : All (λ v. v < length t.process.variables) (sets x)
  pub parameters : All (λ j. j < length t.parameters) (parameters_in x)
  pub timers : All (λ n. n < length t.process.timers) (timers_in x)
  pub divisors : All (λ z. pos 1 ≤ℤ z) (divisors_in x)
  pub outputs : KeepsOutput d t x

-- Each instruction of a straight stretch has what it requires.
abbrev pub AreRight : Draft → Transition → List Sort → VariableSet → List Instruction → Type 0
AreRight d t shape set [] = Unit {0}
AreRight d t shape set (x ∷ is) =
    IsRight d t shape set x × AreRight d t (shape_after d.signals t.process.variables t.parameters x shape) (set_after x set) is

-- The code goes on only at the next place.
pub record IsStep (x : Instruction) : Type 0 where
  pub jumping : jumps x ≡ []
  pub going : (k : ℕ) → behind x k ≡ (k + 1) ∷ []

-- Instructions that each go on at the next place.
abbrev pub AreSteps : List Instruction → Type 0
AreSteps [] = Unit {0}
AreSteps (x ∷ is) = IsStep x × AreSteps is

pub steps_append : (a b : List Instruction) → AreSteps a → AreSteps b → AreSteps (a ++ b)
steps_append [] b h k = k
steps_append (x ∷ a) b h k = (h.0, steps_append a b h.1 k)
