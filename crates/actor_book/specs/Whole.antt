-- Turns of actors, from beginning to end.
use Rattle.std.specs.Prelude.{◌≡◌, ℕ, ◌≤◌, List, length, Option, Some}
use Rattle.turn_code.specs.declared.value.Value.{Value}
use Rattle.turn_code.specs.declared.effect.Effect.{Effect}
use Rattle.turn_code.specs.declared.machine.End.{End}
use Rattle.turn_code.specs.declared.machine.Machine.{Machine}
use Rattle.turn_machine.specs.Turn.{Turn, outcome_of}
use Rattle.actor_state.specs.Outcomes.{outcome_with}
use Rattle.actor_machine.specs.Ledger.{Ledger, Asked, ask, turn_out}
use Rattle.actor_machine.specs.Step.{Says}
use Rattle.actor_machine.specs.declared.event.Event.TheVariants.{Begin, Finish}
use Rattle.actor_book.specs.Answered.{begun_by}

-- the book once actor n has begun a turn
abbrev pub begun_book : Ledger → ℕ → Ledger
begun_book b n = (ask b (Begin n)).book

-- actor n begins a turn and ends it as the set's own code does: the book after both events, and the
-- answer to the end
abbrev pub turned : Ledger → ℕ → Asked
turned b n = ask (begun_book b n) (Finish n)

-- actor n began a turn, which took so many instructions, within the budget of its certificate
pub record HasTurned (b : Ledger) (n count : ℕ) : Type 0 where
  pub turn : Turn
  pub out : turn_out (begun_book b n) n ≡ Some turn
  pub began : (ask b (Begin n)).answer ≡ Says (begun_by turn)
  pub within : count ≤ turn.certificate.budget

-- there is a turn whose code, run on its input, ends so, with these variables and effects, within
-- its certificate
pub record EndsBy (o : Option Turn) (e : End) (vs : List (Option Value)) (es : List Effect)
    (count : ℕ) : Type 0 where
  pub turn : Turn
  pub is : o ≡ Some turn
  pub ran : outcome_of turn ≡ Some (outcome_with e vs es count)
  pub within : count ≤ turn.certificate.budget
  pub few : length es ≤ turn.certificate.effects

-- there is a turn that ends so, with the machine at the end of its run
abbrev pub IsEnding : Option Turn → End → Machine → Type 0
IsEnding o e m = EndsBy o e m.variables.items m.effects.items m.count

-- there is a turn, and so many instructions are within the budget of its certificate
pub record TookWithin (o : Option Turn) (count : ℕ) : Type 0 where
  pub turn : Turn
  pub is : o ≡ Some turn
  pub within : count ≤ turn.certificate.budget
