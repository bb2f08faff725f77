-- The contents of a worker's room.
use Rattle.std.specs.Prelude.{◌≡◌, ℕ}
use Rattle.turn_code.specs.declared.sorts.Sorts.{Sorts}
use Rattle.turn_code.specs.declared.input.Input.{Input}
use Rattle.turn_code.specs.declared.input.Place.{Place}
use Rattle.turn_code.specs.declared.numbers.ProcessNumber.{ProcessNumber}
use Rattle.turn_code.specs.declared.draft.Draft.{Draft}
use Rattle.turn_machine.specs.Turn.{Turn, IsRunnableBy, IsOutcome, Begins}
use Rattle.turn_machine.specs.declared.ended.Ended.{Ended}
use Rattle.turn_machine.specs.declared.room.Held.{Held}
use Rattle.turn_machine.specs.declared.room.Held.TheVariants as held

-- nothing, a turn that hasn't run yet, or one that has run
pub data Lying : Type 0 where
  Free : Lying
  Begun : Turn → Lying
  Ran : Turn → Lying

abbrev pub lying : Held → Turn → Lying
lying held.Nothing t = Free
lying held.Begun t = Begun t
lying held.Ran t = Ran t

-- the end, variables, effects and count are those of the run of the turn's own code on its own
-- input, within its certificate
abbrev pub IsEnded : Turn → Ended → Type 0
IsEnded t e = IsOutcome t e.end e.machine.variables.items e.machine.effects.items e.machine.count

-- a turn that hasn't run can run with these sorts; one that has run has this end
abbrev pub IsRoom : Held → Turn → Sorts → Ended → Type 0
IsRoom held.Nothing t s e = Unit {0}
IsRoom held.Begun t s e = IsRunnableBy t s
IsRoom held.Ran t s e = IsEnded t e

-- a turn that hasn't run is run; all else stays
abbrev pub ran : Lying → Lying
ran Free = Free
ran (Begun t) = Ran t
ran (Ran t) = Ran t

abbrev pub IsToRun : Lying → Type 0
IsToRun Free = ⊥
IsToRun (Begun t) = Unit {0}
IsToRun (Ran t) = ⊥

abbrev pub HasRun : Lying → Type 0
HasRun Free = ⊥
HasRun (Begun t) = ⊥
HasRun (Ran t) = Unit {0}

-- a turn that has run has this end
abbrev pub EndedSo : Lying → Ended → Type 0
EndedSo Free e = Unit {0}
EndedSo (Begun t) e = Unit {0}
EndedSo (Ran t) e = IsEnded t e

-- the room holds that transition of the draft on that input, which hasn't run yet
pub record LiesBegun (d : Draft) (actor turn : ℕ) (process : ProcessNumber) (place : Place)
    (input_number : ℕ) (input : Input) (r : Lying) : Type 0 where
  pub job : Turn
  pub lies : r ≡ Begun job
  pub begins : Begins d actor turn process place input_number input job
