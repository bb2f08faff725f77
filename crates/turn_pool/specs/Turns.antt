-- The next turn on a link.
use Rattle.std.specs.Prelude.{IsSome, IsOk, ◌≡◌, ◌<◌, ℕ, Bool, true, false, Option, None, Some, Ok}
use Rattle.std.specs.Prelude.{Err, option_map}
use Rattle.std.specs.Prelude.{slice_get}
use Rattle.turn_machine.specs.Rooms.{Lying, Free, Begun, Ran, IsToRun}
use Rattle.turn_machine.specs.Turn.{Turn}
use Rattle.actor_machine.specs.Core.{names_in}
use Rattle.actor_machine.specs.Ledger.{Ledger, room, state_of, turn_out}
use Rattle.actor_machine.specs.Refusals.{refuses}
use Rattle.actor_machine.specs.declared.name.ActorName.{ActorName}
use Rattle.actor_machine.specs.declared.event.Event.TheVariants.{Begin}
use Rattle.actor_machine.specs.declared.reply.Refusal.{Refusal}
use Rattle.actor_machine.specs.declared.reply.Refusal.TheVariants.{SkipFirst}
use Rattle.turn_pool.specs.declared.moves.Move.{Move}
use Rattle.turn_pool.specs.declared.moves.Move.TheVariants as move
use Rattle.turn_pool.specs.declared.moves.Moved.{Moved}
use Rattle.turn_pool.specs.declared.moves.Moved.TheVariants as moved
use Rattle.turn_pool.specs.declared.gate.JobName.{JobName}

-- the move of an actor for a gate that watches, from the refusal of its turn, or none
abbrev pub move_by : ℕ → Option Refusal → Option Move
move_by n None = Some (move.Begin n)
move_by n (Some SkipFirst) = Some (move.Skip n)
move_by n _ = None

-- a step for a gate that watches (true) is never whole turns; for any other gate it always is
abbrev pub IsStepBy : Bool → Move → Type 0
IsStepBy true (move.Begin n) = Unit {0}
IsStepBy true (move.Skip n) = Unit {0}
IsStepBy true move.Finish = Unit {0}
IsStepBy true (move.Turns most) = ⊥
IsStepBy false (move.Begin n) = ⊥
IsStepBy false (move.Skip n) = ⊥
IsStepBy false move.Finish = ⊥
IsStepBy false (move.Turns most) = Unit {0}

-- likewise for the answer of the book
abbrev pub IsAnswerBy : Bool → Moved → Type 0
IsAnswerBy true (moved.Begun answer) = Unit {0}
IsAnswerBy true (moved.Skipped answer) = Unit {0}
IsAnswerBy true (moved.Finished answer) = Unit {0}
IsAnswerBy true (moved.Turned turns) = ⊥
IsAnswerBy false (moved.Begun answer) = ⊥
IsAnswerBy false (moved.Skipped answer) = ⊥
IsAnswerBy false (moved.Finished answer) = ⊥
IsAnswerBy false (moved.Turned turns) = Unit {0}

-- the move that an actor can make: begin a turn, or discard an item that is no input of its state;
-- the room of the journal is ignored
abbrev pub move_of : Ledger → ℕ → Option Move
move_of b n = move_by n (refuses b.set (state_of b) (Begin n))

-- the move of the first actor that can make one
pub record IsFirst (b : Ledger) (step : Move) : Type 0 where
  pub actor : ℕ
  pub can : move_of b actor ≡ Some step
  pub first : (n : ℕ) → n < actor → move_of b n ≡ None
  pub room : 0 < room b (state_of b)

-- the next step on a link: that of the first actor that can do something; none if no actor can or
-- the journal is full
abbrev pub IsNext : Ledger → Option Move → Type 0
IsNext b (Some step) = IsFirst b step
IsNext b None = 0 < room b (state_of b) → (n : ℕ) → move_of b n ≡ None

-- a worker's step on a link: the next step if the gate watches, otherwise up to `most` whole turns
abbrev pub IsChosen : Bool → ℕ → Ledger → Option Move → Type 0
IsChosen true most b o = IsNext b o
IsChosen false most b o = o ≡ Some (move.Turns most)

-- the name of a turn for a gate: its link, its actor's name there and its number; none if the link
-- has no such actor
abbrev pub told_of : ℕ → Ledger → Turn → Option JobName
told_of link b t =
    option_map (λ (x : ActorName). record { link = link; actor = x; turn = t.turn })
    (slice_get (names_in (state_of b).actors) t.actor)

-- the name of the turn in a room that hasn't run
abbrev pub told_there : ℕ → Ledger → Lying → Option JobName
told_there link b Free = None
told_there link b (Begun t) = told_of link b t
told_there link b (Ran t) = None

-- the name of the turn that a step began; none if it began none
abbrev pub told : ℕ → Ledger → Lying → Moved → Option JobName
told link b r (moved.Begun (Ok x)) = told_there link b r
told link b r (moved.Begun (Err refusal)) = None
told link b r (moved.Skipped answer) = None
told link b r (moved.Finished answer) = None
told link b r (moved.Turned turns) = None

-- if a step began a turn that is in the room and is out, the turn has a name
abbrev pub NamesBegun : Ledger → Lying → Moved → Option JobName → Type 0
NamesBegun b r (moved.Begun answer) name =
    IsOk answer → (n : ℕ) (t : Turn) → r ≡ Begun t → turn_out b n ≡ Some t → IsSome name
NamesBegun b r (moved.Skipped answer) name = Unit {0}
NamesBegun b r (moved.Finished answer) name = Unit {0}
NamesBegun b r (moved.Turned turns) name = Unit {0}

-- a turn that a step began has a name
abbrev pub IsNamed : Moved → Option JobName → Type 0
IsNamed (moved.Begun answer) name = IsOk answer → IsSome name
IsNamed (moved.Skipped answer) name = Unit {0}
IsNamed (moved.Finished answer) name = Unit {0}
IsNamed (moved.Turned turns) name = Unit {0}

-- the room holds no turn that hasn't run
abbrev pub NoneToRun : Lying → Type 0
NoneToRun Free = Unit {0}
NoneToRun (Begun t) = ⊥
NoneToRun (Ran t) = Unit {0}

-- if a step began a turn, the room holds it, not run yet; otherwise the room holds no such turn
abbrev pub LeavesToRun : Moved → Lying → Type 0
LeavesToRun (moved.Begun (Ok x)) r = IsToRun r
LeavesToRun (moved.Begun (Err refusal)) r = NoneToRun r
LeavesToRun (moved.Skipped answer) r = NoneToRun r
LeavesToRun (moved.Finished answer) r = NoneToRun r
LeavesToRun (moved.Turned turns) r = NoneToRun r
