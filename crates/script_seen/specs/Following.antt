-- A tracer: a second book that replays the events of a book.
use Rattle.std.specs.Prelude.{◌≡◌, ◌+◌, ℕ, Bool, List, [], ◌∷◌, length, Option, Some, slice_get}
use Rattle.std.specs.Io.KnownBytes.{Appends}
use Rattle.turn_code.specs.Outcome.{Outcome}
use Rattle.turn_code.specs.declared.effect.Effect.{Effect}
use Rattle.turn_code.specs.declared.effect.Effect.TheVariants.{Output, Set, Reset}
use Rattle.turn_machine.specs.Turn.{Turn, outcome_of}
use Rattle.tick_wheel.specs.Timers.{Timers}
use Rattle.tick_wheel.specs.Turning.{timers_of}
use Rattle.actor_machine.specs.Core.{names_in}
use Rattle.actor_machine.specs.Effects.{delay, until, without}
use Rattle.actor_machine.specs.Ledger.{Ledger, runs, replay, next, state_of, turn_at}
use Rattle.actor_machine.specs.Step.{report_of}
use Rattle.actor_machine.specs.declared.event.Event.{Event}
use Rattle.script_seen.specs.Told.{stepped}
use Rattle.script_seen.specs.Traced.{told_text}
use Rattle.script_seen.specs.declared.tracing.Tracer.{Tracer}
use Rattle.script_seen.specs.declared.turns.Ended.{Ended}

-- a tracer's timers are those of its book
abbrev pub Agree : Tracer → Type 0
Agree t = timers_of t.wheel ≡ (state_of t.again).timers

-- an event was replayed in a tracer
pub record IsStep (old : Tracer) (e : Event) (new : Tracer) : Type 0 where
  pub set : new.again.set ≡ old.again.set
  pub every : new.every ≡ old.every
  pub place : next new.again ≡ next old.again + 1
  pub state : state_of new.again ≡ (stepped old.again.set (state_of old.again) e).to
  pub agree : Agree old → Agree new

-- these events were replayed in a tracer, and their trace was written
pub record IsFollowed (old : Tracer) (es : List Event) (new : Tracer)
    (from to : Option (List ℕ)) : Type 0 where
  pub set : new.again.set ≡ old.again.set
  pub every : new.every ≡ old.every
  pub place : next new.again ≡ next old.again + length es
  pub state :
      state_of new.again
      ≡ replay old.again.set (runs old.again.set) (state_of old.again) es
  pub agree : Agree old → Agree new
  pub told : Agree old → Appends from to (told_text old.every old.again.set (state_of old.again) es)

-- a tracer's journal begins at the same event as that of a book; nothing else changed
pub record IsCaughtUp (b : Ledger) (old new : Tracer) : Type 0 where
  pub set : new.again.set ≡ old.again.set
  pub every : new.every ≡ old.every
  pub wheel : new.wheel ≡ old.wheel
  pub first : new.again.first ≡ b.first
  pub place : next new.again ≡ next old.again
  pub state : state_of new.again ≡ state_of old.again

-- the turn that actor n of a book has under way, and its result
pub record IsEnded (b : Ledger) (n : ℕ) (e : Ended) : Type 0 where
  pub clock : e.clock ≡ (state_of b).timers.clock
  pub named : slice_get (names_in (state_of b).actors) n ≡ Some e.me
  pub turn : turn_at b.set n (slice_get (state_of b).actors n) ≡ Some e.done
  pub outcome : Outcome
  pub ran : outcome_of e.done ≡ Some outcome
  pub report : e.report ≡ report_of n e.me outcome (state_of b)

-- ---- timers

-- the timers after an effect of a turn of actor n
abbrev pub timers_by : ℕ → Timers → Effect → Timers
timers_by n ts (Output s) = ts
timers_by n ts (Set t z) = until ts n t.0 (delay z)
timers_by n ts (Reset t) = without ts n t.0

-- the timers after several effects, one after another
abbrev pub timers_laid : ℕ → Timers → List Effect → Timers
timers_laid n ts [] = ts
timers_laid n ts (e ∷ es) = timers_laid n (timers_by n ts e) es
